-- What the tactic leaves open of `add`.
use Rattle.std.proofs.Common.{◌≡◌, ◌++◌, ◌∷◌, [], sym, subst, refl, true, rules}
use Rattle.std.specs.List.{list_any}
use Rattle.kr_config.specs.Kept.{rows_of}
use Rattle.kr_config.specs.Classes.{classes_in, IsTableOf, is_rest}
use Rattle.kr_config.specs.inner.ClassTables.{or_rest}
use Rattle.kr_config.proofs.ClassTables.{table_added, with_fresh, rest_kept}
use Rattle.kr_config.proofs.class_table.ClassTable.add.Goals as goal

pub returns-clause-ok : goal.returns-clause-ok
returns-clause-ok c = λ added table.
    let items = c.self.inside.classes.items in
    let new = c.put_in_order.new.classes.items in
    let rows = rows_of c.args.settings.now.entries.0 in
    let appended : c.append.new.self.items ≡ items ++ c.in_ok-fresh.fresh.items = search rules in
    let all = with_fresh items new appended c.in_ok-fresh.ensures c.as_slice.ensures c.self.invariant.0
    c.put_in_order.ensures.members in
    let kept = rest_kept (or_rest items) (classes_in rows) new c.self.invariant.0 all in
    subst (IsTableOf (added ++ rows ∷ [])) (sym kept.1)
    (table_added added rows (or_rest items) (classes_in rows) new
    (subst (IsTableOf added) (sym c.self.view_is) table) refl c.put_in_order.ensures.ascends all)

pub invariant_of-self-2 : goal.invariant_of-self-2
invariant_of-self-2 c =
    let items = c.self.inside.classes.items in
    let appended : c.append.new.self.items ≡ items ++ c.in_ok-fresh.fresh.items = search rules in
    let kept = rest_kept (or_rest items) (classes_in (rows_of c.args.settings.now.entries.0))
    c.put_in_order.new.classes.items c.self.invariant.0
    (with_fresh items _ appended c.in_ok-fresh.ensures c.as_slice.ensures c.self.invariant.0
    c.put_in_order.ensures.members) in
    (subst (λ l. list_any is_rest l ≡ true) (sym kept.1) kept.0, c.self.invariant.1)
