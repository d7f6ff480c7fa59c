-- Answers of Store::replace_if.
use Rattle.std.proofs.Common.{◌≡◌, List, ◌-◌, get_or, Option, is_some, subst, sym, ap, ◌∙◌}
use Rattle.kr_base.specs.Rules.{IsResource}
use Rattle.kr_store.specs.declared.format.Check.{Check}
use Rattle.kr_store.specs.declared.kept_row.KeptRow.{KeptRow}
use Rattle.kr_store.specs.Rows.{HasCheck, check_in, put_of}
use Rattle.kr_store.specs.Stores.{Kept, IsLatestPut, Puts}
use Rattle.kr_store.specs.inner.KeptRows.{log_rows_of, shared_row}
use Rattle.kr_store.proofs.Places.{live_at_revision}
use Rattle.kr_store.proofs.Shared.{shared_at, lies_in, put_at, names_at, replaces_by}
use Rattle.kr_store.proofs.store.Store.replace_if.Goals as goal

pub row_names-requires : goal.row_names-requires
row_names-requires g c =
    let live = sym c.live.ensures ∙ c.in-Some.is in
    let lies = lies_in (shared_at c.self.invariant c.args.path.now live) c.as_slice.ensures in
    let p = put_at c.self.invariant c.args.path.now live in (
      lies.0,
      lies.1,
      λ d. ap is_some (ap (λ (l : List KeptRow). shared_row (get_or l (c.in-Some.last - 1) d))
          c.as_slice.ensures ∙ p.1.shares d),
    )

pub append_put-requires-clause-own : goal.append_put-requires-clause-own
append_put-requires-clause-own g c =
    let p = put_at c.self.invariant c.args.path.now (sym c.live.ensures ∙ c.in-Some.is) in
    let names = names_at (c.in-Some.last - 1) p.0 c.in-Ok.own c.in-Ok.resource c.in-Ok.ensures
    c.as_slice.ensures p.1.shares in
    sym names.0
    ∙ (live_at_revision (log_rows_of c.self.inside.rows.0) c.args.path.now p.0 p.1.is).1

pub append_put-requires-clause-change : goal.append_put-requires-clause-change
append_put-requires-clause-change g c =
    let p = put_at c.self.invariant c.args.path.now (sym c.live.ensures ∙ c.in-Some.is) in
    let names = names_at (c.in-Some.last - 1) p.0 c.in-Ok.own c.in-Ok.resource c.in-Ok.ensures
    c.as_slice.ensures p.1.shares in (
      subst IsResource names.1 p.1.rules.1.0,
      c.requires.stored,
      subst (λ (k : Kept). HasCheck k.format c.keep-check.result) c.self.view_is
          c.keep-check.ensures.rule,
    )

pub returns-in-Ok : goal.returns-in-Ok
returns-in-Ok g c =
    let old = c.args.self.now in
    let new = c.append_put.new.self in
    let path = c.args.path.now in
    let p = put_at c.self.invariant path (sym c.live.ensures ∙ c.in-Some.is) in
    let check : c.keep-check.result ≡ check_in old.format c.args.check =
    c.keep-check.ensures.kept ∙ ap (λ (k : Kept). check_in k.format c.args.check) c.self.view_is in
    replaces_by old new path c.args.revision c.args.stored c.args.check c.in-Ok.resource p.0
    c.append_put.result
    (subst (λ (k : Kept). IsLatestPut k.rows path c.args.revision p.0) c.self.view_is
    (record { is = p.1.is; revision_is = p.1.revision_is ∙ c.if-last-revision.false }))
    (names_at (c.in-Some.last - 1) p.0 c.in-Ok.own c.in-Ok.resource c.in-Ok.ensures
    c.as_slice.ensures p.1.shares).1
    (subst (λ (o : Option Check).
    Puts old new (put_of path c.in-Ok.resource c.args.stored o) c.append_put.result)
    check c.append_put.ensures)
