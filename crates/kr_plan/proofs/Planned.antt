-- What a plan asks of the calls that it makes.
use Rattle.std.proofs.Common.{◌≡◌, ℕ, ◌<◌, ◌^◌, true, List, [], ◌++◌, length, sym, ap, subst, ◌∙◌, arith}
use Rattle.std.proofs.lemmas.List.{length-map}
use Rattle.kr_config.specs.declared.class.Class.{Class}
use Rattle.kr_config.specs.declared.settings.Entry.{Entry}
use Rattle.kr_config.specs.Kept.{ConfigEntry, entry_lists, rows_of, keeps}
use Rattle.kr_plan.specs.declared.moves.Plan.{Plan}
use Rattle.kr_plan.specs.Merges.{merged_rows, classes_of, wide_rows}
use Rattle.kr_plan.specs.Plans.{IsPlan, clashes_at, clash_reasons, amounts, limit_reasons, reasons, replica_moves}
use Rattle.kr_plan.proofs.Keeping.{IsSmall, IsWithin, within, wide_small, wide_keeps, turned_keeps}

-- the made entries are those of the table
made : (one other : List ConfigEntry) (classes table : List Class) (entries : List Entry)
    → rows_of entries ≡ merged_rows classes one other → classes ≡ table
    → rows_of entries ≡ merged_rows table one other
made one other classes table entries is same = is ∙ ap (λ l. merged_rows l one other) same

pub slice_small : (from to : List ConfigEntry) (classes : List Class) (entries slice : List Entry)
    → keeps from ≡ true → keeps to ≡ true → classes ≡ classes_of from to
    → rows_of entries ≡ merged_rows classes from to → slice ≡ entries → IsSmall (rows_of slice)
slice_small from to classes entries slice a b same is lent =
    subst IsSmall
    (sym (ap rows_of lent ∙ made from to classes (classes_of from to) entries is same))
    (wide_small from to a b)

pub few_entries : (slice : List Entry) → IsSmall (rows_of slice) → length slice < 2 ^ 32
few_entries slice small =
    let long = length-map slice entry_lists in omega (arith, long, small.entries)

wide_within : (from to : List ConfigEntry) (classes : List Class) (entries slice : List Entry)
    → classes ≡ classes_of from to → rows_of entries ≡ merged_rows classes from to
    → slice ≡ entries → limit_reasons (amounts (rows_of slice)) ≡ []
    → IsWithin (wide_rows from to)
wide_within from to classes entries slice same is lent few =
    within (wide_rows from to)
    (subst (λ rows. limit_reasons (amounts rows) ≡ [])
    (ap rows_of lent ∙ made from to classes (classes_of from to) entries is same) few)

pub wide_made : (from to : List ConfigEntry) (classes : List Class) (entries slice : List Entry)
    → keeps from ≡ true → keeps to ≡ true → classes ≡ classes_of from to
    → clash_reasons (clashes_at classes from to) ≡ []
    → rows_of entries ≡ merged_rows classes from to → slice ≡ entries
    → limit_reasons (amounts (rows_of slice)) ≡ [] → keeps (rows_of entries) ≡ true
wide_made from to classes entries slice a b same none is lent few =
    subst (λ rows. keeps rows ≡ true)
    (sym (made from to classes (classes_of from to) entries is same))
    (wide_keeps from to a b (subst (λ l. clash_reasons (clashes_at l from to) ≡ []) same none)
    (wide_within from to classes entries slice same is lent few))

pub turned_made : (from to : List ConfigEntry) (classes : List Class) (entries slice turned : List Entry)
    → keeps from ≡ true → keeps to ≡ true → classes ≡ classes_of from to
    → clash_reasons (clashes_at classes from to) ≡ []
    → rows_of entries ≡ merged_rows classes from to → slice ≡ entries
    → limit_reasons (amounts (rows_of slice)) ≡ []
    → rows_of turned ≡ merged_rows classes to from → keeps (rows_of turned) ≡ true
turned_made from to classes entries slice turned a b same none is lent few own =
    subst (λ rows. keeps rows ≡ true)
    (sym (made to from classes (classes_of from to) turned own same))
    (turned_keeps from to a b (subst (λ l. clash_reasons (clashes_at l from to) ≡ []) same none)
    (wide_within from to classes entries slice same is lent few))

-- ---- what is answered

pub planned : (from to : List ConfigEntry) (classes : List Class)
    (entries slice turned : List Entry) (replicas : ℕ) (plan : Plan) → classes ≡ classes_of from to
    → clash_reasons (clashes_at classes from to) ≡ []
    → rows_of entries ≡ merged_rows classes from to → slice ≡ entries
    → limit_reasons (amounts (rows_of slice)) ≡ []
    → rows_of turned ≡ merged_rows classes to from
    → plan.wide.entries.0 ≡ entries → plan.turned.entries.0 ≡ turned
    → plan.moves.0 ≡ replica_moves replicas
    → (reasons from to ≡ []) × IsPlan from to replicas plan
planned from to classes entries slice turned replicas plan same none is lent few own wide_is
    turned_is moves_are =
    let table = classes_of from to in
    let secrets = subst (λ l. clash_reasons (clashes_at l from to) ≡ []) same none in
    let limits = subst (λ rows. limit_reasons (amounts rows) ≡ [])
    (ap rows_of lent ∙ made from to classes table entries is same) few in (
      (λ i. secrets i ++ limits i),
      record {
        wide = ap rows_of wide_is ∙ made from to classes table entries is same;
        turned = ap rows_of turned_is ∙ made to from classes table turned own same;
        moves = moves_are;
      },
    )
