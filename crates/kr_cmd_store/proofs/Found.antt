-- The row of a path, as it was found in a store.
use Rattle.std.proofs.Common.{◌≡◌, List, ℕ, Result, Ok, Err, refl, sym, subst}
use Rattle.kr_store.specs.Rows.{live}
use Rattle.kr_store.specs.declared.rows.LogRow.{LogRow}
use Rattle.kr_store.specs.declared.rows.Row.{Row}
use Rattle.kr_cmd_steps.specs.Environment.{Environment}
use Rattle.kr_cmd_steps.specs.Phases.{by_result, with_memory}
use Rattle.kr_cmd_steps.specs.StoreSteps.{row_found}
use Rattle.kr_cmd_steps.specs.Steps.{refuse}
use Rattle.kr_cmd_steps.specs.inner.Phases.{Does}
use Rattle.kr_cmd_steps.specs.inner.Tapes.{IsLookedUp}
use Rattle.kr_cmd_messages.specs.declared.refusal.Refusal.{Refusal}
use Rattle.kr_cmd_messages.specs.declared.refusal.Stop.{Stop}
use Rattle.kr_cmd_messages.specs.declared.refusal.Stop.TheVariants.{Words, Refused, Fault, NoMemory}
use Rattle.kr_cmd_steps.proofs.RunTo.{given, home_refl, reach}
use Rattle.kr_cmd_steps.proofs.Made.{remembers}
use Rattle.kr_cmd_steps.proofs.Works.{lacks}

pub refused_so : {A : Type 0} (why other : Refusal) (a : Environment) → why ≡ other
    → Does {A = A} (refuse other) a a (Err (Refused why))
refused_so {A} why other a same =
    subst (λ x. Does {A = A} (refuse x) a a (Err (Refused why))) same
    (record { home = home_refl a; ends = λ left s. reach left (refl, refl) s })

pub looks_up : (path : List ℕ) (rows : List LogRow) (a : Environment) (result : Result Row Stop)
    → IsLookedUp rows path result
    → Does (with_memory (by_result (row_found path (live rows path)))) a a result
looks_up path rows a (Ok row) is =
    subst (λ found. Does (with_memory (by_result (row_found path found))) a a (Ok row)) (sym is)
    (remembers (given row a))
looks_up path rows a (Err (Refused why)) is =
    subst (λ found. Does (with_memory (by_result (row_found path found))) a a (Err (Refused why)))
    (sym is.0) (remembers (refused_so why _ a is.1))
looks_up path rows a (Err NoMemory) is = lacks (by_result (row_found path (live rows path))) a
looks_up path rows a (Err other) is = absurd is
