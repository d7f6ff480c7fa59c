-- What one event that is asked adds and keeps, whether it was made or no line may be added.
use Rattle.std.specs.Prelude.{IfOk, IsErr, OnErr, ◌↔◌}
use Rattle.std.proofs.Common.{◌≡◌, ℕ, cond, List, Some, Result, Ok, Err, refl, sym, ap, subst}
use Rattle.kr_base.specs.declared.errors.Spent.{Spent}
use Rattle.kr_store.specs.Rows.{IsRow}
use Rattle.kr_store.specs.declared.format.Format.{Format}
use Rattle.kr_store.specs.declared.rows.Row.{Row}
use Rattle.kr_rollout.specs.declared.answer.Answer.{Answer}
use Rattle.kr_rollout.specs.declared.answer.Answer.TheVariants as answer
use Rattle.kr_rollout.specs.declared.event.Event.{Event}
use Rattle.kr_rollout.specs.declared.event.Event.TheVariants as event
use Rattle.kr_rollout.specs.Callers.{brings_settings, did_of, found_in, holding}
use Rattle.kr_history.specs.Acting.{Caller, AddsEntry, IsCaller}
use Rattle.kr_history.specs.CallLaws.{AsksNoHold, AsksNoHonesty}
use Rattle.kr_history.specs.Calls.{AddsNothing, KeepsHonesty}
use Rattle.kr_history.specs.Parts.{AddsWithin, put_by}
use Rattle.kr_history.specs.inner.Quiet.{KeepsByItself}
use Rattle.kr_history.proofs.Following.{next_law}
use Rattle.kr_history.proofs.FoundRules.{handed_out_keeps_rules}
use Rattle.kr_history.proofs.KeptByEvents.{holds_still, keeps_quiet, keeps_same}
use Rattle.kr_history.proofs.Nexts.{opening_is}
use Rattle.kr_history.proofs.PartsAdd.{entry_within, same_within}

module _ (old new : Caller) (asked : Event) where
  abbrev IsMade : Result Answer Spent → Type 0
  IsMade made = IfOk made (λ given. AddsEntry old asked given new)

  pub made_within : (made : Result Answer Spent) → IsMade made → OnErr made (new ≡ old)
      → AddsWithin 1 (cond (brings_settings (did_of asked)) 1 0) (put_by (did_of asked)) old new
  made_within (Ok given) a none = entry_within old new asked given a
  made_within (Err spent) a none = same_within 1 (cond (brings_settings (did_of asked)) 1 0)
      (put_by (did_of asked)) old new none

  made_honest : (made : Result Answer Spent) → IsMade made → OnErr made (new ≡ old)
      → AsksNoHonesty asked → KeepsHonesty old new
  made_honest (Ok given) a none quiet = keeps_quiet old new asked given quiet a
  made_honest (Err spent) a none quiet = keeps_same old new none

  pub made_holds : (made : Result Answer Spent) → IsMade made → OnErr made (new ≡ old)
      → AsksNoHold asked → holding new.mine ≡ holding old.mine
  made_holds (Ok given) a none quiet = holds_still old new asked given quiet a
  made_holds (Err spent) a none quiet = ap (λ (c : Caller). holding c.mine) none

pub made_keeps : (old new : Caller) (asked : Event) (made : Result Answer Spent)
    → IsMade old new asked made → OnErr made (new ≡ old) → KeepsByItself asked old new
made_keeps old new (event.Replace path revision stored) made a none = tt
made_keeps old new (event.Reload replica p expect) made a none = tt
made_keeps old new (event.Join replica p) made a none = tt
made_keeps old new other made a none = made_honest old new other made a none tt

pub made_nothing : (old new : Caller) (made : Result Answer Spent)
    → IsErr made ↔ (old.left ≡ 0) → OnErr made (new ≡ old) → OnErr made (AddsNothing old new)
made_nothing old new (Ok given) spent none = tt
made_nothing old new (Err e) spent none = record { spent = spent.0 refl; same = none }

-- the entry of an answer that was given is one of what that answer is
pub told_as : {old new : Caller} {asked : Event} {given told : Answer} → given ≡ told
    → AddsEntry old asked given new → AddsEntry old asked told new
told_as {old} {new} {asked} is added = subst (λ answer. AddsEntry old asked answer new) is added

-- the row that an After found was found last, and keeps its rules
pub next_row : (old new : Caller) (above : List ℕ) (row : Row) → IsCaller old
    → AddsEntry old (event.After above) (answer.Found row) new
    → (found_in new.mine ≡ Some row) × IsRow new.opening.format row
next_row old new above row k a =
    let asked = event.After above in
    let format : new.opening.format ≡ old.opening.format =
    ap (λ o. o.format) (opening_is old new asked (answer.Found row) a) in (
      next_law old new above row a,
      subst (λ (f : Format). IsRow f row) (sym format)
          (handed_out_keeps_rules old new asked row k a),
    )
