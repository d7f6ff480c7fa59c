-- A part of a step adds nothing, or one entry that leaves what is held: what holds in both cases
-- holds.
use Rattle.std.proofs.Common.{◌≡◌, inl, inr, ℕ, Bool, true, false, List, Option, Result, Ok, Err}
use Rattle.kr_provider.specs.Publication.{Publication}
use Rattle.kr_provider.specs.declared.refusal.Opened.{Opened}
use Rattle.kr_provider.specs.declared.refusal.SealNo.{SealNo}
use Rattle.kr_provider.specs.declared.refusal.UnsealNo.{UnsealNo}
use Rattle.kr_store.specs.declared.rows.Row.{Row}
use Rattle.kr_rollout.specs.declared.answer.Answer.{Answer}
use Rattle.kr_rollout.specs.declared.answer.Answer.TheVariants as answer
use Rattle.kr_rollout.specs.declared.event.Event.TheVariants as event
use Rattle.kr_history.specs.Acting.{Caller, AddsEntry}
use Rattle.kr_history.specs.CallerLaws.{LeavesHolding}
use Rattle.kr_history.specs.declared.call.CallNo.{CallNo}
use Rattle.kr_history.specs.declared.call.CallNo.TheVariants as refusal
use Rattle.kr_rewrite.specs.Rewrites.{FindsNone, ReplacesBy, ResealsBy, RewritesBy, RewritesData, RewritesOver, ReadsFoundRow}
use Rattle.kr_rewrite.specs.declared.outcome.Step.{Step}
use Rattle.kr_rewrite.specs.declared.outcome.Step.TheVariants as step

module _ (old new : Caller) (X : Type 0) (same : new ≡ old → X) where
  -- an After that found none
  module _ (above : List ℕ) (one : (given : Answer) → LeavesHolding given
      → AddsEntry old (event.After above) given new → X) where
    pub found_none : (result : Result Step CallNo) → FindsNone above old result new → X
    found_none (Ok step.End) a = one answer.Absent tt a
    found_none (Err refusal.NoMemory) a = one answer.NoMemory tt a
    found_none (Err refusal.Spent) a = same a.same
    found_none other a = absurd a

  -- the row that was found is rewritten
  module _ (row : Row) (one : (stored : List ℕ) (given : Answer) → LeavesHolding given
      → AddsEntry old (event.Replace row.path row.revision stored) given new → X) where
    stays : (given : Answer) (result : Result Step CallNo) → ReplacesBy row.path given result
        → LeavesHolding given
    stays (answer.Written revision) result r = tt
    stays (answer.Changed revision) result r = tt
    stays answer.StoreFailed result r = tt
    stays (answer.StoreFull needed) result r = tt
    stays answer.NoMemory result r = tt
    stays given result r = absurd r

    resealed : (p : Publication) (plain : List ℕ) (sealed : Result (List ℕ) SealNo)
        (result : Result Step CallNo) → ResealsBy p row plain sealed old result new → X
    resealed p plain (Ok stored) result (inl r) =
        one stored r.given (stays r.given result r.answers) r.replaces
    resealed p plain (Ok stored) result (inr n) = same n.0.same
    resealed p plain (Err why) result r = same r.1

    module _ {D : Type 0} (left : D → Option (List ℕ)) (count : D → ℕ) (p : Publication)
        (dice after : D) where
      data_of : (plain : List ℕ) (stale : Bool) (result : Result Step CallNo)
          → RewritesData left count p row plain stale old dice result new after → X
      data_of plain false result r = same r.1
      data_of plain true result (inl r) = resealed p plain r.sealed result r.reseals
      data_of plain true result (inr r) = same r.1

      opened_row : (opened : Result Opened UnsealNo) (result : Result Step CallNo)
          → RewritesBy left count p row opened old dice result new after → X
      opened_row (Ok opened) result r = data_of opened.plain opened.stale result r
      opened_row (Err why) result r = same r.1

      pub rewritten : {S : Type 0} (Reads : ReadsFoundRow S) (from to : S)
          (result : Result Step CallNo)
          → RewritesOver Reads left count p row old from dice result new to after → X
      rewritten Reads from to result (inl o) = opened_row o.opened result o.rewrites
      rewritten Reads from to result (inr n) = same n.0.1
