-- Where nothing was adopted, nothing was added, or one entry that leaves what is held: what holds
-- in both cases holds.
use Rattle.std.proofs.Common.{◌≡◌, inl, inr, ℕ}
use Rattle.kr_rollout.specs.declared.answer.Answer.{Answer}
use Rattle.kr_rollout.specs.declared.answer.Answer.TheVariants as answer
use Rattle.kr_rollout.specs.declared.event.Event.TheVariants as event
use Rattle.kr_history.specs.Acting.{Caller, AddsEntry}
use Rattle.kr_history.specs.CallerLaws.{LeavesHolding}
use Rattle.kr_history.specs.Calls.{AdoptsNothing}
use Rattle.kr_history.specs.declared.call.CallNo.{CallNo}
use Rattle.kr_history.specs.declared.call.CallNo.TheVariants as refusal

module _ (replica : ℕ) (old new : Caller) (X : Type 0) (same : new ≡ old → X)
    (one : (given : Answer) → LeavesHolding given → AddsEntry old (event.Adopt replica) given new
    → X) where
  pub nothing_adopted : (why : CallNo) → AdoptsNothing replica old why new → X
  nothing_adopted refusal.Gone a = one (answer.Gone replica) tt a
  nothing_adopted refusal.Spent a = same a.same
  nothing_adopted refusal.NoMemory (inl e) = same e
  nothing_adopted refusal.NoMemory (inr a) = one answer.NoMemory tt a
  nothing_adopted other a = absurd a
