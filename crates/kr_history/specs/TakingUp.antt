-- How a call begins that works by a configuration: it adopts the replica's current generation, and
-- gives its bench the configuration.
use Rattle.std.specs.Prelude.{◌≡◌, ℕ, Some, Result, Ok, Err}
use Rattle.kr_provider.specs.BenchKeys.{TakesKeys, adoption_of}
use Rattle.kr_provider.specs.BenchState.{BenchState}
use Rattle.kr_provider.specs.Publication.{Publication}
use Rattle.kr_rollout.specs.declared.answer.Answer.TheVariants as answer
use Rattle.kr_rollout.specs.declared.event.Event.TheVariants as event
use Rattle.kr_rollout.specs.Callers.{holding}
use Rattle.kr_history.specs.Acting.{Caller, AddsEntry}
use Rattle.kr_history.specs.Calls.{AdoptsNothing}
use Rattle.kr_history.specs.declared.call.CallNo.{CallNo}

module _ {L D : Type 0} (replica : ℕ) (old : Caller) (before : BenchState L D) where
  -- the seat holds the generation, and the bench has its configuration, with a page for each key
  pub record HasTakenUp (new : Caller) (after : BenchState L D) : Type 0 where
    pub number : ℕ
    pub p : Publication
    pub adopts : AddsEntry old (event.Adopt replica) (answer.Adopted number p) new
    pub holds : holding new.mine ≡ Some (number, p)
    pub kept : after ≡ record before { published = Some p; pages = after.pages }
    pub takes : TakesKeys p (adoption_of before) (adoption_of after)

  -- or nothing was adopted, and the bench is as it was
  abbrev pub TakesUpCurrent : Result (Unit {0}) CallNo → Caller → BenchState L D → Type 0
  TakesUpCurrent (Ok done) new after = HasTakenUp new after
  TakesUpCurrent (Err why) new after = AdoptsNothing replica old why new × (after ≡ before)
