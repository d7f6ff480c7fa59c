-- What may be answered to each event.
use Rattle.std.proofs.Common.{◌≡◌, ℕ, ◌++◌, Option, refl, subst}
use Rattle.kr_rollout.specs.declared.answer.Answer.{Answer}
use Rattle.kr_rollout.specs.declared.answer.Answer.TheVariants as answer
use Rattle.kr_rollout.specs.declared.event.Event.{Event}
use Rattle.kr_rollout.specs.declared.event.Event.TheVariants as event
use Rattle.kr_history.specs.Acting.{Caller, AddsEntry}
use Rattle.kr_rollout.specs.Answers.{IsAnswer}
use Rattle.kr_rollout.specs.Callers.{did_of, gave_of}
use Rattle.kr_rollout.specs.Histories.{state_of}
use Rattle.kr_rollout.specs.States.{State}

-- the answer stands in the table
pub record MayGive (asked : Event) (given : Answer) : Type 0 where
  pub st : State
  pub held : Option ℕ
  pub is : IsAnswer (did_of asked) (gave_of given) st held

pub may_give : (old new : Caller) (asked : Event) (given : Answer) → AddsEntry old asked given new
    → MayGive asked given
may_give old new asked given a =
    let st = state_of old.opening (old.seen ++ a.others) in
    let held = a.entry.line.held in
    record {
      st = st;
      held = held;
      is = subst (λ d. IsAnswer d (gave_of given) st held) a.records.did_is
          (subst (λ g. IsAnswer a.entry.line.did g st held) a.records.gave_is a.step.answer);
    }

released_by : (given : Answer) (st : State) (held : Option ℕ)
    → IsAnswer (did_of event.LetGo) (gave_of given) st held → given ≡ answer.Released
released_by answer.Released st held a = refl
released_by other st held a = absurd a

-- nothing else is answered to a LetGo
pub answers_let_go : (old new : Caller) (given : Answer) → AddsEntry old event.LetGo given new
    → given ≡ answer.Released
answers_let_go old new given a =
    let m = may_give old new event.LetGo given a in released_by given m.st m.held m.is

-- who is told to be gone is the one that was asked for
pub gone_adopting : (old new : Caller) (replica other : ℕ)
    → AddsEntry old (event.Adopt replica) (answer.Gone other) new → other ≡ replica
gone_adopting old new replica other a =
    (may_give old new (event.Adopt replica) (answer.Gone other) a).is.1
