-- What is judged: an event that would give a replica another configuration, and the state that it
-- would leave.
use Rattle.std.specs.Prelude.{◌≡◌, ℕ, [], ◌∷◌, ◌++◌, length, slice_set, None, Some, ⊤}
use Rattle.kr_provider.specs.Publication.{Publication}
use Rattle.kr_rollout.specs.declared.line.Did.{Did}
use Rattle.kr_rollout.specs.declared.line.Did.TheVariants.{Reload, Join}
use Rattle.kr_rollout.specs.declared.line.Gave.{Gave}
use Rattle.kr_rollout.specs.declared.line.Gave.TheVariants.{Refused, Reloaded, Joined, Nothing}
use Rattle.kr_rollout.specs.States.{State, current_of}
use Rattle.kr_rollout.specs.Answers.{HasExpected}

-- the replica has the configuration as its current generation, which is the next one
abbrev pub with_configuration : State → (replica : ℕ) → Publication → State
with_configuration st replica p = record st {
  generations = st.generations ++ record { replica = replica; published = p } ∷ [];
  current = slice_set st.current replica (Some (length st.generations));
}

-- a Reload is judged where the replica is in and no other generation is expected of it, and a Join
-- where the replica isn't in
abbrev pub MayBeJudged : Did → State → Type 0
MayBeJudged (Reload replica p expect) st = HasExpected st replica expect
MayBeJudged (Join replica p) st = current_of st replica ≡ None
MayBeJudged did st = ⊥

-- the state that it would leave
abbrev pub judged_state : Did → State → State
judged_state (Reload replica p expect) st = with_configuration st replica p
judged_state (Join replica p) st = with_configuration st replica p
judged_state did st = st

-- it was done
abbrev pub IsDone : Gave → Type 0
IsDone (Reloaded number) = ⊤
IsDone (Joined number) = ⊤
IsDone gave = ⊥

-- the answer to what is judged: it is refused where that doesn't fit, and done where it fits
abbrev pub AnswersFit : Gave → (Fits : Type 0) → Type 0
AnswersFit (Refused verdict) Fits = ¬ Fits
AnswersFit (Reloaded number) Fits = Fits
AnswersFit (Joined number) Fits = Fits
AnswersFit Nothing Fits = ⊤
AnswersFit gave Fits = ⊥
