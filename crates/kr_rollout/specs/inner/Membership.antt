-- How replicas' current generations change, and what is made before that.
use Rattle.std.specs.Prelude.{◌≡◌, ◌≢◌, ℕ, None}
use Rattle.kr_config.specs.Kept.{rows_of}
use Rattle.kr_provider.specs.Publication.{Publication}
use Rattle.kr_judge.specs.declared.verdict.Verdict.TheVariants.{Pass}
use Rattle.kr_judge.specs.Boards.{BoardState}
use Rattle.kr_judge.specs.Verdicts.{verdict}
use Rattle.kr_rollout.specs.declared.answer.Answer.{Answer}
use Rattle.kr_rollout.specs.declared.answer.Answer.TheVariants as answer
use Rattle.kr_rollout.specs.declared.event.Event.{Event}
use Rattle.kr_rollout.specs.declared.event.Event.TheVariants as event
use Rattle.kr_rollout.specs.declared.judgement.Judgement.{Judgement}
use Rattle.kr_rollout.specs.declared.judgement.Judgement.TheVariants as judgement
use Rattle.kr_rollout.specs.declared.membership.Bringing.{Bringing}
use Rattle.kr_rollout.specs.declared.membership.Bringing.TheVariants.{Reload, Join}
use Rattle.kr_rollout.specs.Answers.{HasExpected}
use Rattle.kr_rollout.specs.Judgements.{with_configuration}
use Rattle.kr_rollout.specs.States.{State, current_of}
use Rattle.kr_rollout.specs.inner.Rollouts.{RolloutState}

-- the verdict with what it takes to heed it: two of it, or what is shared of settings that pass
abbrev pub IsJudgement : BoardState → (replica : ℕ) → Publication → Judgement → Type 0
IsJudgement board replica p (judgement.Fits settings published) =
    (verdict board replica p.rows ≡ Pass)
    × (rows_of settings.entries.0 ≡ p.rows) × (published ≡ p)
IsJudgement board replica p (judgement.Refused told kept) = (told ≡ verdict board replica p.rows)
    × (told ≢ Pass) × (kept ≡ told)

-- the configuration is the next generation, and the replica's current one
abbrev pub with_generation : RolloutState → (replica : ℕ) → Publication → RolloutState
with_generation c replica p =
    record { opening = c.opening; state = with_configuration c.state replica p; torn = c.torn }

-- the event by which a replica is given a configuration
abbrev pub brought : Bringing → (replica : ℕ) → Publication → Event
brought (Reload expect) replica p = event.Reload replica p expect
brought Join replica p = event.Join replica p

-- the replica has the expected current generation, or isn't in
abbrev pub AwaitsIt : Bringing → State → (replica : ℕ) → Type 0
AwaitsIt (Reload expect) st replica = HasExpected st replica expect
AwaitsIt Join st replica = current_of st replica ≡ None

-- the answer where it is taken up
abbrev pub taken_as : Bringing → (number : ℕ) → Answer
taken_as (Reload expect) number = answer.Reloaded number
taken_as Join number = answer.Joined number
