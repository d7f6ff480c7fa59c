-- What one of two settings writes and the other doesn't read, by which of them writes.
use Rattle.std.specs.Prelude.{ℕ, if◌then◌else◌, nat_lt, List, map, Option, None, Some}
use Rattle.std.specs.List.{flat_map}
use Rattle.kr_config.specs.declared.class.Class.{Class}
use Rattle.kr_config.specs.declared.who.Who.{Who}
use Rattle.kr_config.specs.Kept.{ConfigEntry}
use Rattle.kr_judge.specs.declared.judging.Writer.{Writer}
use Rattle.kr_judge.specs.declared.judging.Writer.TheVariants.{Other, New}
use Rattle.kr_judge.specs.declared.verdict.Verdict.{Verdict}
use Rattle.kr_judge.specs.declared.verdict.Verdict.TheVariants.{DropsWriter, Unread}
use Rattle.kr_judge.specs.Boards.{GenerationState}
use Rattle.kr_judge.specs.Verdicts.{others, unread_classes, lost_writers, unread_writers}

-- a generation's number, a class, and what is written there and not read
abbrev pub Loss : Type 0
Loss = ℕ × Class × Who

-- the verdict that tells it
abbrev pub verdict_on_loss : Writer → Loss → Verdict
verdict_on_loss Other loss = DropsWriter loss.0 loss.1 loss.2
verdict_on_loss New loss = Unread loss.0 loss.1 loss.2

abbrev pub losses_at : Writer → List Class → (own new : List ConfigEntry) → List (Class × Who)
losses_at Other classes own new = unread_classes classes own new
losses_at New classes own new = unread_classes classes new own

-- at these classes alone
abbrev pub losses_by : Writer → List Class → List ConfigEntry → ℕ × GenerationState → List Loss
losses_by writer classes rows other =
    map (λ lost. (other.0, lost.0, lost.1)) (losses_at writer classes other.1.rows rows)

abbrev pub losses_on : Writer → List Class → ℕ → List ConfigEntry → List GenerationState → List Loss
losses_on writer classes replica rows generations =
    flat_map (losses_by writer classes rows) (others replica generations)

-- at all
abbrev pub losses : Writer → ℕ → List ConfigEntry → List GenerationState → List Loss
losses Other replica rows generations = lost_writers replica rows generations
losses New replica rows generations = unread_writers replica rows generations

-- the one of the lesser generation, and of one generation the first
abbrev pub nearer : Option Loss → Option Loss → Option Loss
nearer None other = other
nearer (Some loss) None = Some loss
nearer (Some loss) (Some other) = if nat_lt other.0 loss.0 then Some other else Some loss
