-- What is said of told draws is said of all draws: a call that was done with some random source was
-- done with one that tells just the bytes that it gave.
use Rattle.std.specs.Prelude.{ℕ, List, [], Some}
use Rattle.kr_cmd_messages.specs.Receipts.{Receipt}
use Rattle.kr_cmd_steps.specs.Environment.{Environment, with_world}
use Rattle.kr_cmd_steps.specs.Ran.{Ran}
use Rattle.kr_cmd_steps.specs.Steps.{instead}

-- as it is, but that the random source of seat 0 tells that it has just these bytes left
abbrev pub drawing_from : List ℕ → Environment → Environment
drawing_from bytes a = with_world (record a.world {
  dice = record a.world.dice { told = instead 0 (Some bytes) a.world.dice.told };
}) a

-- Whatever the random source told: there are bytes such that the call was done as well with these
-- told, used up behind it, with the same output, line and status. So a law of told draws, as that a
-- status is decided, says of a real random source: by the bytes that it gave
abbrev pub ToldDraws : Type 0
ToldDraws = (words : List (List ℕ)) (old new : Environment) (output errors : Receipt) (status : ℕ)
    → Ran words old new output errors status
    → (bytes : List ℕ)
    × Ran words (drawing_from bytes old) (drawing_from [] new) output errors status
