-- What comes out of a search and of a judgement, as it is answered.
use Rattle.std.specs.Prelude.{Option, None, Some, Result, Ok, Err}
use Rattle.kr_base.specs.declared.errors.NoMemory.{NoMemory}
use Rattle.kr_store.specs.declared.rows.Row.{Row}
use Rattle.kr_rollout.specs.declared.answer.Answer.{Answer}
use Rattle.kr_rollout.specs.declared.answer.Answer.TheVariants as answer

-- a row that is found, or that there is none
abbrev pub found_as : Result (Option Row) NoMemory → Answer
found_as (Ok (Some row)) = answer.Found row
found_as (Ok None) = answer.Absent
found_as (Err why) = answer.NoMemory
