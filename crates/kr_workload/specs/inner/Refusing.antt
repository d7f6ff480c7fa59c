-- Which replies of a load are refusals.
use Rattle.std.specs.Prelude.{ℕ, ◌&&◌, Bool, List, if◌then◌else◌}
use Rattle.std.specs.List.{list_any}
use Rattle.kr_script.specs.declared.told.Told.{Told}
use Rattle.kr_workers.specs.Endings.{is_same, reply_ending}
use Rattle.kr_workers.specs.declared.ending.Ending.{Ending}
use Rattle.kr_workers.specs.declared.ending.Ending.TheVariants as ending
use Rattle.kr_workload.specs.Endings.{counts}

-- it counts and is a refusal
abbrev pub refuses : Told → Bool
refuses reply = counts reply && is_same (reply_ending reply) ending.Refused

abbrev pub some_refuses : List (List Told × ℕ) → Bool
some_refuses replies = list_any (λ (told : List Told × ℕ). list_any refuses told.0) replies

-- how a load ended without a graver reply
abbrev pub ending_of_refusals : List (List Told × ℕ) → Ending
ending_of_refusals replies = if some_refuses replies then ending.Refused else ending.Done
