-- How a load ended.
use Rattle.std.specs.Prelude.{ℕ, Bool, true, false, List, map}
use Rattle.std.specs.List.{filter}
use Rattle.kr_script.specs.declared.told.Told.{Told}
use Rattle.kr_script.specs.declared.told.Told.TheVariants as told
use Rattle.kr_workers.specs.Endings.{gravest_ending}
use Rattle.kr_workers.specs.declared.ending.Ending.{Ending}

-- a verdict that refused a reload says nothing of how the load ended, since it depends on the order
-- of the workers' turns
abbrev pub counts : Told → Bool
counts (told.Refused verdict) = false
counts other = true

abbrev pub without_verdicts : List (List Told × ℕ) → List (List Told × ℕ)
without_verdicts replies = map (λ (told : List Told × ℕ). (filter counts told.0, told.1)) replies

-- it ended as a fleet without these replies
abbrev pub ending_of_load : List (List Told × ℕ) → Ending
ending_of_load replies = gravest_ending (without_verdicts replies)
