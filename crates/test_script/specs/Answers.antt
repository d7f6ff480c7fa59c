-- What is printed for a line.
use Rattle.std.specs.Prelude.{◌≡◌, ℕ, List, [], ◌++◌, codes, decimal, Option, None, Some}
use Rattle.std.specs.Prelude.{MatchOption, Result, Ok, Err, if◌then◌else◌}
use Rattle.std.specs.Result.{result_ok}
use Rattle.std.specs.Str.{bytes_eq}
use Rattle.hex.specs.Hex.{decode_of}
use Rattle.kr_script.specs.declared.script.ScriptNo.{ScriptNo}
use Rattle.kr_script.specs.declared.script.ScriptNo.TheVariants.{Breach, Replicas, Workers, TooLarge}
use Rattle.kr_script.specs.declared.script.ScriptNo.TheVariants.{NoMemory}
use Rattle.kr_script.specs.Fleets.{Fleet}
use Rattle.kr_script.specs.Meanings.{MeansScript}
use Rattle.test_script.specs.FleetText.{fleet_text}

-- This is printed for what a file means. Nothing is printed where memory was wanting.
abbrev pub Prints : Result Fleet ScriptNo → List ℕ → Type 0
Prints (Ok fleet) printed = printed ≡ fleet_text fleet
Prints (Err (Breach line)) printed = printed ≡ codes "Breach " ++ decimal line
Prints (Err Replicas) printed = printed ≡ codes "Replicas"
Prints (Err Workers) printed = printed ≡ codes "Workers"
Prints (Err TooLarge) printed = printed ≡ codes "TooLarge"
Prints (Err NoMemory) printed = ⊥

abbrev pub TellsFile : List ℕ → List ℕ → Type 0
TellsFile file printed =
    (meaning : Result Fleet ScriptNo) × MeansScript file meaning × Prints meaning printed

-- the file of a line: a dash alone stands for the empty one, and hex for any other
abbrev pub file_of : List ℕ → Option (List ℕ)
file_of line = if bytes_eq line (codes "-") then Some []
    else if bytes_eq line [] then None else result_ok (decode_of line)

abbrev pub Answers : List ℕ → List ℕ → Type 0
Answers line printed =
    MatchOption (file_of line) (printed ≡ codes "line") (λ file. TellsFile file printed)
