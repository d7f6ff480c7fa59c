-- How a text is read line by line.
use Rattle.std.specs.Prelude.{◌≡◌, ℕ, ◌+◌, ⊤, List, [], ◌∷◌, Option, None, Some, Result, Ok, Err}
use Rattle.std.specs.Prelude.{if◌then◌else◌, is_some}
use Rattle.std.specs.Result.{result_map_both}
use Rattle.std.specs.Str.{is_utf8}
use Rattle.kr_script.specs.declared.script.Script.{Script}
use Rattle.kr_script.specs.declared.script.ScriptNo.{ScriptNo}
use Rattle.kr_script.specs.declared.script.ScriptNo.TheVariants.{Breach, Replicas, Workers, TooLarge}
use Rattle.kr_script.specs.declared.script.ScriptNo.TheVariants.{NoMemory}
use Rattle.kr_script.specs.declared.line_error.ScriptLineError.{ScriptLineError}
use Rattle.kr_script.specs.declared.line_error.ScriptLineError.TheVariants as line_error
use Rattle.kr_script.specs.Fleets.{Fleet, fleet_of}
use Rattle.kr_script.specs.Rows.{Row, words_of, is_full, is_spoken}
use Rattle.kr_script.specs.inner.Drafts.{Draft, step, fleet_in, workers_in}

-- a last word, which may be empty, and a word before others
abbrev pub words_at_end : List ℕ → Row
words_at_end word = if is_full word then word ∷ [] else []

abbrev pub words_before : List ℕ → Row → Row
words_before word row = if is_full word then word ∷ row else row

-- a refusal of the line with this number
abbrev pub at_line : ℕ → ScriptLineError → ScriptNo
at_line number line_error.Form = Breach number
at_line number line_error.Replicas = Replicas
at_line number line_error.Workers = Workers
at_line number line_error.TooLarge = TooLarge
at_line number line_error.NoMemory = NoMemory

abbrev pub row_step : Draft → Row → Result Draft ScriptLineError
row_step draft row = if is_spoken row then step draft row else Ok draft

abbrev pub line_step : Draft → List ℕ → Result Draft ScriptLineError
line_step draft line = if is_utf8 line then row_step draft (words_of line) else Err line_error.Form

abbrev pub goes_on : ℕ → Result Draft ScriptLineError → (Draft → Result Fleet ScriptNo)
    → Result Fleet ScriptNo
goes_on number (Ok draft) rest = rest draft
goes_on number (Err why) rest = Err (at_line number why)

abbrev pub fleet_at_end : ℕ → Draft → Result Fleet ScriptNo
fleet_at_end number draft =
    if is_some draft.last then Ok (fleet_in draft) else Err (Breach number)

-- what the lines from this number on come to, behind what was said so far
abbrev pub answer : ℕ → Draft → List (List ℕ) → Result Fleet ScriptNo
answer number draft [] = fleet_at_end number draft
answer number draft (line ∷ lines) =
    goes_on number (line_step draft line) (λ next. answer (number + 1) next lines)

-- the code's answers; want of memory may take the place of any

abbrev pub Gives : Result Fleet ScriptNo → Result Script ScriptNo → Type 0
Gives wanted (Ok script) = wanted ≡ Ok (fleet_of script)
Gives wanted (Err (Breach line)) = wanted ≡ Err (Breach line)
Gives wanted (Err Replicas) = wanted ≡ Err Replicas
Gives wanted (Err Workers) = wanted ≡ Err Workers
Gives wanted (Err TooLarge) = wanted ≡ Err TooLarge
Gives wanted (Err NoMemory) = ⊤

-- a value by its parts, or a refusal of the line
abbrev pub Finds : {T : Type 0} → Option T → Result T ScriptLineError → Type 0
Finds wanted (Ok value) = wanted ≡ Some value
Finds wanted (Err line_error.Form) = wanted ≡ None
Finds wanted (Err line_error.Replicas) = ⊥
Finds wanted (Err line_error.Workers) = ⊥
Finds wanted (Err line_error.TooLarge) = ⊥
Finds wanted (Err line_error.NoMemory) = ⊤

-- the same, of what is made of the value
abbrev pub FindsAs : {S T : Type 0} → (S → T) → Option T → Result S ScriptLineError → Type 0
FindsAs make wanted result = Finds wanted (result_map_both make (λ why. why) result)

-- the draft moves on, or the line is refused
abbrev pub Moves : {T : Type 0} → Result Draft ScriptLineError → Draft → Result T ScriptLineError
    → Type 0
Moves wanted new (Ok done) = wanted ≡ Ok new
Moves wanted new (Err line_error.Form) = wanted ≡ Err line_error.Form
Moves wanted new (Err line_error.Replicas) = wanted ≡ Err line_error.Replicas
Moves wanted new (Err line_error.Workers) = wanted ≡ Err line_error.Workers
Moves wanted new (Err line_error.TooLarge) = wanted ≡ Err line_error.TooLarge
Moves wanted new (Err line_error.NoMemory) = ⊤

-- the last worker, if any, stands behind the others
pub record IsClosed (old new : Draft) : Type 0 where
  pub begun : new.begun ≡ old.begun
  pub replicas : new.replicas ≡ old.replicas
  pub workers : new.workers ≡ workers_in old
  pub last : new.last ≡ None

abbrev pub Closes : {T : Type 0} → Draft → Draft → Result T ScriptLineError → Type 0
Closes old new (Ok done) = IsClosed old new
Closes old new (Err why) = why ≡ line_error.NoMemory
