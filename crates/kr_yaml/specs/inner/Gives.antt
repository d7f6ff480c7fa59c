-- How the answer of a call on a line stands to what is meant: want of memory may take the place
-- of any other.
use Rattle.std.specs.Prelude.{◌≡◌, ℕ, ⊤, List, Option, None, Some, Result, Ok, Err}
use denote.Ref.{Bor}
use Rattle.kr_yaml.specs.declared.line_error.LineError.{LineError}
use Rattle.kr_yaml.specs.declared.line_error.LineError.TheVariants.{Form, NoMemory}

abbrev pub Gives : {X Y : Type 0} → (X → Y) → Option Y → Result X LineError → Type 0
Gives view wanted (Ok x) = wanted ≡ Some (view x)
Gives view wanted (Err Form) = wanted ≡ None
Gives view wanted (Err NoMemory) = ⊤

-- a value, and the bytes behind it
abbrev pub with_rest : {X : Type 0} → X × Bor (List ℕ) → X × List ℕ
with_rest x = (x.0, x.1.now)
