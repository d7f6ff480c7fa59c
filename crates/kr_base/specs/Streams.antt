-- What reading and writing whole contents does to the bytes that an object tells.
use Rattle.std.specs.Prelude.{◌≡◌, ℕ, ◌+◌, ◌≤◌, List, [], ◌∷◌, ◌++◌, length, take, Option, Result, Ok, Err}
use Rattle.std.specs.Borrow.{Bor}
use Rattle.std.specs.Io.KnownBytes.{Appends, Consumes, IsAtEnd}
use Rattle.kr_base.specs.Numbering.{next_number}
use Rattle.kr_base.specs.declared.errors.ReadNo.{ReadNo}
use Rattle.kr_base.specs.declared.errors.ReadNo.TheVariants.{Failed, TooLong, NoMemory}

-- n bytes were taken from the front
abbrev pub TakesCount : Option (List ℕ) → Option (List ℕ) → ℕ → Type 0
TakesCount old new n = (bytes : List ℕ) × Consumes old new bytes × (length bytes ≡ n)

-- at most n bytes were taken from the front
abbrev pub TakesAtMost : Option (List ℕ) → Option (List ℕ) → ℕ → Type 0
TakesAtMost old new n = (bytes : List ℕ) × Consumes old new bytes × (length bytes ≤ n)

-- a prefix of the bytes was appended
abbrev pub AppendsFront : Option (List ℕ) → Option (List ℕ) → List ℕ → Type 0
AppendsFront old new bytes = (n : ℕ) × (n ≤ length bytes) × Appends old new (take n bytes)

-- a source was read to its end: the whole of it, or `TooLong` exactly where one byte more than the
-- limit was taken
abbrev pub ReadsWhole : Option (List ℕ) → Option (List ℕ) → ℕ → Result (List ℕ) ReadNo → Type 0
ReadsWhole old new limit (Ok bytes) = Consumes old new bytes × IsAtEnd new × (length bytes ≤ limit)
ReadsWhole old new limit (Err TooLong) = TakesCount old new (limit + 1)
ReadsWhole old new limit (Err Failed) = TakesAtMost old new limit
ReadsWhole old new limit (Err NoMemory) = TakesAtMost old new limit

-- a source's count behind a reading to its end: one higher where that failed, and else as before
abbrev pub counted_read : ℕ → Result (List ℕ) ReadNo → ℕ
counted_read before (Ok bytes) = before
counted_read before (Err TooLong) = before
counted_read before (Err Failed) = next_number before
counted_read before (Err NoMemory) = before

-- pieces of a text, one behind another
abbrev pub whole_text : List (Bor (List ℕ)) → List ℕ
whole_text [] = []
whole_text (piece ∷ pieces) = piece.now ++ whole_text pieces
