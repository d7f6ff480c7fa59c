-- The lines of a text, ended by LF or CR LF, and their words.
use Rattle.std.specs.Prelude.{ℕ, ◌==◌, not, Bool, false, List, [], ◌∷◌, length, map}
use Rattle.std.specs.List.{filter, slice_split}

-- the words of a line
abbrev pub Row : Type 0
Row = List (List ℕ)

abbrev pub is_full : List ℕ → Bool
is_full word = not (length word == 0)

-- what stands between spaces
abbrev pub words_of : List ℕ → Row
words_of line = filter is_full (slice_split (λ byte. byte == 0x20) line)

-- it begins with `#`
abbrev pub is_comment : List ℕ → Bool
is_comment [] = false
is_comment (byte ∷ bytes) = byte == 0x23

-- a line that isn't blank and no comment
abbrev pub is_spoken : Row → Bool
is_spoken [] = false
is_spoken (word ∷ words) = not (is_comment word)

-- the words of the lines that aren't blank and no comments
abbrev pub word_rows : List (List ℕ) → List Row
word_rows lines = filter is_spoken (map words_of lines)
