-- Pieces of text.
use Rattle.std.specs.Prelude.{ℕ, List, ◌++◌, codes, decimal}

abbrev pub line : List ℕ → List ℕ
line text = text ++ codes "\n"

-- a word, and a number behind it
abbrev pub word_and_number : List ℕ → ℕ → List ℕ
word_and_number word n = word ++ (codes " " ++ decimal n)
