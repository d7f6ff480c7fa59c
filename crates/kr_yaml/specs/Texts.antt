-- The tokens of a text, each with the number of its line, from 1. 45 is `-`, 46 is `.`.
use Rattle.std.specs.Prelude.{◌≡◌, ℕ, ◌&&◌, Bool, true, false, List, [], ◌∷◌, Result, Ok, Err}
use Rattle.std.specs.Option.{option_map_or}
use Rattle.std.specs.List.{list_all}
use Rattle.std.specs.Str.{chars}
use Rattle.std.specs.Str.Lines.{lines}
use Rattle.kr_base.specs.Numbering.{next_place}
use Rattle.kr_yaml.specs.Characters.{is_allowed}
use Rattle.kr_yaml.specs.Bytes.{behind_three, is_blank, is_empty}
use Rattle.kr_yaml.specs.Lines.{Token, IsTail, IsLine, with_line}
use Rattle.kr_yaml.specs.inner.TextReading.{tokens_from}

-- nothing, or a blank first
abbrev pub is_parted : List ℕ → Bool
is_parted [] = true
is_parted (b ∷ bs) = is_blank b

-- A line that begins with three of this byte, and behind them ends or goes on with a blank. With
-- `---` and `...` YAML begins and ends documents so.
abbrev pub is_mark : ℕ → List ℕ → Bool
is_mark c line = option_map_or is_parted (behind_three c line) false

-- The tokens that a line stands for, where nothing but empty lines and comments stands before it,
-- or where more does. The first line may be `---`, which counts for nothing, and `...`, which is
-- a text, but no other line is a mark.
pub data StandsFor : Bool → List ℕ → List Token → Type 0 where
  first_mark : (tail : List ℕ) → IsTail tail → StandsFor true (45 ∷ (45 ∷ (45 ∷ tail))) []
  first_dots : (tail : List ℕ) (ts : List Token) → IsTail tail
      → IsLine (46 ∷ (46 ∷ (46 ∷ tail))) ts → StandsFor true (46 ∷ (46 ∷ (46 ∷ tail))) ts
  no_mark : (first : Bool) (line : List ℕ) (ts : List Token) → is_mark 45 line ≡ false
      → is_mark 46 line ≡ false → IsLine line ts → StandsFor first line ts

-- of a line that holds no character but allowed ones
abbrev pub HasTokens : Bool → List ℕ → List Token → Type 0
HasTokens first line ts = (list_all is_allowed (chars line) ≡ true) × StandsFor first line ts

-- What lines have from this number on: the tokens of all, or the number of the first line that has
-- none.
pub data HaveTokens : ℕ → Bool → List (List ℕ) → Result (List (ℕ × Token)) ℕ → Type 0 where
  no_lines : (n : ℕ) (first : Bool) → HaveTokens n first [] (Ok [])
  line_without : (n : ℕ) (first : Bool) (line : List ℕ) (rest : List (List ℕ))
      → ((ts : List Token) → HasTokens first line ts → ⊥)
      → HaveTokens n first (line ∷ rest) (Err n)
  line_with : (n : ℕ) (first : Bool) (line : List ℕ) (rest : List (List ℕ)) (ts : List Token)
      (wanted : Result (List (ℕ × Token)) ℕ) → HasTokens first line ts
      → HaveTokens (next_place n) (first && is_empty line) rest wanted
      → HaveTokens n first (line ∷ rest) (with_line n ts wanted)

abbrev pub TextHas : List ℕ → Result (List (ℕ × Token)) ℕ → Type 0
TextHas text wanted = HaveTokens 1 true (lines text) wanted

-- What the lines of a text have, as it is read. By the law `ReadAsWritten` this is `TextHas`.
unfoldable pub text_tokens : List ℕ → Result (List (ℕ × Token)) ℕ
text_tokens text = tokens_from 1 true (lines text)
