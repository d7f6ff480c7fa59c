-- How the lines of a text are read, which may be marks of documents.
use Rattle.std.specs.Prelude.{ℕ, ◌&&◌, ◌||◌, not, Bool, false, List, [], ◌∷◌, Option, None, Some}
use Rattle.std.specs.Prelude.{Result, Ok, Err, if◌then◌else◌}
use Rattle.std.specs.Option.{option_map_or}
use Rattle.std.specs.List.{list_all}
use Rattle.std.specs.Str.{chars}
use Rattle.kr_base.specs.Numbering.{next_place}
use Rattle.kr_yaml.specs.Characters.{is_allowed}
use Rattle.kr_yaml.specs.Bytes.{behind_three, is_blank, is_empty}
use Rattle.kr_yaml.specs.Lines.{Token, with_line}
use Rattle.kr_yaml.specs.inner.Stops.{closes}
use Rattle.kr_yaml.specs.inner.LineReading.{tokenize_line}

-- three of this byte, and nothing else but a comment
abbrev pub marks : ℕ → List ℕ → Bool
marks c line = option_map_or closes (behind_three c line) false

-- a space or a tab comes first
abbrev pub begins_blank : List ℕ → Bool
begins_blank [] = false
begins_blank (b ∷ bs) = is_blank b

-- behind a mark a space or a tab, and more than a comment
abbrev pub continues_text : List ℕ → Bool
continues_text rest = begins_blank rest && not (closes rest)

-- three of this byte, a space or a tab, and more than a comment
abbrev pub marks_more : ℕ → List ℕ → Bool
marks_more c line = option_map_or continues_text (behind_three c line) false

-- `---` or `...` with more behind it, which YAML reads as a document's end or begin
abbrev pub is_marker : List ℕ → Bool
is_marker line = marks_more 45 line || marks_more 46 line

-- a line holds a character that it may not hold, or such a mark
abbrev pub is_foreign : List ℕ → Bool
is_foreign line = not (list_all is_allowed (chars line)) || is_marker line

-- A `---` before all else has no tokens; behind that, neither `---` nor `...` may stand.
abbrev pub tokens_by_marks : Bool → List ℕ → Option (List Token)
tokens_by_marks first line = if marks 45 line then (if first then Some [] else None)
    else if marks 46 line && not first then None else tokenize_line line

-- the tokens of a line, where only empty lines and comments stand before it or not
abbrev pub line_tokens : Bool → List ℕ → Option (List Token)
line_tokens first line = if is_foreign line then None else tokens_by_marks first line

-- what a line has, before what the lines behind it have
abbrev pub before_rest : ℕ → Option (List Token) → Result (List (ℕ × Token)) ℕ
    → Result (List (ℕ × Token)) ℕ
before_rest n None rest = Err n
before_rest n (Some ts) rest = with_line n ts rest

abbrev pub tokens_from : ℕ → Bool → List (List ℕ) → Result (List (ℕ × Token)) ℕ
tokens_from n first [] = Ok []
tokens_from n first (line ∷ rest) =
    before_rest n (line_tokens first line)
    (tokens_from (next_place n) (first && is_empty line) rest)
