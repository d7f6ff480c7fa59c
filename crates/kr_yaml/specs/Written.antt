-- How scalars are written: in quotes or plain. 32 is the space, 34 and 39 are the quotes, 35 is
-- `#`, 45 is `-`, 58 is `:`, 92 the backslash.
use Rattle.std.specs.Prelude.{◌≡◌, ◌≢◌, ℕ, ◌==◌, ◌||◌, Bool, false, codes}
use Rattle.std.specs.Prelude.{List, [], ◌∷◌, ◌++◌, Option, None, Some}
use Rattle.std.specs.Prelude.{if◌then◌else◌, option_and_then}
use Rattle.std.specs.List.{list_all, list_any}
use Rattle.std.specs.Option.{option_map_or}
use Rattle.std.specs.Str.{bytes_eq}
use Rattle.kr_yaml.specs.Bytes.{behind, is_blank}
use Rattle.kr_yaml.specs.Data.{Data, null, word}

-- a text with each single quote twice
abbrev pub with_quotes_twice : List ℕ → List ℕ
with_quotes_twice [] = []
with_quotes_twice (b ∷ bs) =
    if b == 39 then 39 ∷ (39 ∷ with_quotes_twice bs) else b ∷ with_quotes_twice bs

-- what a byte behind a backslash stands for: `"`, a backslash and `/` for themselves, n for LF
-- and t for a tab
abbrev pub escape : ℕ → Option ℕ
escape b = if b == 34 then Some 34 else if b == 92 then Some 92 else if b == 47 then Some 47
    else if b == 110 then Some 10 else if b == 116 then Some 9 else None

-- A text between double quotes: each byte but the quote and the backslash stands for itself, and
-- a backslash and one of the bytes above for what that means.
pub data IsEscaped : List ℕ → List ℕ → Type 0 where
  nothing : IsEscaped [] []
  itself : (b : ℕ) (text bytes : List ℕ) → (b == 34) ≡ false → (b == 92) ≡ false
      → IsEscaped text bytes → IsEscaped (b ∷ text) (b ∷ bytes)
  by_escape : (b c : ℕ) (text bytes : List ℕ) → escape b ≡ Some c
      → IsEscaped text bytes → IsEscaped (c ∷ text) (92 ∷ (b ∷ bytes))

-- a text in quotes
pub data IsQuoted : List ℕ → List ℕ → Type 0 where
  in_single : (text : List ℕ) → IsQuoted text (39 ∷ (with_quotes_twice text ++ 39 ∷ []))
  in_double : (text bytes : List ℕ) → IsEscaped text bytes
      → IsQuoted text (34 ∷ (bytes ++ 34 ∷ []))

-- what a plain scalar can't begin with
abbrev pub is_indicator : ℕ → Bool
is_indicator b = list_any (λ c. c == b) (codes "?:,[]{}#&*!|>'\"%@`")

-- A plain scalar holds more than blanks, begins with no space, no indicator and not with `- `,
-- holds no `: ` and no ` #`, and doesn't end with `:`. YAML has none that begins with a blank; of
-- tabs alone some readers make nothing.
pub record IsPlain (text : List ℕ) : Type 0 where
  pub first : ℕ
  pub more : List ℕ
  pub begins : text ≡ first ∷ more
  pub no_space : (first == 32) ≡ false
  pub no_blanks : list_all is_blank text ≡ false
  pub no_indicator : is_indicator first ≡ false
  pub no_item : (rest : List ℕ) → text ≢ 45 ∷ (32 ∷ rest)
  pub no_key : (front rest : List ℕ) → text ≢ front ++ 58 ∷ (32 ∷ rest)
  pub no_end : (front : List ℕ) → text ≢ front ++ 58 ∷ []
  pub no_comment : (front rest : List ℕ) → text ≢ front ++ 32 ∷ (35 ∷ rest)

-- it ends with no space
abbrev pub NoSpaceBehind : List ℕ → Type 0
NoSpaceBehind text = (front : List ℕ) → text ≢ front ++ 32 ∷ []

-- one of the bytes `,`, `[`, `]`, `{` and `}`
abbrev pub is_flow_sign : ℕ → Bool
is_flow_sign b = b == 44 || b == 91 || b == 93 || b == 123 || b == 125

abbrev pub NoFlowSign : List ℕ → Type 0
NoFlowSign text =
    (front rest : List ℕ) (b : ℕ) → text ≡ front ++ b ∷ rest → is_flow_sign b ≡ false

-- plain `null` and `~` are nothing, any other plain scalar is a text
abbrev pub plain_data : List ℕ → Data
plain_data text =
    if bytes_eq text (codes "null") || bytes_eq text (codes "~") then null else word text

-- a scalar as a value on a line
pub data IsScalar : Data → List ℕ → Type 0 where
  quoted_value : (text bytes : List ℕ) → IsQuoted text bytes → IsScalar (word text) bytes
  plain_value : (text : List ℕ) → IsPlain text → NoSpaceBehind text
      → IsScalar (plain_data text) text

-- a scalar in a flow list
pub data IsPart : Data → List ℕ → Type 0 where
  quoted_part : (text bytes : List ℕ) → IsQuoted text bytes → IsPart (word text) bytes
  plain_part : (text : List ℕ) → IsPlain text → NoSpaceBehind text → NoFlowSign text
      → IsPart (plain_data text) text

-- `<<` with nothing but blanks behind it: as a key it would merge a mapping into its own
abbrev pub is_merge_text : List ℕ → Bool
is_merge_text text =
    option_map_or (list_all is_blank) (option_and_then (behind 60) (behind 60 text)) false

-- A scalar as a key. A plain one has its trailing spaces, behind which its `:` stands.
pub data IsKey : List ℕ → List ℕ → Type 0 where
  quoted_key : (text bytes : List ℕ) → IsQuoted text bytes → IsKey text bytes
  plain_key : (text : List ℕ) → IsPlain text → is_merge_text text ≡ false → IsKey text text
