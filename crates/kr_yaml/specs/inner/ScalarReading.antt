-- How a scalar is read. Each definition gives the scalar that bytes begin with, and the bytes
-- behind it.
use Rattle.std.specs.Prelude.{ℕ, ◌==◌, ◌&&◌, ◌||◌, not, Bool, true, false, List, [], ◌∷◌, ◌++◌}
use Rattle.std.specs.Prelude.{take, drop, codes, Option, None, Some, if◌then◌else◌}
use Rattle.std.specs.Option.{option_map_or}
use Rattle.std.specs.Str.{bytes_eq}
use Rattle.std.specs.List.{list_all}
use Rattle.kr_yaml.specs.Bytes.{behind, is_blank}
use Rattle.kr_yaml.specs.Data.{Data, null, word}
use Rattle.kr_yaml.specs.Written.{escape, is_indicator, is_merge_text}
use Rattle.kr_yaml.specs.inner.Stops.{trim, has, stops, length_before_stop}
use Rattle.kr_yaml.specs.declared.bytes.ScanStop.TheVariants.{Colon, Comment, KeyEnd, FlowSign}
use Rattle.kr_yaml.specs.declared.scalar.Scalar.{Scalar}
use Rattle.kr_yaml.specs.declared.scalar.Context.{Context}
use Rattle.kr_yaml.specs.declared.scalar.Context.TheVariants.{Line, Flow}

-- with these before what was read
abbrev pub with_front : {X : Type 0} → List X → Option (List X × List ℕ)
    → Option (List X × List ℕ)
with_front front None = None
with_front front (Some x) = Some (front ++ x.0, x.1)

-- behind an opening single quote: two single quotes stand for one, and one alone ends the scalar
abbrev mutual
  pub single : List ℕ → Option (List ℕ × List ℕ)
  single [] = None
  single (b ∷ bs) = if b == 39 then single_quote bs else with_front (b ∷ []) (single bs)

  pub single_quote : List ℕ → Option (List ℕ × List ℕ)
  single_quote [] = Some ([], [])
  single_quote (b ∷ bs) = if b == 39 then with_front (39 ∷ []) (single bs) else Some ([], b ∷ bs)

-- behind an opening double quote
abbrev mutual
  pub double : List ℕ → Option (List ℕ × List ℕ)
  double [] = None
  double (b ∷ bs) = if b == 34 then Some ([], bs)
      else if b == 92 then behind_backslash bs else with_front (b ∷ []) (double bs)

  pub behind_backslash : List ℕ → Option (List ℕ × List ℕ)
  behind_backslash [] = None
  behind_backslash (b ∷ bs) = option_map_or (λ c. with_front (c ∷ []) (double bs)) (escape b) None

abbrev pub is_space : List ℕ → Bool
is_space [] = false
is_space (b ∷ bs) = b == 32

-- it holds more than blanks, begins with no indicator and not with `- `, holds no `: ` and ends
-- with no `:`
abbrev pub is_plain : List ℕ → Bool
is_plain [] = false
is_plain (b ∷ bs) = not (is_indicator b) && not (b == 45 && is_space bs)
    && not (has Colon (b ∷ bs)) && not (list_all is_blank (b ∷ bs))

-- the trailing spaces of a plain scalar are dropped, but not those of a key
abbrev pub plain_text : List ℕ → List ℕ → List ℕ
plain_text front rest = option_map_or (λ _. front) (behind 58 rest) (trim front)

abbrev pub plain_scalar : List ℕ → List ℕ → Option (Scalar × List ℕ)
plain_scalar text rest =
    if is_plain text then Some (record { text = text; plain = true }, rest) else None

-- A plain scalar on a line goes to a comment, to the `:` of a key or to the end; one in a flow
-- list goes to a byte of flow values, and holds no comment.
unfoldable pub leading_plain : Context → List ℕ → Option (Scalar × List ℕ)
leading_plain Line bs =
    let n = length_before_stop (stops KeyEnd) bs in
    plain_scalar (plain_text (take n bs) (drop n bs)) (drop n bs)
leading_plain Flow bs =
    let n = length_before_stop (stops FlowSign) bs in
    if has Comment (take n bs) then None else plain_scalar (trim (take n bs)) (drop n bs)

abbrev pub quoted_scalar : Option (List ℕ × List ℕ) → Option (Scalar × List ℕ)
quoted_scalar None = None
quoted_scalar (Some x) = Some (record { text = x.0; plain = false }, x.1)

unfoldable pub leading_scalar : Context → List ℕ → Option (Scalar × List ℕ)
leading_scalar context bs =
    option_map_or (λ rest. quoted_scalar (single rest)) (behind 39 bs)
    (option_map_or (λ rest. quoted_scalar (double rest)) (behind 34 bs) (leading_plain context bs))

-- `null` and `~` are nothing where they are plain
abbrev pub is_null : Scalar → Bool
is_null s = s.plain && (bytes_eq s.text (codes "null") || bytes_eq s.text (codes "~"))

abbrev pub data_of : Scalar → Data
data_of s = if is_null s then null else word s.text

-- a plain `<<`, whatever blanks stand behind it
abbrev pub is_merge : Scalar → Bool
is_merge s = s.plain && is_merge_text s.text
