-- The tokens of a line: spaces, a content and a tail. 35 is `#`, 44 is `,`, 45 is `-`, 58 is `:`,
-- 91, 93 and 123, 125 are brackets and braces.
use Rattle.std.specs.Prelude.{◌≢◌, ℕ, suc, ◌+◌, List, [], ◌∷◌, ◌++◌, map, Option, None, Some}
use Rattle.std.specs.Prelude.{Result, Ok, Err}
use Rattle.kr_yaml.specs.Bytes.{spaces}
use Rattle.kr_yaml.specs.Data.{Data, list, mapping, items_of, members_of}
use Rattle.kr_yaml.specs.Written.{IsScalar, IsPart, IsKey}

-- A token, each with its column.
pub data Token : Type 0 where
  -- a `-`
  dash : ℕ → Token
  -- a key and its `:`, and the value on its line
  pair : ℕ → List ℕ → Option Data → Token
  -- a scalar or a flow value
  leaf : ℕ → Data → Token

-- what may stand behind a content: spaces, and a comment behind one of them
pub data IsTail : List ℕ → Type 0 where
  spaces_alone : (n : ℕ) → IsTail (spaces n)
  comment_behind : (n : ℕ) (text : List ℕ) → IsTail (spaces (suc n) ++ 35 ∷ text)

-- what stands between the brackets of a flow list: scalars, each with spaces around it, and
-- commas between them
pub data AreParts : List Data → List ℕ → Type 0 where
  last_part : (before after : ℕ) (d : Data) (bytes : List ℕ) → IsPart d bytes
      → AreParts (d ∷ []) (spaces before ++ (bytes ++ spaces after))
  one_more_part : (before after : ℕ) (d : Data) (bytes : List ℕ) (ds : List Data)
      (more : List ℕ) → IsPart d bytes → AreParts ds more
      → AreParts (d ∷ ds) (spaces before ++ (bytes ++ (spaces after ++ 44 ∷ more)))

-- a scalar or a flow value
pub data IsLeaf : Data → List ℕ → Type 0 where
  scalar : (d : Data) (bytes : List ℕ) → IsScalar d bytes → IsLeaf d bytes
  empty_list : IsLeaf (list (items_of [])) (91 ∷ (93 ∷ []))
  flow_list : (ds : List Data) (bytes : List ℕ) → AreParts ds bytes
      → IsLeaf (list (items_of ds)) (91 ∷ (bytes ++ 93 ∷ []))
  empty_mapping : IsLeaf (mapping (members_of [])) (123 ∷ (125 ∷ []))

-- The tokens of a content that begins at this column: an item, which may have a content of its
-- own behind it, a member, or else a scalar or a flow value.
pub data AreContentTokens : ℕ → List ℕ → List Token → Type 0 where
  empty_item : (c : ℕ) → AreContentTokens c (45 ∷ []) (dash c ∷ [])
  item : (c n : ℕ) (bytes : List ℕ) (ts : List Token) → AreContentTokens (c + 1 + suc n) bytes ts
      → AreContentTokens c (45 ∷ (spaces (suc n) ++ bytes)) (dash c ∷ ts)
  empty_member : (c : ℕ) (key bytes : List ℕ) → IsKey key bytes
      → AreContentTokens c (bytes ++ 58 ∷ []) (pair c key None ∷ [])
  member : (c n : ℕ) (key bytes : List ℕ) (d : Data) (more : List ℕ) → IsKey key bytes
      → IsLeaf d more
      → AreContentTokens c (bytes ++ 58 ∷ (spaces (suc n) ++ more)) (pair c key (Some d) ∷ [])
  value : (c : ℕ) (d : Data) (bytes : List ℕ) → IsLeaf d bytes → bytes ≢ 45 ∷ []
      → AreContentTokens c bytes (leaf c d ∷ [])

-- The tokens of a line. One that is empty or a comment has none; no content follows a tab.
pub data IsLine : List ℕ → List Token → Type 0 where
  empty_line : (n : ℕ) → IsLine (spaces n) []
  comment_line : (n : ℕ) (text : List ℕ) → IsLine (spaces n ++ 35 ∷ text) []
  content_line : (n : ℕ) (bytes tail : List ℕ) (ts : List Token) → AreContentTokens n bytes ts
      → IsTail tail → ((more : List ℕ) → bytes ≢ 9 ∷ more)
      → IsLine (spaces n ++ (bytes ++ tail)) ts

-- tokens with the number of their line
abbrev pub at_line : ℕ → List Token → List (ℕ × Token)
at_line n ts = map (λ t. (n, t)) ts

-- the tokens of a line before what the lines behind it have
abbrev pub with_line : ℕ → List Token → Result (List (ℕ × Token)) ℕ → Result (List (ℕ × Token)) ℕ
with_line n ts (Ok us) = Ok (at_line n ts ++ us)
with_line n ts (Err m) = Err m
