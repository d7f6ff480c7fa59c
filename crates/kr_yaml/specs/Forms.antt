-- Which tree tokens form. It is the grammar of block values: a list and a mapping stand at one
-- column, and what belongs to an item or to a key stands further to the right. Beside the data, a
-- tree has a shape: how many levels of lists and mappings it has, where a flow value counts none,
-- and whether one of its mappings has a key twice.
use Rattle.std.specs.Prelude.{ℕ, suc, max, ◌<◌, ◌≤◌, ◌||◌, Bool, false, List, [], ◌∷◌, ◌++◌, length}
use Rattle.std.specs.Prelude.{map, Option, None, Some}
use Rattle.std.specs.List.{list_any}
use Rattle.std.specs.Str.{bytes_eq}
use Rattle.kr_yaml.specs.Data.{Data, null, list, mapping, items_of, members_of}
use Rattle.kr_yaml.specs.Lines.{Token, dash, pair, leaf}

pub record Shape : Type 0 where
  pub levels : ℕ
  pub twice : Bool

abbrev pub flat : Shape
flat = record { levels = 0; twice = false }

abbrev pub both : Shape → Shape → Shape
both s t = record { levels = max s.levels t.levels; twice = s.twice || t.twice }

abbrev pub deeper : Shape → Shape
deeper s = record { levels = suc s.levels; twice = s.twice }

-- a key stands behind an equal one
abbrev pub repeats : List (List ℕ) → Bool
repeats [] = false
repeats (k ∷ ks) = list_any (λ l. bytes_eq k l) ks || repeats ks

abbrev pub keys : List (List ℕ × Data) → List (List ℕ)
keys ms = map (λ m. m.0) ms

-- of a mapping with these keys
abbrev pub with_keys : List (List ℕ) → Shape → Shape
with_keys ks s = record { levels = suc s.levels; twice = repeats ks || s.twice }

mutual
  -- a node of tokens at this column or further to the right
  pub data IsNode : ℕ → List Token → Data → Shape → Type 0 where
    no_tokens : (low : ℕ) → IsNode low [] null flat
    one_leaf : (low c : ℕ) (d : Data) → low ≤ c → IsNode low (leaf c d ∷ []) d flat
    one_list : (low c : ℕ) (ts : List Token) (ds : List Data) (s : Shape) → low ≤ c
        → 0 < length ds → AreItems c ts ds s → IsNode low ts (list (items_of ds)) (deeper s)
    one_mapping : (low c : ℕ) (ts : List Token) (ms : List (List ℕ × Data)) (s : Shape) → low ≤ c
        → 0 < length ms → AreMembers c ts ms s
        → IsNode low ts (mapping (members_of ms)) (with_keys (keys ms) s)

  -- items of a list at this column: each is a dash, and then a node further to the right
  pub data AreItems : ℕ → List Token → List Data → Shape → Type 0 where
    no_items : (c : ℕ) → AreItems c [] [] flat
    one_more_item : (c : ℕ) (us ts : List Token) (ds : List Data) (d : Data) (s t : Shape)
        → AreItems c us ds s → IsNode (suc c) ts d t
        → AreItems c (us ++ dash c ∷ ts) (ds ++ d ∷ []) (both s t)

  -- members of a mapping at this column: each is a key, and then its value
  pub data AreMembers : ℕ → List Token → List (List ℕ × Data) → Shape → Type 0 where
    no_members : (c : ℕ) → AreMembers c [] [] flat
    one_more_member : (c : ℕ) (us ts : List Token) (ms : List (List ℕ × Data)) (k : List ℕ)
        (v : Option Data) (d : Data) (s t : Shape) → AreMembers c us ms s → IsValue c v ts d t
        → AreMembers c (us ++ pair c k v ∷ ts) (ms ++ (k, d) ∷ []) (both s t)

  -- the value of a key at this column: on its line, or a node further to the right, or a list at
  -- the key's own column
  pub data IsValue : ℕ → Option Data → List Token → Data → Shape → Type 0 where
    on_line : (c : ℕ) (d : Data) → IsValue c (Some d) [] d flat
    to_the_right : (c : ℕ) (ts : List Token) (d : Data) (s : Shape) → IsNode (suc c) ts d s
        → IsValue c None ts d s
    list_below : (c : ℕ) (ts : List Token) (ds : List Data) (s : Shape) → 0 < length ds
        → AreItems c ts ds s → IsValue c None ts (list (items_of ds)) (deeper s)

-- the tokens form this tree
abbrev pub Form : List Token → Data → Shape → Type 0
Form ts d s = IsNode 0 ts d s
