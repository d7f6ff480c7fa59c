-- What open nodes stand for: the tokens so far, by the grammar.
use Rattle.std.specs.Prelude.{ℕ, suc, ◌≤◌, List, [], ◌∷◌, ◌++◌, Option, None, Some}
use Rattle.kr_yaml.specs.Data.{Data}
use Rattle.kr_yaml.specs.Lines.{Token, dash, pair, leaf}
use Rattle.kr_yaml.specs.Forms.{Shape, flat, both, deeper, with_keys, keys, AreItems, AreMembers}
use Rattle.kr_yaml.specs.inner.Open.{Frame, items, members}

mutual
  -- the tokens so far, at this column or further to the right, stand in these open nodes
  pub data Stands : ℕ → List Token → List Frame → Option Data → Shape → Type 0 where
    empty : (low : ℕ) → Stands low [] [] None flat
    full : (low c : ℕ) (d : Data) → low ≤ c → Stands low (leaf c d ∷ []) [] (Some d) flat
    in_item : (low c : ℕ) (us ws : List Token) (ds : List Data) (fs : List Frame)
        (o : Option Data) (s t : Shape) → low ≤ c → AreItems c us ds s → Stands (suc c) ws fs o t
        → Stands low (us ++ dash c ∷ ws) (items c ds ∷ fs) o (deeper (both s t))
    in_value : (low c : ℕ) (us ws : List Token) (ms : List (List ℕ × Data)) (k : List ℕ)
        (v : Option Data) (fs : List Frame) (o : Option Data) (s t : Shape) → low ≤ c
        → AreMembers c us ms s → Holds c v ws fs o t
        → Stands low (us ++ pair c k v ∷ ws) (members c ms k ∷ fs) o
        (with_keys (keys ms ++ k ∷ []) (both s t))

  -- the tokens so far of a key's value
  pub data Holds : ℕ → Option Data → List Token → List Frame → Option Data → Shape → Type 0 where
    held : (c : ℕ) (d : Data) → Holds c (Some d) [] [] (Some d) flat
    right : (c : ℕ) (ws : List Token) (fs : List Frame) (o : Option Data) (s : Shape)
        → Stands (suc c) ws fs o s → Holds c None ws fs o s
    below : (c : ℕ) (vs ws : List Token) (ds : List Data) (fs : List Frame) (o : Option Data)
        (s t : Shape) → AreItems c vs ds s → Stands (suc c) ws fs o t
        → Holds c None (vs ++ dash c ∷ ws) (items c ds ∷ fs) o (deeper (both s t))
