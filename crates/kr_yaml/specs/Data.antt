-- What a text says, whatever its form: nothing, a word, a list or a mapping in the order of the
-- text.
use Rattle.std.specs.Prelude.{ℕ, List, [], ◌∷◌}

mutual
  pub data Data : Type 0 where
    null : Data
    word : List ℕ → Data
    list : Items → Data
    mapping : Members → Data

  pub data Items : Type 0 where
    no_items : Items
    item : Data → Items → Items

  pub data Members : Type 0 where
    no_members : Members
    member : List ℕ → Data → Members → Members

abbrev pub items_of : List Data → Items
items_of [] = no_items
items_of (d ∷ ds) = item d (items_of ds)

abbrev pub members_of : List (List ℕ × Data) → Members
members_of [] = no_members
members_of (m ∷ ms) = member m.0 m.1 (members_of ms)
