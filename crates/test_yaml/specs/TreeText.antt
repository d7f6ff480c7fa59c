-- The text of a tree. Nothing is `null`; a word is the hex of its bytes between quotes; a list
-- stands in brackets and a mapping in braces, with a comma before each part but the first. A key
-- is written as a word, with a colon behind it.
use Rattle.std.specs.Prelude.{◌≡◌, ⊤, ℕ, List, [], ◌++◌, codes}
use Rattle.hex.specs.Hex.{IsBytes, encode_lower}
use Rattle.kr_yaml.specs.Data.{Data, null, word, list, mapping, Items, no_items, item}
use Rattle.kr_yaml.specs.Data.{Members, no_members, member}

abbrev pub word_text : List ℕ → List ℕ
word_text bytes = codes "\"" ++ (encode_lower bytes ++ codes "\"")

abbrev mutual
  pub tree_text : Data → List ℕ
  tree_text null = codes "null"
  tree_text (word bytes) = word_text bytes
  tree_text (list ds) = codes "[" ++ (items_text ds ++ codes "]")
  tree_text (mapping ms) = codes "{" ++ (members_text ms ++ codes "}")

  pub items_text : Items → List ℕ
  items_text no_items = []
  items_text (item d ds) = tree_text d ++ more_items ds

  pub more_items : Items → List ℕ
  more_items no_items = []
  more_items (item d ds) = codes "," ++ (tree_text d ++ more_items ds)

  pub members_text : Members → List ℕ
  members_text no_members = []
  members_text (member k d ms) =
      word_text k ++ (codes ":" ++ (tree_text d ++ more_members ms))

  pub more_members : Members → List ℕ
  more_members no_members = []
  more_members (member k d ms) =
      codes "," ++ (word_text k ++ (codes ":" ++ (tree_text d ++ more_members ms)))

-- A law for a reader: a text is that of one tree alone. Words and keys are bytes, as those of
-- each tree are.

abbrev mutual
  pub AreBytes : Data → Type 0
  AreBytes null = ⊤
  AreBytes (word bytes) = IsBytes bytes
  AreBytes (list ds) = ItemsAreBytes ds
  AreBytes (mapping ms) = MembersAreBytes ms

  pub ItemsAreBytes : Items → Type 0
  ItemsAreBytes no_items = ⊤
  ItemsAreBytes (item d ds) = AreBytes d × ItemsAreBytes ds

  pub MembersAreBytes : Members → Type 0
  MembersAreBytes no_members = ⊤
  MembersAreBytes (member k d ms) = IsBytes k × (AreBytes d × MembersAreBytes ms)

abbrev pub OneTree : Type 0
OneTree = (d e : Data) → AreBytes d → AreBytes e → tree_text d ≡ tree_text e → d ≡ e
