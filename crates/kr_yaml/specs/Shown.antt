-- The data that a tree of the code stands for.
use Rattle.std.specs.Prelude.{ℕ, List, map}
use Rattle.kr_yaml.specs.Data.{Data, null, word, list, mapping, items_of, members_of}
use Rattle.kr_yaml.specs.declared.tree.Member.{Member}
use Rattle.kr_yaml.specs.declared.tree.Tree.{Tree, fold-Tree}
use Rattle.kr_yaml.specs.declared.tree.Tree.TheOpen.{Tree-F}
use Rattle.kr_yaml.specs.declared.tree.Tree.TheOpen.{Member-F}

-- one level, with each tree inside already seen as its data
abbrev pub tree_step : Tree-F Data (List ℕ × Data) → Data
tree_step Tree-F.Null = null
tree_step (Tree-F.Word w) = word w
tree_step (Tree-F.Items l) = list (items_of l.0)
tree_step (Tree-F.Members l) = mapping (members_of l.0)

abbrev pub member_step : Member-F Data (List ℕ × Data) → List ℕ × Data
member_step m = (m.key, m.value)

abbrev pub view : Tree → Data
view = fold-Tree Data (List ℕ × Data) tree_step member_step

abbrev pub view_member : Member → List ℕ × Data
view_member m = (m.key, view m.value)

abbrev pub views : List Tree → List Data
views trees = map view trees

abbrev pub member_views : List Member → List (List ℕ × Data)
member_views ms = map view_member ms
