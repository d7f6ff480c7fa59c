-- The tokens that the code's tokens stand for.
use Rattle.std.specs.Prelude.{◌≡◌, ℕ, List, map}
use denote.Ref.{Bor}
use Rattle.std.specs.Option.{option_map}
use Rattle.kr_yaml.specs.Data.{Data}
use Rattle.kr_yaml.specs.Shown.{view, views}
use Rattle.kr_yaml.specs.Lines.{Token, dash, pair, leaf}
use Rattle.kr_yaml.specs.inner.LineReading.{Head}
use Rattle.kr_yaml.specs.declared.tree.Tree.{Tree}
use Rattle.kr_yaml.specs.declared.token.LineToken.{LineToken}
use Rattle.kr_yaml.specs.declared.token.LineToken.TheVariants.{Dash, Pair, Leaf}

abbrev pub token_view : LineToken → Token
token_view (Dash column) = dash column
token_view (Pair column key value) = pair column key (option_map view value)
token_view (Leaf column value) = leaf column (view value)

abbrev pub token_views : List LineToken → List Token
token_views tokens = map token_view tokens

-- trees, or a tree, and the bytes behind
abbrev pub lent_trees : (List Tree × ℕ) × Bor (List ℕ) → List Data × List ℕ
lent_trees x = (views x.0.0, x.1.now)

abbrev pub lent_tree : Tree × Bor (List ℕ) → Data × List ℕ
lent_tree x = (view x.0, x.1.now)

abbrev pub list_tokens : List LineToken × ℕ → List Token
list_tokens list = token_views list.0

-- the dashes of a line as tokens, and its last content
pub record IsHead (h : Head) (dashes : List Token) (column : ℕ) (rest : List ℕ) : Type 0 where
  pub dashes_are : dashes ≡ map dash h.dashes
  pub column_is : column ≡ h.column
  pub rest_is : rest ≡ h.rest
