-- What reading a text answers.
use Rattle.std.specs.Prelude.{◌≡◌, ℕ, ◌<◌, ◌≤◌, ⊤, true, false, List, [], ◌∷◌, ◌++◌, map}
use Rattle.std.specs.Prelude.{Result, Ok, Err}
use Rattle.kr_yaml.specs.Data.{Data}
use Rattle.kr_yaml.specs.Lines.{Token}
use Rattle.kr_yaml.specs.Texts.{TextHas}
use Rattle.kr_yaml.specs.Forms.{Shape, Form}
use Rattle.kr_yaml.specs.Shown.{view}
use Rattle.kr_yaml.specs.declared.tree.Tree.{Tree}
use Rattle.kr_yaml.specs.declared.yaml_no.YamlNo.{YamlNo}
use Rattle.kr_yaml.specs.declared.yaml_no.YamlNo.TheVariants.{Outside, Indent, DuplicateKey}
use Rattle.kr_yaml.specs.declared.yaml_no.YamlNo.TheVariants.{Deep, NoMemory}

-- the tokens without the numbers of their lines
abbrev pub plain : List (ℕ × Token) → List Token
plain us = map (λ u. u.1) us

-- they form this tree, of at most 16 levels, in which no mapping has a key twice
pub record MakesTree (ts : List Token) (d : Data) : Type 0 where
  pub shape : Shape
  pub forms : Form ts d shape
  pub levels : shape.levels ≤ 16
  pub once : shape.twice ≡ false

-- they form no tree, and no more tokens behind them change that
abbrev pub FormNone : List Token → Type 0
FormNone ts = (more : List Token) (d : Data) (s : Shape) → Form (ts ++ more) d s → ⊥

-- they form one in which a mapping has a key twice
abbrev pub FormTwice : List Token → Type 0
FormTwice ts = (d : Data) × (s : Shape) × Form ts d s × (s.twice ≡ true)

-- they form one of more than 16 levels
abbrev pub FormDeep : List Token → Type 0
FormDeep ts = (d : Data) × (s : Shape) × Form ts d s × (16 < s.levels)

-- The tokens make a tree up to one on this line, and with that one there is this breach. The
-- breach that comes first in the text is also the first in the order Indent, DuplicateKey, Deep on
-- its line: only the first token of a line can be one that can't go on, or go on with a mapping,
-- since what stands behind a dash on its line begins a node of its own.
pub record BreaksTree (us : List (ℕ × Token)) (line : ℕ) (Breach : List Token → Type 0)
    : Type 0 where
  pub before : List (ℕ × Token)
  pub token : Token
  pub after : List (ℕ × Token)
  pub split : us ≡ before ++ (line, token) ∷ after
  pub tree : Data
  pub makes : MakesTree (plain before) tree
  pub breach : Breach (plain before ++ token ∷ [])

-- the first breach of the tokens
abbrev pub IsFirst : List (ℕ × Token) → YamlNo → Type 0
IsFirst us (Outside line) = ⊥
IsFirst us (Indent line) = BreaksTree us line FormNone
IsFirst us (DuplicateKey line) = BreaksTree us line FormTwice
IsFirst us (Deep line) = BreaksTree us line FormDeep
IsFirst us NoMemory = ⊥

abbrev pub ReadsTree : Result (List (ℕ × Token)) ℕ → Tree → Type 0
ReadsTree (Ok us) tree = MakesTree (plain us) (view tree)
ReadsTree (Err n) tree = ⊥

abbrev pub Refuses : Result (List (ℕ × Token)) ℕ → YamlNo → Type 0
Refuses wanted NoMemory = ⊤
Refuses (Ok us) why = IsFirst us why
Refuses (Err n) (Outside line) = line ≡ n
Refuses (Err n) why = ⊥

-- Each line has tokens, and they make the tree; or a line has none, and the first such line is
-- named; or the first breach of the tokens is. Want of memory may take the place of any answer.
abbrev pub Reads : Result (List (ℕ × Token)) ℕ → Result Tree YamlNo → Type 0
Reads wanted (Ok tree) = ReadsTree wanted tree
Reads wanted (Err why) = Refuses wanted why

-- no other tree is formed by the tokens
abbrev pub OnlyTree : Result (List (ℕ × Token)) ℕ → Data → Type 0
OnlyTree (Ok us) tree = (d : Data) (s : Shape) → Form (plain us) d s → d ≡ tree
OnlyTree (Err n) tree = ⊥

-- the tree of a text: each of its lines has tokens, and they make this tree
abbrev pub HasTree : Result (List (ℕ × Token)) ℕ → Data → Type 0
HasTree (Ok us) d = MakesTree (plain us) d
HasTree (Err n) d = ⊥

-- where this is answered there is no tree. Want of memory says nothing.
abbrev pub NoTree : Result (List (ℕ × Token)) ℕ → YamlNo → Type 0
NoTree wanted NoMemory = ⊤
NoTree wanted why = (d : Data) → HasTree wanted d → ⊥

-- The answer for a text: what its lines have, and what reading that answers.
abbrev pub ReadsText : List ℕ → Result Tree YamlNo → Type 0
ReadsText text result =
    (wanted : Result (List (ℕ × Token)) ℕ) × TextHas text wanted × Reads wanted result

abbrev pub IsOnlyTree : List ℕ → Data → Type 0
IsOnlyTree text tree =
    (wanted : Result (List (ℕ × Token)) ℕ) → TextHas text wanted → OnlyTree wanted tree

abbrev pub HasNoTree : List ℕ → YamlNo → Type 0
HasNoTree text why =
    (wanted : Result (List (ℕ × Token)) ℕ) → TextHas text wanted → NoTree wanted why
