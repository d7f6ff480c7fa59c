-- Laws of the definitions.
use Rattle.std.specs.Prelude.{◌≡◌, ◌≢◌, ◌↔◌, ℕ, ◌⊎◌, List, [], ◌∷◌, ◌++◌}
use Rattle.std.specs.Prelude.{Result, Ok, Err}
use Rattle.kr_yaml.specs.Data.{Data}
use Rattle.kr_yaml.specs.Lines.{Token, IsLine}
use Rattle.kr_yaml.specs.Texts.{TextHas, text_tokens}
use Rattle.kr_yaml.specs.Forms.{Shape, Form}
use Rattle.kr_yaml.specs.Shown.{view}
use Rattle.kr_yaml.specs.Reads.{HasTree, Refuses, Reads}
use Rattle.kr_yaml.specs.declared.tree.Tree.{Tree}
use Rattle.kr_yaml.specs.declared.yaml_no.YamlNo.{YamlNo}
use Rattle.kr_yaml.specs.declared.yaml_no.YamlNo.TheVariants.{NoMemory}

-- a text is read as exactly what its lines have
abbrev pub ReadAsWritten : Type 0
ReadAsWritten = (text : List ℕ) (wanted : Result (List (ℕ × Token)) ℕ)
    → (text_tokens text ≡ wanted) ↔ TextHas text wanted

-- tokens form one tree at most, of one shape
abbrev pub OneForm : Type 0
OneForm = (ts : List Token) (d e : Data) (s t : Shape) → Form ts d s → Form ts e t
    → (d ≡ e) × (s ≡ t)

-- two answers are one, unless one of them is want of memory
abbrev pub AreOneTree : Result Tree YamlNo → Result Tree YamlNo → Type 0
AreOneTree (Ok x) (Ok y) = view x ≡ view y
AreOneTree (Ok x) (Err why) = why ≡ NoMemory
AreOneTree (Err why) (Ok x) = why ≡ NoMemory
AreOneTree (Err why) (Err other) = (why ≡ NoMemory) ⊎ (other ≡ NoMemory) ⊎ (why ≡ other)

-- a text is answered by one tree, or by one breach
abbrev pub OneAnswer : Type 0
OneAnswer = (wanted : Result (List (ℕ × Token)) ℕ) (a b : Result Tree YamlNo)
    → Reads wanted a → Reads wanted b → AreOneTree a b

-- a tree, or a refusal other than want of memory
abbrev pub AnswerOf : Result (List (ℕ × Token)) ℕ → Type 0
AnswerOf wanted =
    ((d : Data) × HasTree wanted d) ⊎ ((why : YamlNo) × Refuses wanted why × (why ≢ NoMemory))

-- a text has an answer
abbrev pub SomeAnswer : Type 0
SomeAnswer = (wanted : Result (List (ℕ × Token)) ℕ) → AnswerOf wanted

-- Behind a token of its own line a token always goes on, and repeats no key. So of the breaches
-- on one line the first is also the first in the order Indent, DuplicateKey, Deep.
abbrev pub OnALine : Type 0
OnALine = (line : List ℕ) (front rest before : List Token) (t u : Token) (d : Data) (s : Shape)
    → IsLine line (front ++ t ∷ (u ∷ rest)) → Form (before ++ t ∷ []) d s
    → (e : Data) × (x : Shape) × Form ((before ++ t ∷ []) ++ u ∷ []) e x × (x.twice ≡ s.twice)
