-- Reading tokens one after the other, up to the first breach.
use Rattle.std.specs.Prelude.{◌≡◌, ℕ, ◌<◌, ◌≤◌, ⊤, Bool, true, false, List, [], ◌++◌, length}
use Rattle.std.specs.Prelude.{Option, None, Some, Result, Ok, Err}
use Rattle.std.specs.Option.{option_map}
use Rattle.kr_yaml.specs.Lines.{Token}
use Rattle.kr_yaml.specs.Forms.{Shape}
use Rattle.kr_yaml.specs.Shown.{view}
use Rattle.kr_yaml.specs.inner.Open.{State, put, doubles, run}
use Rattle.kr_yaml.specs.inner.Frames.{frame_views, state_view}
use Rattle.kr_yaml.specs.inner.Standing.{Stands}
use Rattle.kr_yaml.specs.Reads.{plain, IsFirst}
use Rattle.kr_yaml.specs.Lines.{at_line}
use Rattle.kr_yaml.specs.declared.standing.Standing.{Standing as Nodes}
use Rattle.kr_yaml.specs.declared.progress.Progress.{Progress}
use Rattle.kr_yaml.specs.declared.progress.Progress.TheVariants.{Going, Broken}
use Rattle.kr_yaml.specs.declared.yaml_no.YamlNo.{YamlNo}
use Rattle.kr_yaml.specs.declared.yaml_no.YamlNo.TheVariants.{Outside, Indent, DuplicateKey}
use Rattle.kr_yaml.specs.declared.yaml_no.YamlNo.TheVariants.{Deep, NoMemory}

-- a token on this line more: it goes on, or it is the first breach, behind which nothing changes
abbrev pub Fails : Option State → Bool → ℕ → YamlNo → Type 0
Fails wanted twice n (Outside line) = ⊥
Fails wanted twice n (Indent line) = (line ≡ n) × (wanted ≡ None)
Fails wanted twice n (DuplicateKey line) =
    (line ≡ n) × ((s : State) × (wanted ≡ Some s) × (twice ≡ true))
Fails wanted twice n (Deep line) =
    (line ≡ n) × ((s : State) × (wanted ≡ Some s) × (16 < length s.0) × (twice ≡ false))
Fails wanted twice n NoMemory = ⊥

abbrev pub Moves : Progress → ℕ → Token → Progress → Type 0
Moves (Going old) n t (Going new) =
    (put t (frame_views old.nodes.items) (option_map view old.value)
    ≡ Some (state_view new.nodes.items new.value))
    × (doubles t (frame_views old.nodes.items) ≡ false)
Moves (Going old) n t (Broken why) =
    Fails (put t (frame_views old.nodes.items) (option_map view old.value))
    (doubles t (frame_views old.nodes.items)) n why
Moves (Broken why) n t (Going new) = ⊥
Moves (Broken why) n t (Broken now) = now ≡ why

-- the tokens so far stand in these nodes
pub record IsGoing (us : List (ℕ × Token)) (nodes : Nodes) : Type 0 where
  pub shape : Shape
  pub stands : Stands 0 (plain us) (frame_views nodes.nodes.items) (option_map view nodes.value)
      shape
  pub levels : shape.levels ≤ 16
  pub once : shape.twice ≡ false
  pub runs : run (plain us) ([], None) ≡ Some (state_view nodes.nodes.items nodes.value)

-- the same, or one of them was the first to break a rule
abbrev pub HoldsTokens : List (ℕ × Token) → Progress → Type 0
HoldsTokens us (Going nodes) = IsGoing us nodes
HoldsTokens us (Broken why) = IsFirst us why

-- the tokens of a line more
abbrev pub Extends : Progress → ℕ → List Token → Progress → Type 0
Extends old n ts new =
    (us : List (ℕ × Token)) → HoldsTokens us old → HoldsTokens (us ++ at_line n ts) new

-- how far the lines were read, unless one of them has no tokens
abbrev pub ReadsLines : Result (List (ℕ × Token)) ℕ → Result Progress YamlNo → Type 0
ReadsLines wanted (Ok progress) =
    (us : List (ℕ × Token)) × (wanted ≡ Ok us) × HoldsTokens us progress
ReadsLines wanted (Err (Outside line)) = wanted ≡ Err line
ReadsLines wanted (Err (Indent line)) = ⊥
ReadsLines wanted (Err (DuplicateKey line)) = ⊥
ReadsLines wanted (Err (Deep line)) = ⊥
ReadsLines wanted (Err NoMemory) = ⊤
