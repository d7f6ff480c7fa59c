-- How the answers of putting a token stand to what is meant: want of memory may take the place
-- of any other.
use Rattle.std.specs.Prelude.{◌≡◌, ◌<◌, ◌≤◌, ⊤, Bool, true, false, [], ◌∷◌, length, Option, None}
use Rattle.std.specs.Prelude.{Some, Result, Ok, Err, Vec}
use Rattle.std.specs.Option.{option_map}
use Rattle.std.specs.declared.alloc.Global.{Global}
use Rattle.kr_yaml.specs.Shown.{view}
use Rattle.kr_yaml.specs.inner.Open.{State}
use Rattle.kr_yaml.specs.inner.Frames.{frame_view, state_view}
use Rattle.kr_yaml.specs.declared.tree.Tree.{Tree}
use Rattle.kr_yaml.specs.declared.open.OpenNode.{OpenNode}
use Rattle.kr_yaml.specs.declared.place_error.PlaceError.{PlaceError}
use Rattle.kr_yaml.specs.declared.place_error.PlaceError.TheVariants.{Indent, DuplicateKey}
use Rattle.kr_yaml.specs.declared.place_error.PlaceError.TheVariants.{Deep, NoMemory}

-- an open node goes on with what a token makes of it, which is this or a breach
abbrev pub Continues : Option State → Bool → Result (OpenNode × Option Tree) PlaceError → Type 0
Continues wanted twice (Ok x) =
    (wanted ≡ Some (frame_view x.0 ∷ [], option_map view x.1)) × (twice ≡ false)
Continues wanted twice (Err Indent) = wanted ≡ None
Continues wanted twice (Err DuplicateKey) = (s : State) × (wanted ≡ Some s) × (twice ≡ true)
Continues wanted twice (Err Deep) =
    (s : State) × (wanted ≡ Some s) × (16 < length s.0) × (twice ≡ false)
Continues wanted twice (Err NoMemory) = ⊤

abbrev pub Puts : Option State → Bool → Result (Vec OpenNode Global × Option Tree) PlaceError
    → Type 0
Puts wanted twice (Ok x) =
    (wanted ≡ Some (state_view x.0.items x.1)) × (twice ≡ false) × (length x.0.items ≤ 16)
Puts wanted twice (Err Indent) = wanted ≡ None
Puts wanted twice (Err DuplicateKey) = (s : State) × (wanted ≡ Some s) × (twice ≡ true)
Puts wanted twice (Err Deep) =
    (s : State) × (wanted ≡ Some s) × (16 < length s.0) × (twice ≡ false)
Puts wanted twice (Err NoMemory) = ⊤

-- the node and the value that a token begins
abbrev pub Begins : State → Option OpenNode → Option Tree → Type 0
Begins wanted None value = wanted ≡ ([], option_map view value)
Begins wanted (Some node) value = wanted ≡ (frame_view node ∷ [], option_map view value)
