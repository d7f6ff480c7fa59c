-- What is read of a line.
use Rattle.std.specs.Prelude.{◌≡◌, ℕ, List, Option, Some, None, Result, Ok, Err, ⊤}
use Rattle.serde_json.specs.View.{view}
use Rattle.serde_json.specs.declared.value.Value.{Value}
use Rattle.kr_kms_wire.specs.Members.{parsed_line_value}
use Rattle.kr_kms_wire.specs.declared.members.MemberNo.{MemberNo}
use Rattle.kr_kms_wire.specs.declared.members.MemberNo.TheVariants as value
use Rattle.kr_kms_wire.specs.declared.members.ShapeNo.{ShapeNo}
use Rattle.kr_kms_wire.specs.declared.members.ShapeNo.TheVariants as shape

-- what is wanted was read, as far as there was memory for it
abbrev pub Reads : {T : Type 0} → Option T → Result T ShapeNo → Type 0
Reads wanted (Ok x) = wanted ≡ Some x
Reads wanted (Err shape.Shape) = wanted ≡ None
Reads wanted (Err shape.NoMemory) = ⊤

-- the value of a line
abbrev pub ReadsValue : List ℕ → Result Value MemberNo → Type 0
ReadsValue line (Ok json) = parsed_line_value line ≡ Some (view json)
ReadsValue line (Err value.NotJson) = parsed_line_value line ≡ None
ReadsValue line (Err value.NoMemory) = ⊤
