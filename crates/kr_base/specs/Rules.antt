-- The rules for names, paths and resources.
use Rattle.std.specs.Prelude.{◌≡◌, ◌≢◌, ℕ, ◌≤◌, ◌⊎◌, ◌==◌, ◌&&◌, ◌||◌, nat_le, not, Bool, if◌then◌else◌, List, [], ◌∷◌, length, All}
use Rattle.std.specs.List.{join_with_byte, list_all}
use Rattle.kr_base.specs.Limits.{path_limit, name_limit}

-- from `!` to `~`: printable ASCII but for the space
abbrev pub IsGraphic : ℕ → Type 0
IsGraphic byte = (0x21 ≤ byte) × (byte ≤ 0x7E)

-- a path has 1 to 1,024 graphic bytes
abbrev pub IsPath : List ℕ → Type 0
IsPath path = (1 ≤ length path) × (length path ≤ path_limit) × All IsGraphic path

-- the name of a key or a plugin has 1 to 253 graphic bytes, none of them `:`
abbrev pub IsName : List ℕ → Type 0
IsName name = (1 ≤ length name) × (length name ≤ name_limit)
    × All (λ byte. IsGraphic byte × (byte ≢ 0x3A)) name

-- a to z, 0 to 9 or `-`
abbrev pub IsLabelByte : ℕ → Type 0
IsLabelByte byte = ((0x61 ≤ byte) × (byte ≤ 0x7A)) ⊎ ((0x30 ≤ byte) × (byte ≤ 0x39)) ⊎ (byte ≡ 0x2D)

abbrev pub IsLabel : List ℕ → Type 0
IsLabel label = (1 ≤ length label) × All IsLabelByte label

-- one or more labels, parted by dots
pub record AreLabels (bytes : List ℕ) : Type 0 where
  pub labels : List (List ℕ)
  pub some : 1 ≤ length labels
  pub each : All IsLabel labels
  pub parted : bytes ≡ join_with_byte 0x2E labels

-- a resource is a name, or a name and behind a `.` a group: labels parted by dots, at most 253
-- bytes
abbrev pub IsResource : List ℕ → Type 0
IsResource resource = (length resource ≤ name_limit) × AreLabels resource

-- the same rules as tests that compute, for definitions by cases

abbrev pub is_graphic : ℕ → Bool
is_graphic byte = nat_le 0x21 byte && nat_le byte 0x7E

abbrev pub is_path : List ℕ → Bool
is_path path = nat_le 1 (length path) && nat_le (length path) path_limit && list_all is_graphic path

abbrev pub is_name : List ℕ → Bool
is_name name = nat_le 1 (length name) && nat_le (length name) name_limit
    && list_all (λ byte. is_graphic byte && not (byte == 0x3A)) name

abbrev pub is_label_byte : ℕ → Bool
is_label_byte byte = (nat_le 0x61 byte && nat_le byte 0x7A)
    || (nat_le 0x30 byte && nat_le byte 0x39) || (byte == 0x2D)

abbrev pub is_label : List ℕ → Bool
is_label label = nat_le 1 (length label) && list_all is_label_byte label

-- what stands before the first dot, and the parts behind it between dots
abbrev pub first_part : List ℕ → List ℕ
first_part [] = []
first_part (byte ∷ bytes) = if byte == 0x2E then [] else byte ∷ first_part bytes

abbrev pub later_parts : List ℕ → List (List ℕ)
later_parts [] = []
later_parts (byte ∷ bytes) =
    if byte == 0x2E then first_part bytes ∷ later_parts bytes else later_parts bytes

abbrev pub is_resource : List ℕ → Bool
is_resource resource = nat_le (length resource) name_limit
    && list_all is_label (first_part resource ∷ later_parts resource)
