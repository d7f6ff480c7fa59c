-- A foreign text as it is printed.
use Rattle.std.specs.Prelude.{ℕ, ◌&&◌, nat_le, List, map, if◌then◌else◌}

-- a byte outside 20 to 7E hex is a `?`
abbrev pub visible_byte : ℕ → ℕ
visible_byte byte = if nat_le 0x20 byte && nat_le byte 0x7E then byte else 0x3F

abbrev pub visible : List ℕ → List ℕ
visible text = map visible_byte text
