-- What is printed of a foreign text is ASCII.
use Rattle.std.proofs.Common.{ℕ, zero, suc, ◌<◌, ◌≤◌, ◌≡◌, List, [], ◌∷◌, Bool, true, false, refl, arith}
use Rattle.std.specs.Prelude.{◌&&◌, nat_le, if◌then◌else◌}
use Rattle.std.specs.Str.{IsAscii}
use Rattle.std.proofs.lemmas.Bool.{leb-true}
use Rattle.kr_config.proofs.Inversions.{right}
use Rattle.kr_base.specs.Visible.{visible_byte, visible}

small : (byte : ℕ) (q : Bool) → (q ≡ true → byte ≤ 126) → (if q then byte else 63) < 128
small byte true h = omega (arith, h refl)
small byte false h = omega arith

visible_small : (byte : ℕ) → visible_byte byte < 128
visible_small byte =
    small byte (nat_le 0x20 byte && nat_le byte 0x7E)
    (λ t. leb-true byte 126 (right (nat_le 0x20 byte) (nat_le byte 0x7E) t))

pub visible_ascii : (text : List ℕ) → IsAscii (visible text)
visible_ascii [] i = omega arith
visible_ascii (byte ∷ text) zero = visible_small byte
visible_ascii (byte ∷ text) (suc i) = visible_ascii text i
