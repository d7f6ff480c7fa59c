use Rattle.std.proofs.Common.{◌∙◌, ap}
use Rattle.kr_aes.specs.Cipher.{sbox, affine}
use Rattle.kr_aes.proofs.Boxes.{rotations-affine}
use Rattle.kr_aes.proofs.state.sbox.Goals as goal

pub returns : goal.returns
unfolding sbox
returns c =
    rw (c.rotate_left.ensures, c.rotate_left-2.ensures, c.rotate_left-3.ensures, c.rotate_left-4.ensures)
    (rotations-affine c.inverse-c.result c.inverse-c.type_inv ∙ ap affine c.inverse-c.ensures)
