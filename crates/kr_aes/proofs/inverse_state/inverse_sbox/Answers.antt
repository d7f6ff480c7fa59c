use Rattle.std.proofs.Common.{ap, ◌∙◌, arith}
use Rattle.kr_aes.specs.Field.{inverse}
use Rattle.kr_aes.proofs.Boxes.{inverse_rotations-affine}
use Rattle.kr_aes.proofs.TableCells.{inverse-inverse_affine}
use Rattle.kr_aes.proofs.inverse_state.inverse_sbox.Goals as goal

pub returns : goal.returns
returns c =
    rw (c.inverse.ensures, c.rotate_left.ensures, c.rotate_left-2.ensures, c.rotate_left-3.ensures)
    (ap inverse (inverse_rotations-affine c.args.b (omega arith)) ∙ inverse-inverse_affine c.args.b (omega arith))
