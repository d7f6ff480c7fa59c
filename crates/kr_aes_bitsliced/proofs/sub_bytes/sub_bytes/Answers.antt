use Rattle.std.proofs.Common.{ap, ◌∙◌}
use Rattle.kr_aes.specs.Cipher.{affine, sbox}
use Rattle.kr_aes.specs.Field.{inverse}
use Rattle.kr_aes_bitsliced.proofs.sub_bytes.sub_bytes.Goals as goal

pub returns : goal.returns
unfolding sbox
returns c b p small lt =
    c.joined.ensures b p small lt
    ∙ ap affine (c.inverted.ensures b p small lt ∙ ap inverse (c.parted.ensures b p small lt))
