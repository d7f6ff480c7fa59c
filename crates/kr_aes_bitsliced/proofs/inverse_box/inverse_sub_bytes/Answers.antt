use Rattle.std.proofs.Common.{ℕ, ◌<◌, sym, ap, ◌∙◌}
use Rattle.kr_aes.specs.InverseCipher.{inverse_sbox}
use Rattle.kr_aes_bitsliced.specs.inner.Nibbles.{byte_of_pair, nibble_at}
use Rattle.kr_aes_bitsliced.proofs.InverseByPairs.{byte_of_pair-lt, inverse_sbox-affine, nibble_at-lt}
use Rattle.kr_aes_bitsliced.proofs.inverse_box.inverse_sub_bytes.Goals as goal

pub returns : goal.returns
returns c b p small lt =
    let h : ℕ = nibble_at c.parted.result.0 b p in
    let l : ℕ = nibble_at c.parted.result.1 b p in
    let h_lt : h < 16 = nibble_at-lt c.parted.result.0 b p in
    let l_lt : l < 16 = nibble_at-lt c.parted.result.1 b p in
    c.joined.ensures b p small lt
    ∙ c.inverted.ensures b p small lt
    ∙ sym (inverse_sbox-affine (byte_of_pair h l) (byte_of_pair-lt h l h_lt l_lt))
    ∙ ap inverse_sbox (c.parted.ensures b p small lt)
