-- A byte of the planes that are mixed, by the calls' clauses from the last one back.
use Rattle.std.proofs.Common.{◌<◌, bit_xor, ap, ◌∙◌, arith}
use Rattle.kr_aes.specs.Field.{product}
use Rattle.kr_aes_bitsliced.specs.inner.Planes.{place_of, sliced_byte}
use Rattle.kr_aes_bitsliced.proofs.InverseMixing.{unmixed_block}
use Rattle.kr_aes_bitsliced.proofs.inverse_mixing.inverse_mix_columns.Goals as goal

pub returns : goal.returns
returns c = λ b hb.
    c.mix_columns.ensures b hb
    ∙ unmixed_block c.args.planes c.added-2.result b (λ row column hr hc.
    let p = place_of row column in
    let within : p < 16 = omega arith in
    let own = sliced_byte c.args.planes b p in
    c.added-2.ensures b p hb within
    ∙ ap (bit_xor own) (c.doubled-fourth.ensures b p hb within
    ∙ ap (product 2) (c.doubled.ensures b p hb within
    ∙ ap (product 2) (c.added.ensures b p hb within
    ∙ ap (bit_xor own) (c.up_by_two.ensures b row column hb hr hc)))))
