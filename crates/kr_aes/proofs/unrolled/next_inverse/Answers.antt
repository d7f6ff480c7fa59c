use Rattle.std.proofs.Common.{◌+◌, ◌-◌, ◌∙◌, sym, ap}
use Rattle.kr_aes.specs.Cipher.{add_round_key}
use Rattle.kr_aes.specs.InverseCipher.{inverse_mix_columns, inverse_shift_rows, inverse_sub_bytes}
use Rattle.kr_aes.proofs.RoundCounts.{next_after_equivalent}
use Rattle.kr_aes.proofs.unrolled.next_inverse.Goals as goal

pub returns : goal.returns
returns c = λ block is.
    c.inverse_round.ensures
    ∙ ap (λ s. add_round_key c.args.inverse.now (c.args.last - (c.args.done + 1)) (inverse_mix_columns (inverse_shift_rows (inverse_sub_bytes s)))) is
    ∙ sym (next_after_equivalent c.args.inverse.now c.args.last block c.args.done)
