use Rattle.std.proofs.Common.{◌≡◌, ◌-◌, ◌∙◌, ap, arith}
use Rattle.kr_aes.specs.Cipher.{add_round_key, round_count}
use Rattle.kr_aes.specs.InverseCipher.{after_inverse_rounds, inverse_cipher, inverse_mix_columns}
use Rattle.kr_aes_bitsliced.specs.inner.Planes.{sliced_block}
use Rattle.kr_aes_bitsliced.proofs.InverseRounds.{inverse_rounds_more, sliced_opened}
use Rattle.kr_aes_bitsliced.proofs.RoundLoop.{all_but_one, begun, one_more}
use Rattle.kr_aes_bitsliced.proofs.rounds.inverse_cipher.Goals as goal

pub loop-round-init : goal.loop-round-init
unfolding after_inverse_rounds
loop-round-init c = begun (λ words. after_inverse_rounds words c.count-last.result) _ _ _ c.args.rounds _ c.count-last.ensures
    c.key_added-state.ensures

pub loop-round-preserved : goal.loop-round-preserved
loop-round-preserved c =
    let last = c.count-last.result in
    let round = c.loop-round.round in
    one_more (λ words. after_inverse_rounds words last) _ c.loop-round.state _ c.args.planes round _
    c.loop-round.invariant (omega arith) (λ words is b lt before.
    c.inverse_mix_columns-state.ensures b lt
    ∙ ap inverse_mix_columns (c.key_added.ensures words is b lt
    ∙ ap (add_round_key words (last - round))
    (sliced_opened b _ c.loop-round.state c.inverse_shift_rows.result
    c.inverse_sub_bytes-opened.result before (c.inverse_shift_rows.ensures b lt)
    (λ p. c.inverse_sub_bytes-opened.ensures b p lt)))
    ∙ inverse_rounds_more words last round (sliced_block c.args.planes b) c.loop-round.invariant.some)

pub returns : goal.returns
unfolding inverse_cipher
returns c = λ words is b lt.
    let block = sliced_block c.args.planes b in
    let count = round_count c.args.rounds in
    let last : c.count-last.result ≡ count = c.count-last.ensures in
    c.key_added-2.ensures words is b lt
    ∙ ap (add_round_key words 0)
    (sliced_opened b _ c.loop-round.state c.inverse_shift_rows-2.result c.inverse_sub_bytes.result
    (all_but_one (λ words. after_inverse_rounds words c.count-last.result) _ _ c.args.planes _ _ count
    c.loop-round.invariant (omega arith) last words is b lt
    ∙ (λ i. after_inverse_rounds words (last i) block (count - 1)))
    (c.inverse_shift_rows-2.ensures b lt) (λ p. c.inverse_sub_bytes.ensures b p lt))
