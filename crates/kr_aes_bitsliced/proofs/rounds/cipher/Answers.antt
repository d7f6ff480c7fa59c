use Rattle.std.proofs.Common.{◌≡◌, ◌∙◌, ap, arith}
use Rattle.kr_aes.specs.Cipher.{add_round_key, after_rounds, cipher, mix_columns, round_count}
use Rattle.kr_aes_bitsliced.specs.inner.Planes.{sliced_block}
use Rattle.kr_aes_bitsliced.proofs.ForwardRounds.{rounds_more, sliced_substituted}
use Rattle.kr_aes_bitsliced.proofs.RoundLoop.{all_but_one, begun, one_more}
use Rattle.kr_aes_bitsliced.proofs.rounds.cipher.Goals as goal

pub loop-round-init : goal.loop-round-init
unfolding after_rounds
loop-round-init c = begun after_rounds _ _ _ c.args.rounds _ c.count-last.ensures
    c.key_added-state.ensures

pub loop-round-preserved : goal.loop-round-preserved
loop-round-preserved c =
    let round = c.loop-round.round in
    one_more after_rounds _ c.loop-round.state _ c.args.planes round _ c.loop-round.invariant (omega arith)
    (λ words is b lt before.
    c.key_added-state-in-loop-round.ensures words is b lt
    ∙ ap (add_round_key words round) (c.mix_columns-mixed.ensures b lt
    ∙ ap mix_columns
    (sliced_substituted b _ c.loop-round.state c.sub_bytes.result c.shift_rows.result
    before (λ p. c.sub_bytes.ensures b p lt) (c.shift_rows.ensures b lt)))
    ∙ rounds_more words round (sliced_block c.args.planes b) c.loop-round.invariant.some)

pub returns : goal.returns
unfolding cipher
returns c = λ words is b lt.
    let last : c.count-last.result ≡ round_count c.args.rounds = c.count-last.ensures in
    c.key_added.ensures words is b lt
    ∙ (λ i. add_round_key words (last i) (
    sliced_substituted b _ c.loop-round.state c.sub_bytes-2.result c.shift_rows-2.result
    (all_but_one after_rounds _ _ c.args.planes _ _ _ c.loop-round.invariant (omega arith) last words is b lt)
    (λ p. c.sub_bytes-2.ensures b p lt) (c.shift_rows-2.ensures b lt) i))
