use Rattle.std.proofs.Common.{◌≡◌, arith, sym, refl, ◌∙◌, ap}
use Rattle.kr_aes.specs.Cipher.{add_round_key, after_rounds, cipher, mix_columns, round_count, shift_rows, sub_bytes}
use Rattle.kr_aes.proofs.RoundCounts.{after_rounds_next, some_rounds}
use Rattle.kr_aes.proofs.encrypt_block.Goals as goal

pub loop-round-init : goal.loop-round-init
unfolding after_rounds
loop-round-init c = c.first-state.ensures

pub loop-round-preserved : goal.loop-round-preserved
loop-round-preserved c =
    c.forward_round-next.ensures
    ∙ ap (λ s. add_round_key c.args.words.now c.loop-round.round (mix_columns (shift_rows (sub_bytes s)))) c.loop-round.invariant
    ∙ sym (after_rounds_next c.args.words.now c.args.block.now c.loop-round.round c.loop-round.auto.round)

pub returns : goal.returns
unfolding cipher
returns c =
    let at : c.loop-round.round ≡ round_count c.args.rounds = omega (arith, some_rounds c.args.rounds, c.count-last.ensures) in
    c.columns_to_block.ensures ∙ c.last_forward_round-ciphered.ensures
    ∙ rw (c.loop-round.invariant, c.count-last.ensures, at) refl
