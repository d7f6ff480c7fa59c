use Rattle.std.proofs.Common.{◌≡◌, [], ◌∷◌, ◌++◌, arith, refl, sym, ap, ◌∙◌}
use Rattle.kr_aes.specs.Cipher.{add_round_key, cipher, mix_columns, round_count, shift_rows, sub_bytes}
use Rattle.kr_aes.proofs.RoundCounts.{after_rounds_next, more_rounds}
use Rattle.kr_aes.proofs.begun.Begun.encrypt_block.Goals as goal

pub loop-round-preserved : goal.loop-round-preserved
loop-round-preserved c =
    rw c.words-words.ensures at c.forward_round-next.ensures
    ∙ ap (λ s. add_round_key c.args.self.now.words c.loop-round.round (mix_columns (shift_rows (sub_bytes s)))) c.loop-round.invariant
    ∙ sym (after_rounds_next c.args.self.now.words (c.args.self.now.front ++ c.args.last ∷ []) c.loop-round.round (omega arith))

pub returns : goal.returns
unfolding cipher
returns c =
    let at : c.loop-round.round ≡ round_count c.args.rounds = omega (arith, more_rounds c.args.rounds, c.count-count.ensures) in
    c.columns_to_block.ensures ∙ c.last_forward_round-ciphered.ensures
    ∙ rw (c.loop-round.invariant, c.count-count.ensures, at, c.words-words.ensures) refl
