use Rattle.std.proofs.Common.{◌≡◌, ℕ, ◌+◌, ◌-◌, List, sym, ap, ◌∙◌, arith}
use Rattle.kr_aes.specs.declared.Rounds.{Rounds}
use Rattle.kr_aes.specs.Cipher.{add_round_key, round_count}
use Rattle.kr_aes.specs.EquivalentInverse.{after_equivalent_rounds, equivalent_inverse_cipher}
use Rattle.kr_aes.specs.InverseCipher.{inverse_shift_rows, inverse_sub_bytes}
use Rattle.kr_aes.specs.inner.Columns.{DoesRounds, block_of_columns}
use Rattle.kr_aes.proofs.RoundCounts.{more_rounds}
use Rattle.kr_aes.proofs.unrolled.last_two_inverse.Goals as goal

-- the last round's block, behind one more round
ends : (inverse : List ℕ) (rounds : Rounds) (block : List ℕ) (last : ℕ) (columns mixed : List ℕ)
    → last ≡ round_count rounds → DoesRounds inverse last (last - 2) 1 columns mixed
    → block_of_columns columns
    ≡ after_equivalent_rounds inverse (round_count rounds) block (round_count rounds - 2)
    → add_round_key inverse 0 (inverse_shift_rows (inverse_sub_bytes (block_of_columns mixed)))
    ≡ equivalent_inverse_cipher inverse rounds block
unfolding equivalent_inverse_cipher
ends inverse rounds block last columns mixed last_is goes before =
    let done : last - 2 + 1 ≡ round_count rounds - 1 = omega (arith, last_is, more_rounds rounds) in
    ap (λ s. add_round_key inverse 0 (inverse_shift_rows (inverse_sub_bytes s)))
    (goes block (before ∙ ap (λ (n : ℕ). after_equivalent_rounds inverse n block (n - 2)) (sym last_is))
    ∙ (λ i. after_equivalent_rounds inverse (last_is i) block (done i)))

pub returns : goal.returns
returns c = λ block before.
    c.columns_to_block.ensures ∙ c.last_inverse_round-deciphered.ensures
    ∙ ends c.args.inverse.now c.args.rounds block _ c.args.state c.next_inverse-mixed.result c.count-last.ensures
    c.next_inverse-mixed.ensures before
