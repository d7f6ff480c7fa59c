use Rattle.std.proofs.Common.{◌≡◌, ◌-◌, ◌<◌, ◌≤◌, ℕ, List, suc, refl, sym, ap, ◌∙◌, arith}
use Rattle.kr_aes.specs.declared.Rounds.{Rounds}
use Rattle.kr_aes.specs.Cipher.{IsBlock, add_round_key, cipher}
use Rattle.kr_aes.specs.InverseCipher.{after_inverse_rounds, inverse_cipher, inverse_mix_columns, inverse_shift_rows, inverse_sub_bytes}
use Rattle.kr_aes.proofs.InverseRounds.{inverse_cipher-cipher}
use Rattle.kr_aes.proofs.RoundCounts.{some_rounds}
use Rattle.kr_aes.proofs.plain.decrypt_block.Goals as goal

-- one more inverse round, with the key below
after_inverse_rounds_next : (words : List ℕ) (count : ℕ) (block : List ℕ) (round : ℕ) → 1 < round → round ≤ count
    → after_inverse_rounds words count block (count - (round - 1))
    ≡ inverse_mix_columns (add_round_key words (round - 1) (inverse_sub_bytes (inverse_shift_rows (after_inverse_rounds words count block (count - round)))))
unfolding after_inverse_rounds
after_inverse_rounds_next words count block round some within =
    let e : count - (round - 1) ≡ suc (count - round) = omega arith in
    let at : count - suc (count - round) ≡ round - 1 = omega arith in
    rw e (ap (λ i. inverse_mix_columns (add_round_key words i (inverse_sub_bytes (inverse_shift_rows (after_inverse_rounds words count block (count - round)))))) at)

pub loop-round-init : goal.loop-round-init
unfolding after_inverse_rounds
loop-round-init c =
    let none : c.count-count.result - c.count-count.result ≡ 0 = omega arith in record {
      some = omega (arith, some_rounds c.args.rounds, c.count-count.ensures);
      within = omega arith;
      state = rw none c.add_round_key.ensures;
    }

pub loop-round-preserved : goal.loop-round-preserved
loop-round-preserved c = record {
  some = omega arith;
  within = omega (arith, c.loop-round.invariant.within);
  state =
      rw (c.inverse_mix_columns.ensures, c.add_round_key-in-loop-round.ensures, c.inverse_sub_bytes.ensures, c.inverse_shift_rows.ensures, c.loop-round.invariant.state)
      (sym (after_inverse_rounds_next c.args.words.now c.count-count.result c.args.block.now c.loop-round.round c.loop-round-test.true c.loop-round.invariant.within));
}

undone : (words : List ℕ) (rounds : Rounds) (block outcome : List ℕ) → outcome ≡ inverse_cipher words rounds block
    → (plain : List ℕ) → IsBlock plain → block ≡ cipher words rounds plain → outcome ≡ plain
undone words rounds block outcome e plain is from = e ∙ ap (inverse_cipher words rounds) from ∙ inverse_cipher-cipher words rounds plain is

pub returns-clause-inverse : goal.returns-clause-inverse
unfolding inverse_cipher
returns-clause-inverse c =
    let at : c.loop-round.round ≡ 1 = omega (arith, c.loop-round.invariant.some) in
    rw (c.add_round_key-2.ensures, c.inverse_sub_bytes-2.ensures, c.inverse_shift_rows-2.ensures, c.loop-round.invariant.state, at, c.count-count.ensures) refl

pub returns-clause-undone : goal.returns-clause-undone
returns-clause-undone c = undone c.args.words.now c.args.rounds c.args.block.now c.add_round_key-2.new.block (returns-clause-inverse c)
