-- Each number of rounds has a last round.
use Rattle.std.proofs.Common.{◌≡◌, ℕ, suc, List, ◌+◌, ◌-◌, ◌≤◌, refl, ap, arith}
use Rattle.kr_aes.specs.declared.Rounds.{Rounds}
use Rattle.kr_aes.specs.declared.Rounds.TheVariants.{Ten}
use Rattle.kr_aes.specs.EquivalentInverse.{after_equivalent_rounds}
use Rattle.kr_aes.specs.InverseCipher.{inverse_mix_columns, inverse_shift_rows, inverse_sub_bytes}
use Rattle.kr_aes.specs.Cipher.{add_round_key, after_rounds, mix_columns, round_count, shift_rows, sub_bytes}

pub some_rounds : (rounds : Rounds) → 1 ≤ round_count rounds
some_rounds Ten = omega arith
some_rounds other = omega arith

pub more_rounds : (rounds : Rounds) → 3 ≤ round_count rounds
more_rounds Ten = omega arith
more_rounds other = omega arith

pub one_round : (rounds : Rounds) → round_count rounds - 1 + 0 + 1 ≡ round_count rounds
one_round Ten = refl
one_round other = refl

pub few_rounds : (rounds : Rounds) → round_count rounds ≤ 14
few_rounds Ten = omega arith
few_rounds other = omega arith

-- one more round
pub after_rounds_next : (words block : List ℕ) (n : ℕ) → 1 ≤ n
    → after_rounds words block (n + 1 - 1) ≡ add_round_key words n (mix_columns (shift_rows (sub_bytes (after_rounds words block (n - 1)))))
unfolding after_rounds
after_rounds_next words block n some =
    let e : n + 1 - 1 ≡ suc (n - 1) = omega arith in
    let at : suc (n - 1) ≡ n = omega arith in
    rw e (ap (λ i. add_round_key words i (mix_columns (shift_rows (sub_bytes (after_rounds words block (n - 1)))))) at)

-- one more round of the equivalent inverse cipher
pub next_after_equivalent : (inverse : List ℕ) (last : ℕ) (block : List ℕ) (done : ℕ)
    → after_equivalent_rounds inverse last block (done + 1)
    ≡ add_round_key inverse (last - (done + 1)) (inverse_mix_columns (inverse_shift_rows (inverse_sub_bytes (after_equivalent_rounds inverse last block done))))
unfolding after_equivalent_rounds
next_after_equivalent inverse last block done =
    let e : done + 1 ≡ suc done = omega arith in rw e refl
