use Rattle.std.specs.Prelude.{[]}
use Rattle.std.proofs.Common.{◌≡◌, ◌<◌, ◌+◌, ◌*◌, ℕ, List, length, slice_index, ap, ◌∙◌, arith, inl, inr}
use Rattle.std.proofs.lemmas.Bool.{cases_lt}
use Rattle.std.proofs.lemmas.List.{get_or-set_other, get_or-set_same, length-set}
use Rattle.std.specs.Int.{w128, reverse_bits}
use Rattle.kr_modes.specs.Ghash.{polynomial}
use Rattle.kr_modes.specs.inner.Tables.{four_terms, polynomial_of, power, times_x, turned}
use Rattle.kr_modes.proofs.Numbers.{polynomial-lt}
use Rattle.kr_modes.proofs.Remainders.{power_next, power_none}
use Rattle.kr_modes.proofs.ghash.fill.Goals as goal

four_up : (i h p : ℕ) → p ≡ power (4 * i) h → times_x (times_x (times_x (times_x p))) ≡ power (4 * (i + 1)) h
four_up i h p e =
    let end : 4 * i + 1 + 1 + 1 + 1 ≡ 4 * (i + 1) = omega arith in
    let one = ap (λ (x : ℕ). times_x x) e ∙ power_next (4 * i) h in
    let two = ap (λ (x : ℕ). times_x x) one ∙ power_next (4 * i + 1) h in
    let three = ap (λ (x : ℕ). times_x x) two ∙ power_next (4 * i + 1 + 1) h in
    ap (λ (x : ℕ). times_x x) three ∙ power_next (4 * i + 1 + 1 + 1) h ∙ ap (λ (k : ℕ). power k h) end

pub loop-place-init : goal.loop-place-init
unfolding polynomial
loop-place-init c = record {
  size = omega arith;
  powers = ap (reverse_bits w128) c.from_be_bytes-power.ensures ∙ power_none (polynomial c.args.subkey.now);
  cells = λ place v lt small. absurd (omega arith);
}

pub loop-place-preserved : goal.loop-place-preserved
loop-place-preserved c =
    let l = c.loop-place in
    let h : ℕ = polynomial c.args.subkey.now in
    let lt : l.place < length l.products = omega (arith, l.invariant.size) in
    let up = c.shifted-power.ensures ∙ ap (λ (x : ℕ). times_x x) (c.shifted-in-loop-place-2.ensures ∙ ap (λ (x : ℕ). times_x x) (c.shifted-in-loop-place.ensures ∙ ap (λ (x : ℕ). times_x x) c.shifted.ensures)) in
    record {
      size = length-set l.products l.place c.multiples.result ∙ l.invariant.size;
      powers = up ∙ four_up l.place h (reverse_bits w128 l.power) l.invariant.powers;
      cells = λ place v below small. elim (cases_lt place l.place) [
        | inl before ↦
            ap (λ (xs : List ℕ). polynomial_of (slice_index xs v)) (get_or-set_other l.products l.place place c.multiples.result [] (λ same. omega (arith, same)))
            ∙ l.invariant.cells place v before small
        | inr last ↦
            let same : place ≡ l.place = omega arith in
            rw same (ap (λ (xs : List ℕ). polynomial_of (slice_index xs v)) (get_or-set_same l.products l.place c.multiples.result [] lt)
            ∙ c.multiples.ensures v small ∙ ap (four_terms (turned v)) l.invariant.powers)
      ];
    }

pub returns : goal.returns
returns c = record {
  fits = polynomial-lt c.args.subkey.now;
  cells = λ place v lt small. c.loop-place.invariant.cells place v (omega arith) small;
}
