use Rattle.std.proofs.Common.{◌≡◌, ℕ, slice_index, bit_xor, bit_or, below_more, refl, sym, ap, arith}
use Rattle.std.proofs.lemmas.Bool.{eq-eqb, eqb-true}
use Rattle.std.proofs.lemmas.List.{ext_get_or}
use Rattle.std.proofs.lemmas.Nat.{le_or_l, le_or_r}
use Rattle.std.specs.Int.Bits.{xor_self}
use Rattle.kr_modes.proofs.Xors.{same_from_xor}
use Rattle.kr_modes.proofs.gcm.is_same.Goals as goal

none_before : (d x : ℕ) → bit_or d x ≡ 0 → d ≡ 0
none_before d x e = omega (arith, le_or_l d x)

none_here : (d x : ℕ) → bit_or d x ≡ 0 → x ≡ 0
none_here d x e = omega (arith, le_or_r d x)

none_yet : (d a b : ℕ) → d ≡ 0 → b ≡ a → bit_or d (bit_xor a b) ≡ 0
none_yet d a b e same = rw (e, same, xor_self a) refl

pub loop-i-preserved : goal.loop-i-preserved
loop-i-preserved c =
    let l = c.loop-i in
    let tag = c.args.tag.now in
    let other = c.args.other.now in
    let d : ℕ = bit_xor (slice_index tag l.i) (slice_index other l.i) in
    record {
      same = λ e. below_more (λ k. slice_index other k ≡ slice_index tag k) l.i (l.invariant.same (none_before l.difference d e)) (sym (same_from_xor (slice_index tag l.i) (slice_index other l.i) (none_here l.difference d e)));
      none = λ each. none_yet l.difference (slice_index tag l.i) (slice_index other l.i) (l.invariant.none (λ k lt. each k (omega arith))) (each l.i (omega arith));
    }

pub returns : goal.returns
returns c =
    let l = c.loop-i in
    let tag = c.args.tag.now in
    let other = c.args.other.now in (
      λ none. ext_get_or 0 other tag (omega arith) (λ k lt. l.invariant.same (eqb-true l.difference 0 none) k (omega arith)),
      λ e. eq-eqb l.difference 0 (l.invariant.none (λ k lt. ap (λ xs. slice_index xs k) e)),
    )
