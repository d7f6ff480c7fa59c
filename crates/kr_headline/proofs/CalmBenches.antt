-- A random source whose count is zero in the end failed at no line.
use Rattle.std.specs.Prelude.{slice_get}
use Rattle.std.proofs.Common.{◌≡◌, ℕ, zero, suc, ◌+◌, ◌-◌, ◌≤◌, List, [], get_or, length, Some, inl, inr, ap, sym, subst, ◌∙◌, arith}
use Rattle.std.proofs.lemmas.Option.{same_Some, slice_get-get_or, slice_get_within}
use Rattle.kr_base.specs.Faults.{Rose}
use Rattle.kr_kms.specs.Calls.{Link}
use Rattle.kr_kms.specs.Exchanges.{Exchange}
use Rattle.kr_provider.specs.BenchState.{BenchState}
use Rattle.kr_script.specs.declared.script.ScriptLine.{ScriptLine}
use Rattle.kr_headline.specs.Fleets.{AreBenches, AtLine}

never_rose : (before after : ℕ) → after ≤ 0 → Rose before after → ⊥
never_rose before after none (inl l) = omega (arith, none, l)
never_rose before after none (inr e) = let is = e.1 in omega (arith, none, is)

module _ {L D : Type 0} (link : L → Link) (step : L → Exchange → L → Type 0) (count : D → ℕ)
    (benches : List (List L × D)) (exchanges : List (List Exchange)) (lines : List ScriptLine)
    (old new : BenchState L D)
    (b : AreBenches link step count benches exchanges lines old new) where
  -- the count at a place is at most that at the end
  count_to : (left at : ℕ) (bench : List L × D) → slice_get benches at ≡ Some bench
      → at + left ≡ length lines → count bench.1 ≤ count new.dice
  count_to zero at bench is sum =
      let there : at ≡ length lines = omega (arith, sum) in
      let same : bench ≡ (new.links, new.dice) = same_Some bench (new.links, new.dice)
      (sym is ∙ ap (slice_get benches) there ∙ b.last) in
      subst (λ (it : List L × D). count it.1 ≤ count new.dice) (sym same) (omega arith)
  count_to (suc left) at bench is sum =
      let next : List L × D = get_or benches (at + 1) bench in
      let asked : List Exchange = get_or exchanges at [] in
      let next_is : slice_get benches (at + 1) ≡ Some next =
      slice_get-get_or benches (at + 1) bench (omega (arith, sum, b.many)) in
      let asked_is : slice_get exchanges at ≡ Some asked =
      slice_get-get_or exchanges at [] (omega (arith, sum, b.each)) in
      let one = (b.stay at bench next asked is asked_is next_is).2 in
      let rest = count_to left (at + 1) next next_is (omega (arith, sum)) in
      omega (arith, one, rest)

  pub never_failed : count new.dice ≡ 0 → (at : ℕ)
      → AtLine benches exchanges at (λ before asked after. Rose (count before.1) (count after.1))
      → ⊥
  never_failed none at a =
      let within = slice_get_within benches (at + 1) a.after a.after_is in
      let more = count_to (length lines - (at + 1)) (at + 1) a.after a.after_is
      (omega (arith, within, b.many)) in
      never_rose (count a.before.1) (count a.after.1) (omega (arith, more, none)) a.has
