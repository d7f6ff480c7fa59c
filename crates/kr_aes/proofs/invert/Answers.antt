use Rattle.std.proofs.Common.{◌≡◌, ℕ, ◌*◌, ◌∙◌, inl, inr, sym, arith}
use Rattle.std.proofs.lemmas.Bool.{cases_lt}
use Rattle.std.proofs.lemmas.List.FromFn.{fill_by_all}
use Rattle.kr_aes.specs.Cipher.{round_count}
use Rattle.kr_aes.specs.EquivalentInverse.{inverse_schedule, inverse_word}
use Rattle.kr_aes.proofs.Equivalent.{inverse_word-kept, inverse_word-mixed}
use Rattle.kr_aes.proofs.RoundCounts.{some_rounds}
use Rattle.kr_aes.proofs.invert.Goals as goal

pub returns : goal.returns
unfolding inverse_schedule
returns c =
    let inv = c.loop-i.invariant in
    let last : ℕ = round_count c.args.rounds in
    let end : c.loop-i.i ≡ 4 * last = omega (arith, some_rounds c.args.rounds, c.count-last.ensures) in
    fill_by_all (inverse_word c.args.words.now last) c.loop-i.inverse 60 0 inv.size (λ k lt. elim (cases_lt k 4) [
      | inl low ↦ inv.first k low ∙ sym (inverse_word-kept c.args.words.now last k (inl low))
      | inr some ↦ elim (cases_lt k (4 * last)) [
        | inl within ↦ inv.mixed k some (omega arith) ∙ sym (inverse_word-mixed c.args.words.now last k some within)
        | inr after ↦ inv.left k (omega arith) ∙ sym (inverse_word-kept c.args.words.now last k (inr after))
      ]
    ])
