-- The only caller of a core: what its events add.
use Rattle.std.proofs.Common.{◌≡◌, ℕ, ◌<◌, ◌≤◌, ◌-◌, [], ◌∷◌, ◌++◌, length, refl, sym, subst, arith, append-nil, length-append, lt_of_not-le}
use Rattle.std.specs.Prelude.{◌↔◌, Bool, false, IsTrue}
use Rattle.std.proofs.lemmas.Bool.{both_ways}
use Rattle.kr_rollout.specs.declared.answer.Answer.{Answer}
use Rattle.kr_rollout.specs.declared.event.Event.{Event}
use Rattle.kr_rollout.specs.Histories.{state_of, IsLegal}
use Rattle.kr_rollout.specs.Steps.{IsStep}
use Rattle.kr_rollout.specs.Cores.{CoreState, Applies}
use Rattle.kr_history.specs.Acting.{AddsEntry, only_caller}

pub not_full : (full : Bool) (n room : ℕ) → IsTrue full ↔ (room ≤ n) → full ≡ false → n < room
not_full full n room both e = lt_of_not-le (λ l. both_ways full e (both.1 l))

pub acted_alone : (old new : CoreState) (event : Event) (answer : Answer)
    → Applies old 0 event answer new → IsLegal old.opening old.history
    → length old.history < old.room → AddsEntry (only_caller old) event answer (only_caller new)
acted_alone old new event answer a legal l =
    let none = append-nil old.history in
    let e = a.entry in
    subst (λ (c : CoreState). AddsEntry (only_caller old) event answer (only_caller c))
    (sym a.new_is)
    (record {
      others = [];
      entry = e;
      new_is = (λ i. record {
        opening = old.opening;
        seat = 0;
        seen = sym none i ++ e ∷ [];
        mine = old.history ++ e ∷ [];
        left = old.room - length (old.history ++ e ∷ []);
      });
      left_is = omega (arith, l, length-append old.history (e ∷ []));
      apart = refl;
      legal = subst (λ h. IsLegal old.opening h) (sym none) legal;
      step = subst (λ h. IsStep old.opening (state_of old.opening h) e) (sym none) a.step;
      records = a.records;
    })
