-- What is adopted and let go, by the answers.
use Rattle.std.specs.Prelude.{IfErr, IfOk}
use Rattle.std.proofs.Common.{◌≡◌, inl, inr, ℕ, None, Some, Result, Ok, Err, refl, sym, subst, ◌∙◌}
use Rattle.kr_provider.specs.Publication.{Publication}
use Rattle.kr_rollout.specs.declared.answer.Answer.{Answer}
use Rattle.kr_rollout.specs.declared.answer.Answer.TheVariants as answer
use Rattle.kr_history.specs.declared.call.CallNo.{CallNo}
use Rattle.kr_history.specs.declared.call.CallNo.TheVariants as refusal
use Rattle.kr_rollout.specs.declared.event.Event.TheVariants as event
use Rattle.kr_history.specs.Acting.{Caller, AddsEntry, IsCaller}
use Rattle.kr_rollout.specs.Callers.{holding}
use Rattle.kr_history.specs.Calls.{AddsNothing, Adopts, IsIdle, IsIdleAfter, LetsGo}
use Rattle.kr_rollout.specs.Openings.{IsAdmitted}
use Rattle.kr_history.specs.inner.Adopting.{AdoptsBy}
use Rattle.kr_history.proofs.Answered.{answers_let_go, gone_adopting}
use Rattle.kr_history.proofs.Following.{adopted_law, released_law, stays_law}
use Rattle.kr_history.proofs.Nexts.{adopted_admitted}

pub adopts : (old new : Caller) (replica : ℕ) (given : Answer)
    (result : Result (ℕ × Publication) CallNo)
    → AddsEntry old (event.Adopt replica) given new → AdoptsBy given result
    → Adopts replica old result new
adopts old new replica (answer.Adopted number p) result a d =
    subst (λ r. Adopts replica old r new) (sym d) a
adopts old new replica (answer.Gone other) result a d =
    subst (λ r. Adopts replica old r new) (sym d)
    (subst (λ r. AddsEntry old (event.Adopt replica) (answer.Gone r) new)
    (gone_adopting old new replica other a) a)
adopts old new replica answer.NoMemory result a d =
    subst (λ r. Adopts replica old r new) (sym d) (inr a)
adopts old new replica other result a d = absurd d

-- what was adopted is held, and is one of those that a bench may adopt
pub adopted_known : (old new : Caller) (replica : ℕ) (given : Answer)
    (result : Result (ℕ × Publication) CallNo) → IsCaller old
    → AddsEntry old (event.Adopt replica) given new → AdoptsBy given result
    → IfOk result (λ held. IsAdmitted old.opening.names held.1
    × (holding new.mine ≡ Some (held.0, held.1)))
adopted_known old new replica (answer.Adopted number p) result k a d =
    subst (λ r. IfOk r (λ held. IsAdmitted old.opening.names held.1
    × (holding new.mine ≡ Some (held.0, held.1)))) (sym d)
    (adopted_admitted old new replica number p k a, adopted_law old new replica number p a)
adopted_known old new replica (answer.Gone other) result k a d =
    subst (λ r. IfOk r (λ held. IsAdmitted old.opening.names held.1
    × (holding new.mine ≡ Some (held.0, held.1)))) (sym d) tt
adopted_known old new replica answer.NoMemory result k a d =
    subst (λ r. IfOk r (λ held. IsAdmitted old.opening.names held.1
    × (holding new.mine ≡ Some (held.0, held.1)))) (sym d) tt
adopted_known old new replica other result k a d = absurd d

-- where nothing was adopted, nothing is held
pub adopted_idle : (old new : Caller) (replica : ℕ) (given : Answer)
    (result : Result (ℕ × Publication) CallNo)
    → AddsEntry old (event.Adopt replica) given new → AdoptsBy given result
    → holding old.mine ≡ None → IfErr result (λ why. IsIdleAfter why new)
adopted_idle old new replica (answer.Adopted number p) result a d idle =
    subst (λ r. IfErr r (λ why. IsIdleAfter why new)) (sym d) tt
adopted_idle old new replica (answer.Gone other) result a d idle =
    subst (λ r. IfErr r (λ why. IsIdleAfter why new)) (sym d)
    (stays_law old new (event.Adopt replica) (answer.Gone other) tt a ∙ idle)
adopted_idle old new replica answer.NoMemory result a d idle =
    subst (λ r. IfErr r (λ why. IsIdleAfter why new)) (sym d)
    (stays_law old new (event.Adopt replica) answer.NoMemory tt a ∙ idle)
adopted_idle old new replica other result a d idle = absurd d

pub releases : (old new : Caller) (given : Answer) → AddsEntry old event.LetGo given new
    → AddsEntry old event.LetGo answer.Released new
releases old new given a = subst (λ x. AddsEntry old event.LetGo x new)
    (answers_let_go old new given a) a

pub lets_go : {T : Type 0} (old new : Caller) (given : Answer) (done : Result T CallNo)
    → AddsEntry old event.LetGo given new → LetsGo old done done new
lets_go old new given done a = inl (releases old new given a, refl)

pub lets_nothing_go : {T : Type 0} (old new : Caller) (done : Result T CallNo)
    → AddsNothing old new → LetsGo old done (Err refusal.Spent) new
lets_nothing_go old new done n = inr (n, refl)

idle_after : (why : CallNo) (new : Caller) → holding new.mine ≡ None → IsIdleAfter why new
idle_after refusal.Spent new h = tt
idle_after other new h = h

pub let_go_idle : {T : Type 0} (old new : Caller) (given : Answer) (done : Result T CallNo)
    → AddsEntry old event.LetGo given new → IsIdle done new
let_go_idle old new given (Ok x) a = released_law old new (releases old new given a)
let_go_idle old new given (Err why) a =
    idle_after why new (released_law old new (releases old new given a))
