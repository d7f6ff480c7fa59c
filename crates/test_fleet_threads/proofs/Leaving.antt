-- A list of events of both seats, each of which may be made whatever is answered to the first.
use Rattle.std.proofs.Common.{◌≡◌, ℕ, ◌+◌, ◌<◌, List, [], ◌∷◌, length, sym, subst, ap, ◌∙◌, arith}
use Rattle.std.proofs.lemmas.List.{length-append}
use Rattle.kr_base.specs.Lines.{of_seat}
use Rattle.kr_rollout.specs.declared.answer.Answer.{Answer}
use Rattle.kr_rollout.specs.declared.event.Event.{Event}
use Rattle.kr_rollout.specs.declared.event.Event.TheVariants as event
use Rattle.kr_rollout.specs.declared.opening.Entry.{Entry}
use Rattle.kr_rollout.specs.declared.opening.Opening.{Opening}
use Rattle.kr_rollout.specs.Callers.{MayAsk}
use Rattle.kr_rollout.specs.Cores.{AllMay, Applies, CoreState}
use Rattle.kr_rollout.specs.Entries.{seat_of}
use Rattle.test_fleet_threads.specs.NewCores.{IsNewCore, both_leave}

may_leave : (o : Opening) (seat : ℕ) (own : List Entry) → seat < length o.reloads
    → 0 < length o.replicas → MayAsk o seat own (event.Leave 0)
may_leave o seat own s r = record { seat_in = s; allowed = r }

-- the second, behind the first
then_may : (core next : CoreState) (answer : Answer) → IsNewCore 2 core
    → Applies core 0 (event.Leave 0) answer next → AllMay next ((1, event.Leave 0) ∷ [])
then_may core next answer new a =
    let seats = ap (λ (c : CoreState). length c.opening.reloads) a.new_is ∙ new.seats in
    let replicas = ap (λ (c : CoreState). length c.opening.replicas) a.new_is ∙ new.replicas in
    let room = ap (λ (c : CoreState). c.room) a.new_is ∙ new.room_is in
    let one = ap (λ (c : CoreState). length c.history) a.new_is
    ∙ length-append core.history (a.entry ∷ [])
    ∙ ap (λ (h : List Entry). length h + 1) new.history in (
      omega (arith, room, one),
      may_leave next.opening 1 (of_seat seat_of 1 next.history) (omega (arith, seats))
          (omega (arith, replicas)),
      λ other last b. tt,
    )

pub both_may : (core : CoreState) (events : List (ℕ × Event)) → IsNewCore 2 core
    → events ≡ both_leave → AllMay core events
both_may core events new is = subst (AllMay core) (sym is) (
  omega (arith, new.room_is, ap length new.history),
  may_leave core.opening 0 (of_seat seat_of 0 core.history) (omega (arith, new.seats))
      (omega (arith, new.replicas)),
  λ answer next a. then_may core next answer new a,
)
