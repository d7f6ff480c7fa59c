-- An Adopt leaves what a seat may bring.
use Rattle.std.proofs.Common.{◌≡◌, ℕ, ◌<◌, get_or, ap, arith}
use Rattle.kr_rollout.specs.declared.answer.Answer.{Answer}
use Rattle.kr_rollout.specs.declared.event.Event.TheVariants as event
use Rattle.kr_history.specs.Acting.{Caller, AddsEntry}
use Rattle.kr_rollout.specs.Callers.{reloads_in}
use Rattle.kr_history.proofs.KeptHonest.{budget_follows}

pub adopted_room : (old new : Caller) (replica : ℕ) (given : Answer)
    → AddsEntry old (event.Adopt replica) given new
    → reloads_in old.mine < get_or old.opening.reloads old.seat 0
    → reloads_in new.mine < get_or new.opening.reloads new.seat 0
adopted_room old new replica given a room =
    let allowed : get_or new.opening.reloads new.seat 0 ≡ get_or old.opening.reloads old.seat 0 =
    ap (λ (c : Caller). get_or c.opening.reloads c.seat 0) a.new_is in
    omega (arith, room, allowed, budget_follows old new (event.Adopt replica) given a)
