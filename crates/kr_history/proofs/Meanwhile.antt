-- A call that holds a generation meanwhile, by its stages.
use Rattle.std.proofs.Common.{◌≡◌, ℕ, Option, None, Some, Result, ap, refl, subst, sym, ◌∙◌}
use Rattle.std.specs.Prelude.{IfSome, IsSome}
use Rattle.kr_provider.specs.BenchState.{BenchState}
use Rattle.kr_provider.specs.Publication.{Publication}
use Rattle.kr_rollout.specs.declared.answer.Answer.TheVariants as answer
use Rattle.kr_rollout.specs.declared.event.Event.TheVariants as event
use Rattle.kr_history.specs.Acting.{Caller, AddsEntry}
use Rattle.kr_rollout.specs.Callers.{holding}
use Rattle.kr_history.specs.Calls.{HoldsAdopted, HoldsMeanwhile, LetsGo}
use Rattle.kr_history.specs.TakingUp.{HasTakenUp}
use Rattle.kr_history.specs.declared.call.CallNo.{CallNo}

-- one behind another
pub held_meanwhile : {T : Type 0}
    (Does : (number : ℕ) → Publication → Caller → Result T CallNo → Caller → Type 0)
    (replica : ℕ) (held : ℕ × Publication) (old adopted acted new : Caller)
    (done result : Result T CallNo)
    → AddsEntry old (event.Adopt replica) (answer.Adopted held.0 held.1) adopted
    → Does held.0 held.1 adopted done acted → LetsGo acted done result new
    → HoldsMeanwhile Does replica old result new
held_meanwhile Does replica held old adopted acted new done result a d g = record {
  number = held.0;
  p = held.1;
  adopted = adopted;
  done = done;
  acted = acted;
  adopts = a;
  does = d;
  lets_go = g;
}

module _ {L D : Type 0} {replica : ℕ} {old adopted : Caller} {before taken : BenchState L D}
    (t : HasTakenUp replica old before adopted taken) where
  -- the seat holds a generation of the configuration that the bench has
  pub holds_adopted : HoldsAdopted taken.published adopted.mine
  holds_adopted = record {
    number = t.number;
    p = t.p;
    adopted = ap (λ (b : BenchState L D). b.published) t.kept;
    held = t.holds;
  }

  -- and still does where what it holds has stayed
  pub still_holds : (later : Caller) → holding later.mine ≡ holding adopted.mine
      → IsSome (holding later.mine)
  still_holds later same =
      subst (λ (o : Option (ℕ × Publication)). IsSome o) (sym (same ∙ t.holds)) refl

  -- what is so by the configuration that the bench has is so by the one that was taken up
  pub of_taken : (P : Publication → Type 0) → IfSome taken.published P → P t.p
  of_taken P so = subst (λ (o : Option Publication). IfSome o P)
      (ap (λ (b : BenchState L D). b.published) t.kept) so

  -- it was held until the bench was handed back: what is so of the rest of the bench from the
  -- taking up to the handing back is so of the whole call
  pub by_stages : (worked after : BenchState L D)
      → after ≡ record worked { published = None; pages = after.pages }
      → (P : BenchState L D → BenchState L D → Type 0)
      → P taken (record worked { published = None; pages = after.pages })
      → P (record before { published = Some t.p; pages = taken.pages }) after
  by_stages worked after back P so =
      subst (λ b. P (record before { published = Some t.p; pages = taken.pages }) b) (sym back)
      (subst (λ b. P b (record worked { published = None; pages = after.pages })) t.kept so)
