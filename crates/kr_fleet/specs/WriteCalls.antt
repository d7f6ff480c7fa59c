-- `write`: an Adopt, a Put, a LetGo. What is put is sealed by the adopted configuration.
use Rattle.std.specs.Prelude.{◌≡◌, ◌⊎◌, ℕ, List, length, Option, Result, Ok, Err}
use Rattle.kr_provider.specs.Publication.{Publication, writer_at}
use Rattle.kr_provider.specs.Sealing.{Seals, IsSealing}
use Rattle.kr_provider.specs.declared.refusal.SealNo.{SealNo}
use Rattle.kr_provider.specs.declared.refusal.SealNo.TheVariants as sealing
use Rattle.kr_provider.specs.declared.refusal.ValueNo.TheVariants.{LooksEncrypted, TooLarge}
use Rattle.kr_rollout.specs.declared.answer.Answer.{Answer}
use Rattle.kr_rollout.specs.declared.answer.Answer.TheVariants as answer
use Rattle.kr_rollout.specs.declared.event.Event.TheVariants as event
use Rattle.kr_history.specs.Acting.{Caller, AddsEntry}
use Rattle.kr_history.specs.declared.call.CallNo.{CallNo}
use Rattle.kr_history.specs.declared.call.CallNo.TheVariants as refusal
use Rattle.kr_history.specs.Calls.{AddsNothing, EndsEarly, HoldsMeanwhile}

module _ {D : Type 0} (left : D → Option (List ℕ)) (count : D → ℕ)
    (resource path plain : List ℕ) where
  -- the bench sealed the data, which are then put
  pub record PutsSealed (p : Publication) (old : Caller) (dice : D) (given : Answer) (new : Caller)
      (after : D) : Type 0 where
    pub stored : List ℕ
    pub seals : Seals left count p.seeds (writer_at p resource) path plain dice after (Ok stored)
    pub sealing : IsSealing p resource path plain stored
    pub put : AddsEntry old (event.Put path resource plain stored) given new

  -- the data were sealed, but no line may be added
  pub record SealsInVain (p : Publication) (old : Caller) (dice : D) (new : Caller) (after : D)
      : Type 0 where
    pub stored : List ℕ
    pub seals : Seals left count p.seeds (writer_at p resource) path plain dice after (Ok stored)
    pub nothing : AddsNothing old new

  -- the data aren't sealed, and nothing is put
  abbrev pub SealsNothing : Publication → Caller → D → SealNo → Caller → D → Type 0
  SealsNothing p old dice why new after =
      Seals left count p.seeds (writer_at p resource) path plain dice after (Err why)
      × (new ≡ old)

  -- by a held configuration
  abbrev pub Puts : Publication → Caller → D → Result ℕ CallNo → Caller → D → Type 0
  Puts p old dice (Ok revision) new after =
      PutsSealed p old dice (answer.Written revision) new after
  Puts p old dice (Err (refusal.Value LooksEncrypted)) new after =
      SealsNothing p old dice sealing.LooksEncrypted new after
  Puts p old dice (Err (refusal.Value TooLarge)) new after =
      SealsNothing p old dice (sealing.TooLarge (length plain)) new after
  Puts p old dice (Err refusal.DiceFailed) new after =
      SealsNothing p old dice sealing.DiceFailed new after
  Puts p old dice (Err refusal.StoreFailed) new after =
      PutsSealed p old dice answer.StoreFailed new after
  Puts p old dice (Err (refusal.StoreFull needed)) new after =
      PutsSealed p old dice (answer.StoreFull needed) new after
  Puts p old dice (Err refusal.Spent) new after = SealsInVain p old dice new after
  Puts p old dice (Err refusal.NoMemory) new after =
      SealsNothing p old dice sealing.NoMemory new after
      ⊎ PutsSealed p old dice answer.NoMemory new after
  Puts p old dice (Err why) new after = ⊥

  abbrev pub IsWrite : (replica : ℕ) → Caller → D → Result ℕ CallNo → Caller → D → Type 0
  IsWrite replica old dice result new after = EndsEarly replica (after ≡ dice) old result new
      ⊎ HoldsMeanwhile (λ number p from done to. Puts p from dice done to after) replica old result
      new
