-- A rewrite reads row by row: what each reading keeps of the exchanges that are still to come and
-- of the seeds that are kept, the whole keeps.
use Rattle.std.specs.Prelude.{⊤}
use Rattle.std.proofs.Common.{◌≡◌, ℕ, List, [], ◌∷◌, Option, Result, Ok, Err, inl, inr}
use Rattle.kr_kms.specs.Cache.{CacheState}
use Rattle.kr_kms.specs.Exchanges.{Exchange}
use Rattle.kr_provider.specs.Publication.{Publication}
use Rattle.kr_provider.specs.declared.refusal.Opened.{Opened}
use Rattle.kr_provider.specs.declared.refusal.UnsealNo.{UnsealNo}
use Rattle.kr_store.specs.declared.rows.Row.{Row}
use Rattle.kr_history.specs.Acting.{Caller}
use Rattle.kr_history.specs.Calls.{EndsEarly}
use Rattle.kr_history.specs.declared.call.CallNo.{CallNo}
use Rattle.kr_rewrite.specs.DriveExchanges.{Ahead, IsDriveBy, ReadsRow, before, behind}
use Rattle.kr_rewrite.specs.Drives.{EndsByOver, WalksOver, last_of, path_of}
use Rattle.kr_rewrite.specs.Rewrites.{IsStepOver, RewritesOver, StepsOver}
use Rattle.kr_rewrite.specs.declared.outcome.Report.{Report}
use Rattle.kr_rewrite.specs.declared.outcome.Step.{Step}
use Rattle.kr_rewrite.specs.declared.outcome.Step.TheVariants as step_variants

module _ (Keeps : (from to : Ahead) → Type 0)
    (same : (from to : Ahead) → to ≡ from → Keeps from to)
    (both : (from mid to : Ahead) → Keeps from mid → Keeps mid to → Keeps from to)
    (reads : (p : Publication) (row : Row) (from : Ahead) (opened : Result Opened UnsealNo)
    (to : Ahead) → ReadsRow p row from opened to → Keeps from to)
    {D : Type 0} (left : D → Option (List ℕ)) (count : D → ℕ) where
  rewrites_keep : (p : Publication) (row : Row) (old new : Caller) (from to : Ahead)
      (dice after : D) (result : Result Step CallNo)
      → RewritesOver ReadsRow left count p row old from dice result new to after → Keeps from to
  rewrites_keep p row old new from to dice after result (inl o) =
      reads p row from o.opened to o.unseals
  rewrites_keep p row old new from to dice after result (inr n) = same from to n.1

  steps_keep : (p : Publication) (above : List ℕ) (old new : Caller) (from to : Ahead)
      (dice after : D) (result : Result Step CallNo)
      → StepsOver ReadsRow left count p above old from dice result new to after → Keeps from to
  steps_keep p above old new from to dice after result (inl n) = same from to n.1
  steps_keep p above old new from to dice after result (inr f) =
      rewrites_keep p f.row f.found new from to dice after result f.rewrites

  early_keeps : (replica : ℕ) (old new : Caller) (from to : Ahead) (dice after : D)
      (result : Result Step CallNo)
      → EndsEarly replica ((to ≡ from) × (after ≡ dice)) old result new → Keeps from to
  early_keeps replica old new from to dice after (Ok done) e = absurd e
  early_keeps replica old new from to dice after (Err why) e = same from to e.1.0

  pub step_keeps : (replica : ℕ) (above : List ℕ) (old new : Caller) (from to : Ahead)
      (dice after : D) (result : Result Step CallNo)
      → IsStepOver ReadsRow left count replica above old from dice result new to after
      → Keeps from to
  step_keeps replica above old new from to dice after result (inl e) =
      early_keeps replica old new from to dice after result e
  step_keeps replica above old new from to dice after result (inr h) =
      steps_keep h.p above h.adopted h.acted from to dice after h.done h.does

  pub walks_keep : (replica : ℕ) (above : List ℕ) (steps : List Step) (old new : Caller)
      (from to : Ahead) (dice after : D)
      → WalksOver ReadsRow left count replica above steps old from dice new to after
      → Keeps from to
  walks_keep replica above [] old new from to dice after w = same from to w.1
  walks_keep replica above (taken ∷ steps) old new from to dice after w = both from w.mids to
      (step_keeps replica above old w.middle from w.mids dice w.between (Ok taken) w.goes)
      (walks_keep replica (path_of above taken) steps w.middle new w.mids to w.between after
      w.behind)

  ends_keep : (replica : ℕ) (above : List ℕ) (steps : List Step) (old new : Caller)
      (from to : Ahead) (dice after : D) (ended : Result Step CallNo) (report : Report)
      → EndsByOver ReadsRow (λ a b. ⊤) left count replica above steps old from dice ended report
      new to after → Keeps from to
  ends_keep replica above steps old new from to dice after ended report e = both from e.mids to
      (walks_keep replica above steps old e.middle from e.mids dice e.between e.walks)
      (step_keeps replica (last_of above steps) e.middle new e.mids to e.between after ended e.ends)

  pub drive_keeps : (replica : ℕ) (above : List ℕ) (old new : Caller) (cache stays : CacheState)
      (dice after : D) (result : Result Report (Report × CallNo)) (es : List Exchange)
      → IsDriveBy left count replica above old cache dice result new stays after es
      → Keeps (before cache es) (behind stays)
  drive_keeps replica above old new cache stays dice after (Ok report) es d =
      ends_keep replica above d.steps old new (before cache es) (behind stays) dice after
      (Ok step_variants.End) report d.ends
  drive_keeps replica above old new cache stays dice after (Err cut) es (inl d) =
      ends_keep replica above d.steps old new (before cache es) (behind stays) dice after
      (Err cut.1) cut.0 d.ends
  drive_keeps replica above old new cache stays dice after (Err cut) es (inr n) =
      same (before cache es) (behind stays) n.links
