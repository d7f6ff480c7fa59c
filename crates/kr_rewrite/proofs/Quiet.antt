-- Between its Adopt and its LetGo a step neither adopts nor lets go.
use Rattle.std.proofs.Common.{inl, inr, ℕ, List, Option, Result}
use Rattle.std.specs.Prelude.{IfSome}
use Rattle.kr_kms.specs.Calls.{Link}
use Rattle.kr_provider.specs.BenchState.{BenchState}
use Rattle.kr_provider.specs.Publication.{Publication}
use Rattle.kr_store.specs.declared.rows.Row.{Row}
use Rattle.kr_rollout.specs.declared.answer.Answer.TheVariants as answer
use Rattle.kr_rollout.specs.declared.event.Event.TheVariants as event
use Rattle.kr_history.specs.Acting.{Caller}
use Rattle.kr_history.specs.TakingUp.{HasTakenUp}
use Rattle.kr_history.specs.declared.call.CallNo.{CallNo}
use Rattle.kr_history.proofs.KeyMoments.{AddsQuietly, quiet_both, quiet_none, quiet_one}
use Rattle.kr_history.proofs.Meanwhile.{of_taken}
use Rattle.kr_rewrite.proofs.OneEntry.{found_none, rewritten}
use Rattle.kr_rewrite.specs.Rewrites.{FindsNone, RewritesOver, ReadsFoundRow, Steps, StepsOver, UnsealsRow}
use Rattle.kr_rewrite.specs.declared.outcome.Step.{Step}

none_found : (above : List ℕ) (old new : Caller) (result : Result Step CallNo)
    → FindsNone above old result new → AddsQuietly old new
none_found above old new result a = found_none old new (AddsQuietly old new)
    (quiet_none old new) above (λ given stays e. quiet_one old new (event.After above) given stays e)
    result a

module _ {S D : Type 0} (Reads : ReadsFoundRow S) (left : D → Option (List ℕ)) (count : D → ℕ)
    (p : Publication) (above : List ℕ) (old new : Caller) (from to : S) (dice after : D) where
  rewrites : (row : Row) (found : Caller) (result : Result Step CallNo)
      → RewritesOver Reads left count p row found from dice result new to after
      → AddsQuietly found new
  rewrites row found result r = rewritten found new (AddsQuietly found new)
      (quiet_none found new) row (λ stored given stays e.
      quiet_one found new (event.Replace row.path row.revision stored) given stays e)
      left count p dice after Reads from to result r

  steps : (result : Result Step CallNo)
      → StepsOver Reads left count p above old from dice result new to after
      → AddsQuietly old new
  steps result (inl f) = none_found above old new result f.0
  steps result (inr f) = quiet_both old f.found new
      (quiet_one old f.found (event.After above) (answer.Found f.row) tt f.finds)
      (rewrites f.row f.found result f.rewrites)

-- by the configuration that the bench took up
pub steps_quietly : {L D : Type 0} {replica : ℕ} {old adopted : Caller}
    {before taken : BenchState L D} (t : HasTakenUp replica old before adopted taken)
    (link : L → Link) (left : D → Option (List ℕ)) (count : D → ℕ) (above : List ℕ) (new : Caller)
    (worked : BenchState L D) (result : Result Step CallNo)
    → IfSome taken.published (λ p. Steps link left count p above adopted taken.links taken.dice
    result new worked.links worked.dice)
    → AddsQuietly adopted new
steps_quietly {L} {D} {replica} {old} {adopted} {before} {taken} t link left count above new worked
    result f =
    steps (UnsealsRow link) left count t.p above adopted new taken.links worked.links taken.dice
    worked.dice result (of_taken t (λ p. Steps link left count p above adopted taken.links
    taken.dice result new worked.links worked.dice) f)
