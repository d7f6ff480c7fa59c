-- A worker did the lines of the part of its seat's number.
use Rattle.std.specs.Prelude.{is_some}
use Rattle.std.specs.List.{slice_get}
use Rattle.std.proofs.Common.{◌≡◌, ℕ, zero, suc, List, [], ◌∷◌, get_or, Option, Some, Result, ap, sym, subst, ◌∙◌}
use Rattle.std.proofs.lemmas.Bool.{false≢true}
use Rattle.std.proofs.lemmas.Option.{same_Some}
use Rattle.kr_base.specs.declared.errors.Spent.{Spent}
use Rattle.kr_kms.specs.Calls.{Link}
use Rattle.kr_kms.specs.Exchanges.{Exchange}
use Rattle.kr_provider.specs.BenchState.{BenchState}
use Rattle.kr_rollout.specs.declared.opening.Entry.{Entry}
use Rattle.kr_rollout.specs.declared.opening.Opening.{Opening}
use Rattle.kr_script.specs.declared.script.Part.{Part}
use Rattle.kr_script.specs.declared.told.Told.{Told}
use Rattle.kr_fleet.specs.Fleets.{IsFleetSeat, caller_of}
use Rattle.kr_fleet.specs.declared.shared_core.SharedCore.{SharedCore}
use Rattle.kr_turn.specs.Keys.{Home}
use Rattle.kr_turn.specs.Seats.{number_of}
use Rattle.kr_turn.specs.declared.seat.Place.{Place}
use Rattle.kr_workers.specs.declared.files.SettingsFile.{SettingsFile}
use Rattle.kr_workers.specs.declared.worker.Worker.{Worker}
use Rattle.kr_workers.specs.inner.WholeRuns.{Runs}
use Rattle.kr_workers.specs.inner.SeatedWorkers.{HasWorked, IsReadyWorker, without_seat}

-- what stands at a place
there_of : {X : Type 0} (xs : List X) (i : ℕ) (x d : X) → slice_get xs i ≡ Some x
    → get_or xs i d ≡ x
there_of [] i x d is = absurd (false≢true (ap is_some is))
there_of (y ∷ xs) zero x d is = same_Some y x is
there_of (y ∷ xs) (suc i) x d is = there_of xs i x d is

module _ {T L D : Type 0} (home : Home Opening) (files : List SettingsFile) (parts : List Part)
    (link : L → Link) (step : L → Exchange → L → Type 0) (left : D → Option (List ℕ)) (count : D → ℕ) where
  module _ (old new : Worker T L D) (ready : IsReadyWorker home files parts link old)
      (before after : Place (SharedCore T) Entry Opening) (had : old.seat ≡ Some before) where
    its_part : slice_get parts (number_of before) ≡ Some ready.part
    its_part = ap (λ (s : Place (SharedCore T) Entry Opening). slice_get parts (number_of s))
        (same_Some before ready.seat (sym had ∙ ready.seat_is)) ∙ ready.part_is

    part_here : (at : ℕ) (part : Part) → at ≡ number_of before → part ≡ get_or parts at part
        → part ≡ ready.part
    part_here at part same is =
        is ∙ there_of parts at ready.part part (ap (slice_get parts) same ∙ its_part)

    -- while it had no seat, it did the lines
    pub worked : (risen : Worker T L D) (bench : BenchState L D) (told : List Told × ℕ)
        (ended : Result (Unit {0}) Spent) (part : Part) (at : ℕ) → at ≡ number_of before
        → part ≡ get_or parts at part → risen ≡ without_seat old
        → new ≡ record { seat = Some after; bench = bench; told = told; ended = ended }
        → IsFleetSeat home after → number_of after ≡ number_of before
        → Runs link step left count files part.replica part.lines.0 (caller_of home before)
        risen.bench told.0 ended (caller_of home after) bench
        → HasWorked home files parts link step left count old new
    worked risen bench told ended part at at_is is stood sat its same runs = record {
      before = before;
      after = after;
      before_is = had;
      after_is = ap (λ (w : Worker T L D). w.seat) sat;
      its = its;
      same = same;
      part = ready.part;
      part_is = its_part;
      runs = subst (λ (w : Worker T L D). Runs link step left count files ready.part.replica
          ready.part.lines.0 (caller_of home before) old.bench w.told.0 w.ended
          (caller_of home after) w.bench) (sym sat)
          (subst (λ (p : Part). Runs link step left count files p.replica p.lines.0
          (caller_of home before) old.bench told.0 ended (caller_of home after) bench)
          (part_here at part at_is is)
          (subst (λ (w : Worker T L D). Runs link step left count files part.replica part.lines.0
          (caller_of home before) w.bench told.0 ended (caller_of home after) bench) stood runs));
    }

  -- the worker at a place of those that were lent
  pub worked_at : (items lent news whole : List (Worker T L D)) (i : ℕ) (d old new : Worker T L D)
      → lent ≡ items → whole ≡ news → old ≡ get_or lent i d → new ≡ get_or news i d
      → HasWorked home files parts link step left count old new
      → HasWorked home files parts link step left count (get_or items i d) (get_or whole i d)
  worked_at items lent news whole i d old new same all was is h =
      subst (λ (w : Worker T L D). HasWorked home files parts link step left count w
      (get_or whole i d)) (was ∙ ap (λ l. get_or l i d) same)
      (subst (λ (w : Worker T L D). HasWorked home files parts link step left count old w)
      (is ∙ ap (λ l. get_or l i d) (sym all)) h)
