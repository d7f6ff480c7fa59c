-- Workers with seats, before and after they worked.
use Rattle.std.specs.Prelude.{◌≡◌, ◌≤◌, ℕ, List, [], ◌∷◌, length, Option, None, Some}
use Rattle.std.specs.List.{slice_get}
use Rattle.kr_kms.specs.Calls.{Link}
use Rattle.kr_kms.specs.Exchanges.{Exchange}
use Rattle.kr_rollout.specs.declared.opening.Entry.{Entry}
use Rattle.kr_rollout.specs.declared.opening.Opening.{Opening}
use Rattle.kr_script.specs.declared.script.Part.{Part}
use Rattle.kr_fleet.specs.Fleets.{IsFleetSeat, caller_of}
use Rattle.kr_fleet.specs.declared.shared_core.SharedCore.{SharedCore}
use Rattle.kr_turn.specs.Keys.{Home}
use Rattle.kr_turn.specs.Seats.{number_of}
use Rattle.kr_turn.specs.declared.seat.Place.{Place}
use Rattle.kr_workers.specs.declared.files.SettingsFile.{SettingsFile}
use Rattle.kr_workers.specs.declared.worker.Worker.{Worker}
use Rattle.kr_workers.specs.inner.WholeRuns.{AreReady, Runs}

module _ {T L D : Type 0} where
  -- the workers with these seats
  abbrev pub with_seats : List (Place (SharedCore T) Entry Opening) → List (Worker T L D)
      → List (Worker T L D)
  with_seats [] workers = workers
  with_seats (seat ∷ seats) [] = []
  with_seats (seat ∷ seats) (worker ∷ workers) =
      record worker { seat = Some seat } ∷ with_seats seats workers

  -- without its seat
  abbrev pub without_seat : Worker T L D → Worker T L D
  without_seat worker = record worker { seat = None }

module _ {T L D : Type 0} (home : Home Opening) (files : List SettingsFile)
    (parts : List Part) where
  -- the worker has a seat of the fleet, may do the lines of the part of its number, and has room
  -- for their replies
  pub record IsReadyWorker (link : L → Link) (worker : Worker T L D) : Type 0 where
    pub seat : Place (SharedCore T) Entry Opening
    pub seat_is : worker.seat ≡ Some seat
    pub its : IsFleetSeat home seat
    pub part : Part
    pub part_is : slice_get parts (number_of seat) ≡ Some part
    pub ready : AreReady link files part.replica part.lines.0 (caller_of home seat) worker.bench
    pub none_told : worker.told.0 ≡ []
    pub room : length part.lines.0 ≤ worker.told.1

  -- it did them, or was cut short, and has its seat again
  pub record HasWorked (link : L → Link) (step : L → Exchange → L → Type 0)
      (left : D → Option (List ℕ)) (count : D → ℕ) (old new : Worker T L D) : Type 0 where
    pub before : Place (SharedCore T) Entry Opening
    pub after : Place (SharedCore T) Entry Opening
    pub before_is : old.seat ≡ Some before
    pub after_is : new.seat ≡ Some after
    pub its : IsFleetSeat home after
    pub same : number_of after ≡ number_of before
    pub part : Part
    pub part_is : slice_get parts (number_of before) ≡ Some part
    pub runs : Runs link step left count files part.replica part.lines.0
        (caller_of home before) old.bench new.told.0 new.ended (caller_of home after) new.bench
