-- What the replies of a fleet say, each by its worker and the place of its line.
use Rattle.std.specs.Prelude.{◌≡◌, ◌⊎◌, ◌≤◌, ℕ, List, [], ◌++◌, length, map, slice_index, Contains, Option, Some, ⊤}
use Rattle.std.specs.List.{slice_get}
use Rattle.kr_base.specs.Faults.{Rose}
use Rattle.kr_base.specs.Lines.{of_seat}
use Rattle.kr_kms.specs.Calls.{Link}
use Rattle.kr_kms.specs.Exchanges.{Exchange}
use Rattle.kr_kms.specs.Health.{HasBreach}
use Rattle.kr_kms.specs.Opens.{Opens}
use Rattle.kr_kms.specs.declared.health.Field.{Field}
use Rattle.kr_provider.specs.AskedLinks.{FaultRose, HasLinkWith}
use Rattle.kr_provider.specs.BenchState.{BenchState}
use Rattle.kr_rollout.specs.declared.line.Gave.TheVariants as gave
use Rattle.kr_rollout.specs.declared.opening.Entry.{Entry}
use Rattle.kr_rollout.specs.declared.opening.Opening.{Opening}
use Rattle.kr_rollout.specs.Entries.{seat_of}
use Rattle.kr_history.specs.Honesty.{IsHonest}
use Rattle.kr_script.specs.declared.script.Part.{Part}
use Rattle.kr_script.specs.declared.script.ScriptLine.{ScriptLine}
use Rattle.kr_script.specs.declared.told.Told.{Told}
use Rattle.kr_workers.specs.declared.ending.Ending.{Ending}
use Rattle.kr_workers.specs.declared.ending.Ending.TheVariants as ending
use Rattle.kr_workers.specs.declared.files.SettingsFile.{SettingsFile}
use Rattle.kr_workers.specs.declared.worker.Worker.{Worker}
use Rattle.kr_workers.specs.Causes.{AreCounted, HasCause}
use Rattle.kr_workers.specs.Endings.{gravest_ending}
use Rattle.kr_workers.specs.Gets.{TellContents}
use Rattle.kr_workers.specs.Heard.{AgreesWithHeard, Heard, WasHeard, unheard}
use Rattle.kr_workers.specs.Histories.{IsOneHistory, StandsIn, first_place}
use Rattle.kr_workers.specs.Plugins.{FollowsPlugins}
use Rattle.kr_workers.specs.Runs.{exchanges_in}
use Rattle.kr_workers.specs.ScriptLines.{Workplace}

module _ {T L D : Type 0} (parts : List Part) (workers : List (Worker T L D)) where
  -- the line at this place of the part of this number, and what its worker replied
  pub record Replies (number at : ℕ) (asked : ScriptLine) (reply : Told) : Type 0 where
    pub part : Part
    pub worker : Worker T L D
    pub part_is : slice_get parts number ≡ Some part
    pub worker_is : slice_get workers number ≡ Some worker
    pub line_is : slice_get part.lines.0 at ≡ Some asked
    pub reply_is : slice_get worker.told.0 at ≡ Some reply

-- a seat's lines stand in the history, by just the exchanges that were heard, and each reply to a
-- `get` tells the content of its path before the line's own Fetch
pub record TellsRun {L D : Type 0} (link : L → Link)
    (step : L → Exchange → L → Type 0) (left : D → Option (List ℕ)) (count : D → ℕ)
    (files : List SettingsFile) (heard : Heard) (o : Opening) (history : List Entry) (seat : ℕ)
    (part : Part) (first : Workplace L D) (replies : List Told) (after : BenchState L D)
    : Type 0 where
  pub stands : StandsIn link step left count files history part first replies after
  pub exchanges : heard.exchanges ≡ exchanges_in stands.run
  pub tell : TellContents heard.kept o history seat stands.run

-- ---- what an ending rests on

module _ {T L D : Type 0} (old new : List (Worker T L D)) where
  -- some worker, as it was and as it is now, has this
  pub record SomeWorker (Has : (before after : Worker T L D) → Type 0) : Type 0 where
    pub number : ℕ
    pub before : Worker T L D
    pub after : Worker T L D
    pub before_is : slice_get old number ≡ Some before
    pub after_is : slice_get new number ≡ Some after
    pub has : Has before after

module _ {T L D : Type 0} (link : L → Link) (count : D → ℕ) (history : List Entry) where
  -- the count of one of its links or of its random source rose
  abbrev pub FaultsRose : (before after : Worker T L D) → Type 0
  FaultsRose before after =
      ((name : List ℕ) × FaultRose link name before.bench.links after.bench.links)
      ⊎ Rose (count before.bench.dice) (count after.bench.dice)

  -- one of its plugins may break a rule of its status
  abbrev pub MayBeUnhealthy : (before after : Worker T L D) → Type 0
  MayBeUnhealthy before after = (name : List ℕ) × (field : Field) × (text : List ℕ)
      × HasLinkWith link name (λ it. HasBreach it (Some (field, text))) before.bench.links

  -- a fault, an unhealthy plugin and a full store are told only where there was one; by its step
  -- the store's count rose at an entry that says that it failed, and its limit would have been
  -- passed at one that says that it was full
  abbrev pub RestsOn : (old new : List (Worker T L D)) → Ending → Type 0
  RestsOn old new ending.Done = ⊤
  RestsOn old new ending.Refused = ⊤
  RestsOn old new ending.Unhealthy = SomeWorker old new MayBeUnhealthy
  RestsOn old new ending.Full = (e : Entry) × Contains history e
      × (needed : ℕ) × (e.line.gave ≡ gave.StoreFull needed)
  RestsOn old new ending.Memory = ⊤
  RestsOn old new ending.Fault = SomeWorker old new FaultsRose
      ⊎ ((e : Entry) × Contains history e × (e.line.gave ≡ gave.StoreFailed))

-- ---- the sentences

module _ {T L D : Type 0} (link : L → Link)
    (step : L → Exchange → L → Type 0) (left : D → Option (List ℕ))
    (count : D → ℕ) (files : List SettingsFile) (history : List Entry) (o : Opening) where
  -- each line has a reply, and one to a `get` tells the content of its path before the line's own
  -- Fetch; that what stands there is honest, which this asks for, follows by any openings that
  -- agree with all that the workers' plugins answered in this run, where the opening is honest by
  -- them. Each reply has its cause, no worker's replies name an object as failed more often than
  -- its count rose, and the ending has its cause too
  pub record RepliesAreTrue (parts : List Part) (budgets : List ℕ) (old new : List (Worker T L D))
      : Type 0 where
    pub each : (number : ℕ) (part : Part) (worker : Worker T L D)
        → slice_get parts number ≡ Some part → slice_get new number ≡ Some worker
        → length worker.told.0 ≡ length part.lines.0
    pub heard : (number : ℕ) → Heard
    pub was_heard : (number : ℕ) (before after : Worker T L D)
        → slice_get old number ≡ Some before → slice_get new number ≡ Some after
        → WasHeard step (heard number) before.bench after.bench
    pub no_more : (number : ℕ) → length parts ≤ number → heard number ≡ unheard
    pub gets : (number : ℕ) (part : Part) (before after : Worker T L D)
        → slice_get parts number ≡ Some part → slice_get old number ≡ Some before
        → slice_get new number ≡ Some after
        → TellsRun link step left count files (heard number) o history number part
        (first_place o number (slice_index budgets number) before.bench) after.told.0 after.bench
    pub agreed : (opens : Opens) → ((number : ℕ) → AgreesWithHeard opens (heard number))
        → IsHonest opens o [] → (front rest : List Entry) → history ≡ front ++ rest
        → IsHonest opens o front
    pub plugins : FollowsPlugins o history
    pub causes : (number at : ℕ) (asked : ScriptLine) (reply : Told) (before : Worker T L D)
        → slice_get old number ≡ Some before → (replies : Replies parts new number at asked reply)
        → HasCause link count asked
        (first_place o number (slice_index budgets number) before.bench) reply history
        replies.worker.bench.links replies.worker.bench.dice
    pub often : (number : ℕ) (part : Part) (before after : Worker T L D)
        → slice_get parts number ≡ Some part → slice_get old number ≡ Some before
        → slice_get new number ≡ Some after → AreCounted link count after.told.0
        (of_seat seat_of number history) before.bench.links before.bench.dice after.bench.links
        after.bench.dice
    pub rests : RestsOn link count history old new (gravest_ending
        (map (λ worker. worker.told) new))

-- so are those of workers whose lines stand in one history
abbrev pub HistoriesTell : (T : Type 0) → {L D : Type 0} → (L → Link)
    → (L → Exchange → L → Type 0) → (D → Option (List ℕ)) → (D → ℕ) → Type 0
HistoriesTell T {L} {D} link step left count = (files : List SettingsFile)
    (history : List Entry) (o : Opening) (parts : List Part) (budgets : List ℕ)
    (old new : List (Worker T L D))
    → IsOneHistory link step left count files history o parts budgets old new
    → RepliesAreTrue link step left count files history o parts budgets old new
