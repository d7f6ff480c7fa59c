-- `watch`: the steps of a fleet, at which the live rows are read too, and what is shown of its one
-- history.
use mathlib.Core.Logic.{inl, inr}
use Rattle.std.specs.Prelude.{◌≡◌, ℕ, ◌<◌, ◌≤◌, ◌⊎◌, List, [], length, map, Option, None, Some, Result, Ok, Err}
use Rattle.std.specs.Io.KnownBytes.{Appends}
use Rattle.kr_base.specs.Faults.{Rose}
use Rattle.kr_base.specs.Streams.{AppendsFront}
use Rattle.kr_kms.specs.Calls.{Link}
use Rattle.kr_kms.specs.Exchanges.{AgreeAll, Exchange}
use Rattle.kr_kms.specs.Opens.{Opens}
use Rattle.kr_rollout.specs.declared.opening.Entry.{Entry}
use Rattle.kr_rollout.specs.declared.opening.Opening.{Opening}
use Rattle.kr_watch.specs.Changes.{changes_above, changes_in, earlier_ones, revision_after}
use Rattle.kr_watch.specs.Shown.{IsShown, IsShownSince}
use Rattle.kr_watch.specs.declared.item.Item.{Item}
use Rattle.kr_workers.specs.Endings.{gravest_ending}
use Rattle.kr_workers.specs.declared.ending.Ending.{Ending}
use Rattle.kr_workers.specs.declared.ending.Ending.TheVariants as ending
use Rattle.kr_workers.specs.declared.worker.Worker as fleet_worker
use Rattle.kr_cmd_messages.specs.Receipts.{Receipt}
use Rattle.kr_cmd_messages.specs.declared.refusal.Object.TheVariants.{Output}
use Rattle.kr_cmd_messages.specs.declared.refusal.Stop.{Stop}
use Rattle.kr_cmd_messages.specs.declared.refusal.Stop.TheVariants.{Fault, NoMemory}
use Rattle.kr_cmd_messages.specs.declared.watch_words.WatchWords.{WatchWords}
use Rattle.kr_cmd_steps.specs.Environment.{Environment, IsHome, StepsEndAt, step_state}
use Rattle.kr_cmd_steps.specs.Ran.{WroteNothing}
use Rattle.kr_cmd_steps.specs.Steps.{gives, hearing}
use Rattle.kr_cmd_fleet.specs.StartExchanges.{BeganWith, WereAsked, links_in}
use Rattle.kr_cmd_fleet.specs.Fleets.{Begun, ComeBack, RunsFleet, StopsBefore, TellsFleet, opening_of, settled_behind, watch_steps}
use Rattle.kr_cmd_watch.specs.WatchTexts.{ShowsPages, ahead_text, changes_text, gone_text}

-- how many changes are kept
abbrev pub keep : ℕ
keep = 1000

-- how the fleet ended; a revision that is gone or ahead is a refusal
abbrev pub refused_at_least : Ending → Ending
refused_at_least ending.Done = ending.Refused
refused_at_least ended = ended

-- ---- what is printed, and how the call ends

-- All changes of the history above the revision. One below the last change that isn't kept, or
-- below the opening's where all are kept, is gone; where there is no such revision yet, it is ahead
abbrev pub ShowsChanges : (opening revision : ℕ) → List Entry → Ending → (text : List ℕ)
    → Ending → Type 0
ShowsChanges opening revision history ended text told =
    let all = changes_in history in
    let oldest = revision_after opening (earlier_ones keep all) in
    let newest = revision_after opening all in
    ((revision < oldest) × (text ≡ gone_text oldest) × (told ≡ refused_at_least ended))
    ⊎ ((newest < revision) × (text ≡ ahead_text newest) × (told ≡ refused_at_least ended))
    ⊎ ((oldest ≤ revision) × (revision ≤ newest)
    × (text ≡ changes_text (changes_above revision all)) × (told ≡ ended))

-- pages of what is shown, or the changes since a revision
abbrev pub Shows : Option ℕ → WatchWords → (opening : ℕ) → List Entry → List Item → Ending
    → (text : List ℕ) → Ending → Type 0
Shows None words opening history items ended text told =
    ShowsPages words.resource words.limit items text × (told ≡ ended)
Shows (Some revision) words opening history items ended text told =
    ShowsChanges opening revision history ended text told

-- The items are what is shown of the history since what was read of the opening's rows. They are
-- what is shown of it by all openings that agree with these exchanges, those up to the workers;
-- what the workers' plugins answered doesn't matter, since a line that puts data tells them.
-- Without a program for a plugin they are so whatever sources open to.
pub record AreShown (exchanges : List Exchange) (begun : Begun) (o : Opening)
    (history : List Entry) (items : List Item) : Type 0 where
  pub since : IsShownSince begun.items o history items
  pub agreed : (opens : Opens) → AgreeAll opens exchanges → IsShown opens o history items
  pub bare : begun.plan.programs ≡ [] → (any : Opens) → IsShown any o history items

-- the text of what is shown of the history
abbrev pub ShowsHistory : WatchWords → List Exchange → Begun → Opening → List Entry → Ending
    → (text : List ℕ) → Ending → Type 0
ShowsHistory words exchanges begun o history ended text told = (items : List Item)
    × AreShown exchanges begun o history items
    × Shows words.since words (length o.rows) history items ended text told

-- just the text was written; or a prefix of it before the output failed; or memory lacked for it,
-- and nothing was
abbrev pub WritesWatch : (Shown : List ℕ → Ending → Type 0) → Receipt → Result Ending Stop
    → Type 0
WritesWatch Shown output (Ok told) =
    (text : List ℕ) × Shown text told × Appends output.old output.new text
WritesWatch Shown output (Err (Fault object n)) =
    ((text : List ℕ) × (told : Ending) × Shown text told
    × AppendsFront output.old output.new text)
    × (object ≡ Output) × Rose output.old_faults output.new_faults × (n ≡ output.new_faults)
WritesWatch Shown output (Err NoMemory) = WroteNothing output
WritesWatch Shown output (Err why) = ⊥

-- ---- once the workers were started

module _ (T : Type 0) {L D : Type 0} (link : L → Link)
    (step : L → Exchange → L → Type 0) (lent took : ℕ → L → Type 0)
    (left : D → Option (List ℕ)) (count : D → ℕ) where
  -- The one history is that of a fleet, and what is shown of it was written. What the steps up to
  -- the workers asked of plugins, to publish and to read the live rows, is just what the first
  -- seat's links answered before the first worker had them
  pub record StartsWatch (words : WatchWords) (old new : Environment) (output : Receipt)
      (result : Result Ending Stop) : Type 0 where
    pub begun : Begun
    pub mid : Environment
    pub reaches : StepsEndAt (watch_steps words.fleet) (step_state old) mid (gives begun)
    pub since : IsHome old mid
    pub exchanges : List Exchange
    pub heard : mid.heard ≡ hearing exchanges old.heard
    pub history : List Entry
    pub ended : List (fleet_worker.Worker T L D)
    pub runs : RunsFleet link step left count words.fleet.store begun
        (settled_behind words.fleet.store mid) new history ended
    pub writes : WritesWatch (ShowsHistory words exchanges begun
        (opening_of words.fleet.store begun mid) history
        (gravest_ending (map (λ (w : fleet_worker.Worker T L D). w.told) ended))) output result
    pub began : BeganWith lent took step exchanges runs.workers ended
    pub made : runs.made.exchanges ≡ exchanges

  -- how the call ended
  abbrev pub EndsWatch : WatchWords → (old new : Environment) → Receipt → Result Ending Stop
      → List Exchange → Type 0
  EndsWatch words old new output result exchanges =
      StopsBefore T link step left count (watch_steps words.fleet) words.fleet.store old new output
      result
      ⊎ ((start : StartsWatch words old new output result) × (start.exchanges ≡ exchanges))

  -- so these links came back
  abbrev pub WatchBack : (begun back : List (List L)) → (words : WatchWords) (old new : Environment)
      (output : Receipt) (result : Result Ending Stop) (exchanges : List Exchange)
      → EndsWatch words old new output result exchanges → Type 0
  WatchBack begun back words old new output result exchanges (inl stops) =
      ComeBack T link step left count exchanges begun back (watch_steps words.fleet)
      words.fleet.store old new output result stops
  WatchBack begun back words old new output result exchanges (inr (start, same)) =
      (links_in start.runs.workers ≡ begun) × (links_in start.ended ≡ back)

  -- all that was handed out is back; what the steps up to the workers asked, as far as they went,
  -- the links that were lent to the first seat answered, of all that were handed out; where the
  -- workers were started, it is just what those answered with which the first worker began (one
  -- list, that of `StartsWatch`)
  pub record DidWatch (words : WatchWords) (old new : Environment) (output : Receipt)
      (result : Result Ending Stop) : Type 0 where
    pub home : IsHome old new
    pub exchanges : List Exchange
    pub heard : new.heard ≡ hearing exchanges old.heard
    pub asked : WereAsked link lent took step exchanges old.world new.world
    pub did : EndsWatch words old new output result exchanges
    pub came : WatchBack asked.begun asked.back words old new output result exchanges did

-- what a call of `run` did for a watch
pub record RanWatch (T : Type 0) {L D : Type 0} (link : L → Link)
    (step : L → Exchange → L → Type 0) (lent took : ℕ → L → Type 0)
    (left : D → Option (List ℕ)) (count : D → ℕ) (words : WatchWords) (old new : Environment)
    (output errors : Receipt) (status : ℕ) : Type 0 where
  pub result : Result Ending Stop
  pub did : DidWatch T link step lent took left count words old new output result
  pub tells : TellsFleet result errors status
  pub written : output.old_faults ≤ output.new_faults
  pub told : errors.old_faults ≤ errors.new_faults
