-- What no load tells: it would contradict `LoadHeadline`.
use Rattle.std.specs.Prelude.{◌≤◌, ◌<◌, ℕ, List, length}
use Rattle.kr_kms.specs.Calls.{Link}
use Rattle.kr_kms.specs.Exchanges.{Exchange}
use Rattle.kr_script.specs.declared.script.ScriptLine.TheVariants as line
use Rattle.kr_script.specs.declared.told.Told.TheVariants as told
use Rattle.kr_workload.specs.Streams.{StreamState, link_faults}
use Rattle.kr_headline.specs.Fleets.{run_in}
use Rattle.kr_headline.specs.Headline.{IsTold, Run}
use Rattle.kr_headline.specs.Values.{sealed_values}
use Rattle.kr_cmd_messages.specs.Receipts.{Receipt}
use Rattle.kr_cmd_messages.specs.declared.load_words.LoadWords.{LoadWords}
use Rattle.kr_cmd_steps.specs.Environment.{Environment}
use Rattle.kr_cmd_fleet.specs.Fleets.{opening_of, settled_behind}
use Rattle.kr_cmd_gen.specs.LoadHeadlines.{StartsLoadWorkers}

module _ (T : Type 0) {L : Type 0} (link : L → Link)
    (step : L → Exchange → L → Type 0) (words : LoadWords)
    (old new : Environment) (output errors : Receipt) (status : ℕ) (sources : List StreamState)
    (s : StartsLoadWorkers T link step words old new output errors status sources) where
  abbrev pub run : Run
  run = run_in sealed_values link step link_faults s.has.page.workers s.ended s.has.page.files
      (opening_of words.store s.begun (settled_behind words.store s.mid)) s.has.page.parts s.history
      s.has.page.headline

  pub record WrongLoads : Type 0 where
    -- a random source fails while some line is done
    pub source_failed : (worker at : ℕ) → worker < length s.ended → run.SourceFailed worker at → ⊥
    -- so a `put` tells that one did
    pub put_draws : (worker at seat : ℕ) (path resource plain : List ℕ) → worker < length s.ended
        → IsTold run worker at (line.Put resource path plain) (told.FaultDice seat) → ⊥

-- so it is with each load within its limit
abbrev pub EachLoadIsWrong : (T : Type 0) → {L : Type 0} → (L → Link)
    → (L → Exchange → L → Type 0) → Type 0
EachLoadIsWrong T link step = (words : LoadWords) (old new : Environment)
    (output errors : Receipt) (status : ℕ) → words.size ≤ 10000 → (sources : List StreamState)
    (s : StartsLoadWorkers T link step words old new output errors status sources)
    → WrongLoads T link step words old new output errors status sources s
