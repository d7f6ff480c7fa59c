-- A worker's whole run: what is asked of its lines, how it ends and what it keeps.
use Rattle.std.specs.Prelude.{◌≡◌, ◌<◌, ◌≤◌, ◌+◌, ℕ, List, ◌∷◌, ◌++◌, length, get_or, All, None, Option, Result, Ok, Err, ⊤}
use Rattle.kr_base.specs.Walks.{Walk}
use Rattle.kr_base.specs.declared.errors.Spent.{Spent}
use Rattle.kr_kms.specs.Calls.{Link}
use Rattle.kr_kms.specs.Exchanges.{Exchange}
use Rattle.kr_provider.specs.AskedLinks.{AskedOnly}
use Rattle.kr_provider.specs.BenchKeys.{adoption_of}
use Rattle.kr_provider.specs.BenchState.{BenchState}
use Rattle.kr_provider.specs.KeyPages.{size_of}
use Rattle.kr_provider.specs.Names.{names_of}
use Rattle.kr_rollout.specs.declared.opening.Entry.{Entry}
use Rattle.kr_history.specs.Acting.{Caller}
use Rattle.kr_rollout.specs.Callers.{holding, reloads_in}
use Rattle.kr_history.specs.Calls.{AreServed}
use Rattle.kr_history.specs.KeyMoments.{Happens}
use Rattle.kr_history.specs.Parts.{Adds, IsPartWithin}
use Rattle.kr_script.specs.declared.script.ScriptLine.{ScriptLine}
use Rattle.kr_script.specs.declared.told.Told.{Told}
use Rattle.kr_workers.specs.declared.files.SettingsFile.{SettingsFile}
use Rattle.kr_workers.specs.Budgets.{brought_count, line_entries, puts_of, reloads_of}
use Rattle.kr_workers.specs.LineMoments.{run_moments}
use Rattle.kr_workers.specs.Runs.{DoesAll, LineDone, lines_in, replies_in}
use Rattle.kr_workers.specs.ScriptLines.{Does, MayDo, Workplace}
use Rattle.kr_workers.specs.inner.Serving.{EndsFor, place_of}

-- the worker may do the lines: as `IsReadyFor` of one line, with room for all that they bring
pub record AreReady {L D : Type 0} (link : L → Link) (files : List SettingsFile) (replica : ℕ)
    (lines : List ScriptLine) (c : Caller) (bench : BenchState L D) : Type 0 where
  pub may : All (MayDo c.opening files) lines
  pub there : replica < length c.opening.replicas
  pub idle : holding c.mine ≡ None
  pub room : reloads_in c.mine + reloads_of lines ≤ get_or c.opening.reloads c.seat 0
  pub links : AreServed c.opening.names (names_of link bench.links)
  pub pages : 64 ≤ size_of bench.pages

-- ---- how the run ends

module _ {L D : Type 0} (link : L → Link)
    (step : L → Exchange → L → Type 0) (left : D → Option (List ℕ)) (count : D → ℕ)
    (files : List SettingsFile) (replica : ℕ) where
  -- the seat could add no more lines in the midst of this line, and those behind it weren't begun
  pub record IsCutShort (lines : List ScriptLine) (run : List LineDone) (old new : Workplace L D)
      : Type 0 where
    pub line : ScriptLine
    pub rest : List ScriptLine
    pub lines_are : lines ≡ lines_in run ++ line ∷ rest
    pub does : Does link left count files replica line old (Err (record {})) new
    pub part : List Entry
    pub adds : Adds old.caller part new.caller
    pub within : IsPartWithin (line_entries (length part) line) (brought_count line) (puts_of line)
        part
    pub spent : EndsFor line old.caller (Err (record {}))

  -- all lines were done, or one was cut short
  abbrev pub EndsRun : List ScriptLine → List LineDone → Workplace L D → Result (Unit {0}) Spent
      → Workplace L D → Type 0
  EndsRun lines run old (Ok done) new = (lines_in run ≡ lines) × (new ≡ old)
  EndsRun lines run old (Err spent) new = IsCutShort lines run old new

  -- where all lines were done, this happened to the keys
  abbrev pub EndsKeys : Result (Unit {0}) Spent → BenchState L D → List LineDone → BenchState L D
      → Type 0
  EndsKeys (Ok done) bench run after =
      Walk Happens (adoption_of bench) (run_moments run) (adoption_of after)
  EndsKeys (Err spent) bench run after = ⊤

  -- ---- what the lines keep

  pub record Runs (lines : List ScriptLine) (old : Caller) (bench : BenchState L D)
      (replies : List Told) (ended : Result (Unit {0}) Spent) (new : Caller)
      (after : BenchState L D)
      : Type 0 where
    pub run : List LineDone
    pub replies_are : replies ≡ replies_in run
    pub middle : Workplace L D
    pub does : DoesAll link step left count files replica (place_of old bench) run middle
    pub ends : EndsRun lines run middle ended (place_of new after)
    pub opening : new.opening ≡ old.opening
    pub seat : new.seat ≡ old.seat
    pub asked_only : AskedOnly link (names_of link bench.links) bench.links after.links
    pub later : count bench.dice ≤ count after.dice
    pub pages : size_of after.pages ≡ size_of bench.pages
    pub keys : EndsKeys ended bench run after
