-- A worker's run: its lines in order, each once and with one reply.
use Rattle.std.specs.Prelude.{◌≡◌, ◌≤◌, ◌+◌, ℕ, List, [], ◌∷◌, ◌++◌, length, map, All, None, Option, Ok}
use Rattle.kr_base.specs.Walks.{Walk}
use Rattle.kr_kms.specs.Calls.{Link}
use Rattle.kr_kms.specs.Exchanges.{Exchange}
use Rattle.kr_provider.specs.AskedLinks.{Among, AskedOnly}
use Rattle.kr_provider.specs.Names.{names_of}
use Rattle.kr_rollout.specs.declared.opening.Entry.{Entry}
use Rattle.kr_rollout.specs.Callers.{holding}
use Rattle.kr_history.specs.Acting.{IsCaller}
use Rattle.kr_history.specs.Parts.{Adds, IsPartWithin}
use Rattle.kr_script.specs.declared.script.ScriptLine.{ScriptLine}
use Rattle.kr_script.specs.declared.told.Told.{Told}
use Rattle.kr_workers.specs.declared.files.SettingsFile.{SettingsFile}
use Rattle.kr_workers.specs.Budgets.{brought_count, line_entries, puts_of}
use Rattle.kr_workers.specs.Changes.{MayChange}
use Rattle.kr_workers.specs.Files.{rows_at}
use Rattle.kr_workers.specs.LineExchanges.{DoesBy}
use Rattle.kr_workers.specs.ScriptLines.{Does, Workplace}

-- a line that was done, with its part of the history, its reply, and what plugins were asked and
-- answered meanwhile
pub record LineDone : Type 0 where
  pub line : ScriptLine
  pub part : List Entry
  pub reply : Told
  pub exchanges : List Exchange

abbrev pub lines_in : List LineDone → List ScriptLine
lines_in run = map (λ done. done.line) run

-- the parts, one behind another
abbrev pub entries_in : List LineDone → List Entry
entries_in [] = []
entries_in (done ∷ run) = done.part ++ entries_in run

abbrev pub replies_in : List LineDone → List Told
replies_in run = map (λ done. done.reply) run

-- the exchanges with plugins, one behind another
abbrev pub exchanges_in : List LineDone → List Exchange
exchanges_in [] = []
exchanges_in (done ∷ run) = done.exchanges ++ exchanges_in run

module _ {L D : Type 0} (link : L → Link)
    (step : L → Exchange → L → Type 0) (left : D → Option (List ℕ)) (count : D → ℕ)
    (files : List SettingsFile) (replica : ℕ) where
  -- the line was done so, by a seat that held nothing; its part is what it added to the history,
  -- and no more than it may (of a rewrite no bound is said here), and what that changes is what the
  -- line asks and its reply tells. Each link stays the same plugin's, and no count of faults falls.
  -- Plugins were asked just what the line's call asks, and answered so
  pub record IsDone (old : Workplace L D) (done : LineDone) (new : Workplace L D) : Type 0 where
    pub does : Does link left count files replica done.line old (Ok done.reply) new
    pub known : IsCaller old.caller
    pub idle : holding old.caller.mine ≡ None
    pub made : All (MayChange (rows_at files) replica done.line done.reply) done.part
    pub adds : Adds old.caller done.part new.caller
    pub within : IsPartWithin (line_entries (length done.part) done.line) (brought_count done.line)
        (puts_of done.line) done.part
    pub asked_only : AskedOnly link (names_of link old.links) old.links new.links
    pub later : count old.dice ≤ count new.dice
    pub walk : Walk (Among step) old.links done.exchanges new.links
    pub asks : DoesBy left count files replica done.line old (Ok done.reply) new done.exchanges

  -- these lines, one behind another
  abbrev pub DoesAll : Workplace L D → List LineDone → Workplace L D → Type 0
  DoesAll old [] new = new ≡ old
  DoesAll old (done ∷ run) new =
      (between : Workplace L D) × IsDone old done between × DoesAll between run new
