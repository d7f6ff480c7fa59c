-- A worker in the midst of its lines.
use Rattle.std.specs.Prelude.{◌≡◌, ◌≤◌, ◌+◌, ℕ, List, take, drop, get_or, None, Option}
use Rattle.kr_base.specs.Walks.{Walk}
use Rattle.kr_kms.specs.Calls.{Link}
use Rattle.kr_kms.specs.Exchanges.{Exchange}
use Rattle.kr_provider.specs.AskedLinks.{AskedOnly}
use Rattle.kr_provider.specs.BenchKeys.{adoption_of}
use Rattle.kr_provider.specs.BenchState.{BenchState}
use Rattle.kr_provider.specs.KeyPages.{size_of}
use Rattle.kr_provider.specs.Names.{names_of}
use Rattle.kr_history.specs.Acting.{Caller}
use Rattle.kr_rollout.specs.Callers.{holding, reloads_in}
use Rattle.kr_history.specs.KeyMoments.{Happens}
use Rattle.kr_script.specs.declared.script.ScriptLine.{ScriptLine}
use Rattle.kr_script.specs.declared.told.Told.{Told}
use Rattle.kr_workers.specs.declared.files.SettingsFile.{SettingsFile}
use Rattle.kr_workers.specs.Budgets.{reloads_of}
use Rattle.kr_workers.specs.LineMoments.{run_moments}
use Rattle.kr_workers.specs.Runs.{DoesAll, LineDone, lines_in, replies_in}
use Rattle.kr_workers.specs.inner.Serving.{place_of}

-- so many of the lines were done
pub record IsGoing {L D : Type 0} (link : L → Link)
    (step : L → Exchange → L → Type 0) (left : D → Option (List ℕ)) (count : D → ℕ)
    (files : List SettingsFile) (replica : ℕ) (lines : List ScriptLine)
    (done : ℕ) (old : Caller) (bench : BenchState L D) (replies : List Told) (c : Caller)
    (now : BenchState L D) : Type 0 where
  pub run : List LineDone
  pub replies_are : replies ≡ replies_in run
  pub lines_are : lines_in run ≡ take done lines
  pub does : DoesAll link step left count files replica (place_of old bench) run
      (place_of c now)
  pub opening : c.opening ≡ old.opening
  pub seat : c.seat ≡ old.seat
  pub idle : holding c.mine ≡ None
  pub room : reloads_in c.mine + reloads_of (drop done lines)
      ≤ get_or old.opening.reloads old.seat 0
  pub asked_only : AskedOnly link (names_of link bench.links) bench.links now.links
  pub later : count bench.dice ≤ count now.dice
  pub pages : size_of now.pages ≡ size_of bench.pages
  pub keys : Walk Happens (adoption_of bench) (run_moments run) (adoption_of now)
