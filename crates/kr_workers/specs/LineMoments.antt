-- What happens to the keys of a worker's bench around the entries of its lines.
use Rattle.std.specs.Prelude.{◌≡◌, ℕ, Bool, true, false, if◌then◌else◌, List, [], ◌++◌, ◌∷◌, map, None}
use Rattle.kr_base.specs.Walks.{Walk}
use Rattle.kr_provider.specs.BenchKeys.{HoldsExactly}
use Rattle.kr_provider.specs.BenchState.{Adoption}
use Rattle.kr_rollout.specs.declared.opening.Entry.{Entry}
use Rattle.kr_history.specs.KeyMoments.{Happens, Moment, Said, moments_of, taken_after}
use Rattle.kr_script.specs.declared.script.ScriptLine.{ScriptLine}
use Rattle.kr_script.specs.declared.script.ScriptLine.TheVariants as line
use Rattle.kr_workers.specs.Runs.{LineDone}

-- the line's call takes up what it adopts; a refresh adopts, but takes nothing up
abbrev pub adopts_published : ScriptLine → Bool
adopts_published (line.Put resource path plain) = true
adopts_published (line.Get path) = true
adopts_published (line.Delete path) = false
adopts_published line.Rewrite = true
adopts_published (line.Reload replica file) = false
adopts_published line.Refresh = false
adopts_published (line.Join replica file) = false
adopts_published (line.Leave replica) = false

-- around the entries of its part
abbrev pub line_moments : ScriptLine → List Entry → List Moment
line_moments asked part = if adopts_published asked then moments_of part else map Said part

-- around those of lines one behind another
abbrev pub run_moments : List LineDone → List Moment
run_moments [] = []
run_moments (done ∷ run) = line_moments done.line done.part ++ run_moments run

-- a bench with so many pages adopted nothing yet. At every moment between two events, whatever the
-- moments before led to, it holds exactly what it took up last; so it does at the end
pub record HoldsItsKeys (size : ℕ) (before : Adoption) (moments : List Moment) (after : Adoption)
    : Type 0 where
  pub meanwhile : (front rest : List Moment) (now : Adoption) → moments ≡ front ++ rest
      → Walk Happens before front now → HoldsExactly size (taken_after None front) now
  pub at_end : HoldsExactly size (taken_after None moments) after
