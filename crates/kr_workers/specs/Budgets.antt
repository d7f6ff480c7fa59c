-- How many lines of the journal a worker's lines may add, and how many configurations they bring.
use Rattle.std.specs.Prelude.{◌≡◌, ℕ, ◌+◌, ◌*◌, Bool, true, false, List, [], ◌∷◌, map, count_by, sum}
use Rattle.kr_store.specs.Stores.{IsLiveCount}
use Rattle.kr_store.specs.declared.rows.LogRow.{LogRow}
use Rattle.kr_rollout.specs.declared.line.Did.{Did}
use Rattle.kr_rollout.specs.declared.line.Did.TheVariants as did
use Rattle.kr_script.specs.declared.script.Part.{Part}
use Rattle.kr_script.specs.declared.script.ScriptLine.{ScriptLine}
use Rattle.kr_script.specs.declared.script.ScriptLine.TheVariants as line

-- the lines of the journal that a line may add; a rewrite finds at most so many paths, adds at most
-- four at each, and three at its end
abbrev pub line_entries : (paths : ℕ) → ScriptLine → ℕ
line_entries paths (line.Put resource path plain) = 3
line_entries paths (line.Get path) = 3
line_entries paths (line.Delete path) = 1
line_entries paths line.Rewrite = 4 * paths + 3
line_entries paths (line.Reload replica file) = 1
line_entries paths line.Refresh = 3
line_entries paths (line.Join replica file) = 1
line_entries paths (line.Leave replica) = 1

abbrev pub budget_of : (paths : ℕ) → List ScriptLine → ℕ
budget_of paths [] = 0
budget_of paths (line ∷ lines) = line_entries paths line + budget_of paths lines

-- the configurations that a line may bring
abbrev pub brought_count : ScriptLine → ℕ
brought_count (line.Put resource path plain) = 0
brought_count (line.Get path) = 0
brought_count (line.Delete path) = 0
brought_count line.Rewrite = 0
brought_count (line.Reload replica file) = 1
brought_count line.Refresh = 1
brought_count (line.Join replica file) = 1
brought_count (line.Leave replica) = 0

abbrev pub reloads_of : List ScriptLine → ℕ
reloads_of [] = 0
reloads_of (line ∷ lines) = brought_count line + reloads_of lines

-- it puts an object
abbrev pub is_put : ScriptLine → Bool
is_put (line.Put resource path plain) = true
is_put (line.Get path) = false
is_put (line.Delete path) = false
is_put line.Rewrite = false
is_put (line.Reload replica file) = false
is_put line.Refresh = false
is_put (line.Join replica file) = false
is_put (line.Leave replica) = false

-- the Puts that it may write
abbrev pub puts_of : ScriptLine → List Did
puts_of (line.Put resource path plain) = did.Put path resource plain ∷ []
puts_of (line.Get path) = []
puts_of (line.Delete path) = []
puts_of line.Rewrite = []
puts_of (line.Reload replica file) = []
puts_of line.Refresh = []
puts_of (line.Join replica file) = []
puts_of (line.Leave replica) = []

-- ---- of all workers

abbrev pub script_budgets : (paths : ℕ) → List Part → List ℕ
script_budgets paths parts = map (λ part. budget_of paths part.lines.0) parts

-- how many lines put an object
abbrev pub put_lines : List Part → ℕ
put_lines parts = sum (map (λ part. count_by is_put part.lines.0) parts)

-- what the parts may need over these rows: a rewrite finds the paths that are live at first, and
-- those that are put meanwhile
abbrev pub AreBudgets : List LogRow → List Part → List ℕ → Type 0
AreBudgets rows parts budgets = (live : ℕ) × IsLiveCount rows live
    × (budgets ≡ script_budgets (live + put_lines parts) parts)

abbrev pub all_reloads : List Part → List ℕ
all_reloads parts = map (λ part. reloads_of part.lines.0) parts
