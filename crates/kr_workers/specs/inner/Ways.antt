-- Which line brings the settings of a file to a replica.
use Rattle.std.specs.Prelude.{ℕ, List}
use Rattle.kr_script.specs.declared.script.ScriptLine.{ScriptLine}
use Rattle.kr_script.specs.declared.script.ScriptLine.TheVariants as line
use Rattle.kr_workers.specs.declared.line.Way.{Way}
use Rattle.kr_workers.specs.declared.line.Way.TheVariants as way

abbrev pub line_by : Way → (replica : ℕ) → (file : List ℕ) → ScriptLine
line_by way.Reload replica file = line.Reload replica file
line_by way.Join replica file = line.Join replica file
