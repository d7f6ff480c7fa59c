-- The text of what a fleet file says: each replica, worker and line with a `;` behind it, its words
-- parted by spaces; names, files, paths and data in hex, numbers in decimal digits.
use Rattle.std.specs.Prelude.{ℕ, List, ◌++◌, codes, decimal}
use Rattle.std.specs.List.{flat_map}
use Rattle.hex.specs.Hex.{encode_lower}
use Rattle.kr_script.specs.declared.script.ScriptLine.{ScriptLine}
use Rattle.kr_script.specs.declared.script.ScriptLine.TheVariants.{Put, Get, Delete, Rewrite, Reload}
use Rattle.kr_script.specs.declared.script.ScriptLine.TheVariants.{Refresh, Join, Leave}
use Rattle.kr_script.specs.Fleets.{Fleet, Worker}

abbrev pub hex_text : List ℕ → List ℕ
hex_text bytes = codes " " ++ encode_lower bytes

abbrev pub number_text : ℕ → List ℕ
number_text number = codes " " ++ decimal number

abbrev pub names_text : List ℕ → List ℕ → List ℕ
names_text name file = hex_text name ++ hex_text file

abbrev pub replica_text : List ℕ × List ℕ → List ℕ
replica_text replica = codes "replica" ++ (names_text replica.0 replica.1 ++ codes ";")

abbrev pub words_text : ScriptLine → List ℕ
words_text (Put resource path plain) =
    codes "put" ++ (hex_text resource ++ (hex_text path ++ hex_text plain))
words_text (Get path) = codes "get" ++ hex_text path
words_text (Delete path) = codes "delete" ++ hex_text path
words_text Rewrite = codes "rewrite"
words_text (Reload replica file) = codes "reload" ++ (number_text replica ++ hex_text file)
words_text Refresh = codes "refresh"
words_text (Join replica file) = codes "join" ++ (number_text replica ++ hex_text file)
words_text (Leave replica) = codes "leave" ++ number_text replica

abbrev pub line_text : ScriptLine → List ℕ
line_text line = words_text line ++ codes ";"

abbrev pub head_text : List ℕ → ℕ → List ℕ
head_text name replica =
    codes "worker" ++ (hex_text name ++ (number_text replica ++ codes ";"))

abbrev pub worker_text : Worker → List ℕ
worker_text worker = head_text worker.name worker.replica ++ flat_map line_text worker.lines

abbrev pub fleet_text : Fleet → List ℕ
fleet_text fleet = flat_map replica_text fleet.replicas ++ flat_map worker_text fleet.workers
