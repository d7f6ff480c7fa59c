use Rattle.std.proofs.Common.{length}
use Rattle.kr_cmd_store.proofs.reading.+read_linked.Given as goal

-- proposed from what the function passes where it calls itself
abbrev pub decreases-read_linked : goal.decreases-read_linked
decreases-read_linked g l = length l.programs.now
