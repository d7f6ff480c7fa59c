use Rattle.std.proofs.Common.{length}
use Rattle.kr_cmd_steps.proofs.work.+make_linked.Given as goal

-- proposed from what the function passes where it calls itself
abbrev pub decreases-make_linked : goal.decreases-make_linked
decreases-make_linked g l = length l.programs.now
