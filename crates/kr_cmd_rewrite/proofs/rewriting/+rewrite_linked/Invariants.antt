use Rattle.std.proofs.Common.{length}
use Rattle.kr_cmd_rewrite.proofs.rewriting.+rewrite_linked.Given as goal

abbrev pub decreases-rewrite_linked : goal.decreases-rewrite_linked
decreases-rewrite_linked g l = length l.programs.now
