-- `end_outfits`: those that are left have no links, and each turn ends one of them.
use Rattle.std.proofs.Common.{◌≡◌, [], length}
use Rattle.std.specs.Prelude.{All}
use Rattle.kr_cmd_gen.proofs.loads.end_outfits.Given as goal

abbrev pub invariant-loop-outfit : goal.invariant-loop-outfit
invariant-loop-outfit g l = All (λ outfit. outfit.links ≡ []) l.outfits.0

abbrev pub decreases-loop-outfit : goal.decreases-loop-outfit
decreases-loop-outfit g l = length l.outfits.0
