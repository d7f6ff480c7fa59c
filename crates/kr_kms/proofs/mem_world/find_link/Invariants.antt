-- What was looked at isn't the link.
use Rattle.std.proofs.Common.{◌≡◌, drop}
use Rattle.kr_kms.specs.MemWorld.{first_link}
use Rattle.kr_kms.proofs.mem_world.find_link.Given as goal

abbrev pub invariant-loop-entry : goal.invariant-loop-entry
invariant-loop-entry g l =
    first_link g.L.Kms.link l.links l.seat l.plugin
    ≡ first_link g.L.Kms.link (drop l.entry-index l.links) l.seat l.plugin
