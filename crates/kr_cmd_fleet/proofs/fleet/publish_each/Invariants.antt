-- So many replicas were gone through.
use Rattle.kr_cmd_fleet.specs.inner.Plans.{named}
use Rattle.kr_cmd_fleet.proofs.Publishings.{IsPublishing}
use Rattle.kr_cmd_fleet.proofs.fleet.publish_each.Given as goal

abbrev pub invariant-loop-replica : goal.invariant-loop-replica
invariant-loop-replica g l = IsPublishing g.L.Kms.link g.L.Kms.step g.D.Dice.left
    g.D.Dice.count (named l.files) l.replicas l.replica-index l.made.0 l.initial.links l.links
    l.initial.dice l.dice
