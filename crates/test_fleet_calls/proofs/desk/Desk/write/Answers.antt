-- `write`: the call may be made, and what is kept holds behind it.
use Rattle.std.proofs.Common.{arith, [], ◌∷◌}
use Rattle.kr_rollout.specs.declared.line.Did.TheVariants.{Put}
use Rattle.test_fleet_calls.proofs.Calling.{bench_linked, called, links_serve}
use Rattle.test_fleet_calls.proofs.desk.Desk.write.Goals as goal

pub write-done-requires-clause-links : goal.write-done-requires-clause-links
write-done-requires-clause-links g c = links_serve c.self.invariant

pub invariant_of-self : goal.invariant_of-self
invariant_of-self g c = called g.L.Kms.link c.self.inside.bench c.write-done.new.bench 3 0 (Put c.args.path.now c.args.resource.now c.in_ok-plain.plain ∷ [])
    c.write-done.result c.self.invariant c.write-done.ensures.adds (omega arith)
    c.write-done.ensures.idle c.is_spent-self-inside.ensures
    (bench_linked g.L.Kms.link c.self.inside.bench c.write-done.new.bench c.self.invariant.1
    c.write-done.ensures.links c.write-done.ensures.pages)
