-- `refresh`: the call may be made, and what is kept holds behind it.
use Rattle.std.proofs.Common.{arith, [], ◌-◌}
use Rattle.kr_provider.specs.Names.{names_of}
use Rattle.test_fleet_calls.proofs.Calling.{bench_kept, called, links_serve}
use Rattle.test_fleet_calls.proofs.desk.Desk.refresh.Goals as goal

pub refresh-done-requires-clause-links : goal.refresh-done-requires-clause-links
refresh-done-requires-clause-links g c = links_serve c.self.invariant

pub invariant_of-self : goal.invariant_of-self
invariant_of-self g c = called g.L.Kms.link c.self.inside.bench c.refresh-done.new.bench 3 1 []
    c.refresh-done.result c.self.invariant c.refresh-done.ensures.adds (omega (arith, c.in_ok-may_bring.ensures.2))
    c.refresh-done.ensures.idle c.is_spent-self-inside.ensures
    (bench_kept g.L.Kms.link (names_of g.L.Kms.link c.self.inside.bench.links) c.self.inside.bench
    c.refresh-done.new.bench c.self.invariant.1 c.refresh-done.ensures.asked
    c.refresh-done.ensures.kept)
