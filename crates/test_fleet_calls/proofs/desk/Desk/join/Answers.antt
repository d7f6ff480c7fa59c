-- `join`: the call may be made, and what is kept holds behind it.
use Rattle.std.proofs.Common.{arith, [], ◌-◌}
use Rattle.kr_config.specs.Kept.{plugins_in, rows_of}
use Rattle.test_fleet_calls.proofs.Calling.{brought, links_serve, names_kept}
use Rattle.test_fleet_calls.proofs.desk.Desk.join.Goals as goal

pub join-done-requires-clause-names : goal.join-done-requires-clause-names
join-done-requires-clause-names g c = names_kept c.self.invariant
    (rows_of c.in_ok-settings.settings.entries.0) c.in_ok-settings.ensures

pub join-done-requires-clause-links : goal.join-done-requires-clause-links
join-done-requires-clause-links g c = links_serve c.self.invariant

pub invariant_of-self : goal.invariant_of-self
invariant_of-self g c = brought g.L.Kms.link c.self.inside.bench c.join-done.new.bench
    (plugins_in (rows_of c.in_ok-settings.settings.entries.0)) c.self.invariant
    c.join-done.ensures.adds (omega (arith, c.in_ok-may_bring.ensures.2)) c.join-done.ensures.idle
    c.join-done.ensures.asked c.join-done.ensures.kept
