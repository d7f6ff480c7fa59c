-- `reload`: the call may be made, and what is kept holds behind it.
use Rattle.std.proofs.Common.{arith, [], ◌-◌}
use Rattle.kr_config.specs.Kept.{plugins_in, rows_of}
use Rattle.test_fleet_calls.proofs.Calling.{brought, links_serve, names_kept}
use Rattle.test_fleet_calls.proofs.desk.Desk.reload.Goals as goal

pub reload-done-requires-clause-names : goal.reload-done-requires-clause-names
reload-done-requires-clause-names g c = names_kept c.self.invariant
    (rows_of c.in_ok-settings.settings.entries.0) c.in_ok-settings.ensures

pub reload-done-requires-clause-links : goal.reload-done-requires-clause-links
reload-done-requires-clause-links g c = links_serve c.self.invariant

pub invariant_of-self : goal.invariant_of-self
invariant_of-self g c = brought g.L.Kms.link c.self.inside.bench c.reload-done.new.bench
    (plugins_in (rows_of c.in_ok-settings.settings.entries.0)) c.self.invariant
    c.reload-done.ensures.adds (omega (arith, c.in_ok-may_bring.ensures.2)) c.reload-done.ensures.idle
    c.reload-done.ensures.asked c.reload-done.ensures.kept
