use Rattle.std.proofs.Common.{ap}
use Rattle.kr_config.specs.Kept.{rows_of}
use Rattle.kr_plan.proofs.Planned.{slice_small, few_entries, planned, wide_made, turned_made}
use Rattle.kr_plan.proofs.planning.plan_classes.Goals as goal

pub check_limits-requires-clause-entries : goal.check_limits-requires-clause-entries
check_limits-requires-clause-entries c =
    few_entries c.as_slice.result.now
    (slice_small (rows_of c.args.from.now.entries.0) (rows_of c.args.to.now.entries.0)
    c.args.classes.now c.in_ok-wide.wide.0 c.as_slice.result.now c.known.ensures
    c.known-2.ensures c.requires c.in_ok-wide.ensures c.as_slice.ensures)

pub check_limits-requires-clause-keys : goal.check_limits-requires-clause-keys
check_limits-requires-clause-keys c =
    let small = slice_small (rows_of c.args.from.now.entries.0) (rows_of c.args.to.now.entries.0)
    c.args.classes.now c.in_ok-wide.wide.0 c.as_slice.result.now c.known.ensures
    c.known-2.ensures c.requires c.in_ok-wide.ensures c.as_slice.ensures in small.keys

pub check_limits-requires-clause-plugins : goal.check_limits-requires-clause-plugins
check_limits-requires-clause-plugins c =
    let small = slice_small (rows_of c.args.from.now.entries.0) (rows_of c.args.to.now.entries.0)
    c.args.classes.now c.in_ok-wide.wide.0 c.as_slice.result.now c.known.ensures
    c.known-2.ensures c.requires c.in_ok-wide.ensures c.as_slice.ensures in small.plugins

pub checked_settings-requires : goal.checked_settings-requires
checked_settings-requires c =
    wide_made (rows_of c.args.from.now.entries.0) (rows_of c.args.to.now.entries.0)
    c.args.classes.now c.in_ok-wide.wide.0 c.as_slice.result.now c.known.ensures
    c.known-2.ensures c.requires c.in_ok-check_secrets.ensures c.in_ok-wide.ensures
    c.as_slice.ensures c.in_ok-check_limits.ensures

pub checked_settings-requires-2 : goal.checked_settings-requires-2
checked_settings-requires-2 c =
    turned_made (rows_of c.args.from.now.entries.0) (rows_of c.args.to.now.entries.0)
    c.args.classes.now c.in_ok-wide.wide.0 c.as_slice.result.now c.in_ok-turned.turned.0
    c.known.ensures c.known-2.ensures c.requires c.in_ok-check_secrets.ensures
    c.in_ok-wide.ensures c.as_slice.ensures c.in_ok-check_limits.ensures c.in_ok-turned.ensures

pub returns : goal.returns
returns c =
    planned (rows_of c.args.from.now.entries.0) (rows_of c.args.to.now.entries.0)
    c.args.classes.now c.in_ok-wide.wide.0 c.as_slice.result.now c.in_ok-turned.turned.0
    c.args.replicas _ c.requires c.in_ok-check_secrets.ensures c.in_ok-wide.ensures
    c.as_slice.ensures c.in_ok-check_limits.ensures c.in_ok-turned.ensures
    (ap (λ l. l.0) c.in_ok-checked_settings.ensures)
    (ap (λ l. l.0) c.in_ok-checked_settings-2.ensures) c.in_ok-replica_moves.ensures
