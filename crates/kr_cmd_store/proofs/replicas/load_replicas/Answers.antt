-- `load_replicas`: each turn loads the configuration of the next name.
use Rattle.std.proofs.Common.{◌+◌, sym, ◌∙◌, ap, subst, arith}
use Rattle.kr_opening.specs.Replicas.{rows_in}
use Rattle.kr_cmd_messages.specs.Command.{replica_names}
use Rattle.kr_cmd_store.specs.inner.Judging.{AreIn}
use Rattle.kr_cmd_store.proofs.Loads.{IsLoading, loads_none, loads_more, loads_not, lacks_room, loads_all, keeps_all}
use Rattle.kr_cmd_store.proofs.ReplicaLists.{count_is, name_there, none_in, one_more_in, rows_more}
use Rattle.kr_cmd_store.proofs.replicas.load_replicas.Goals as goal

pub loop-number-init : goal.loop-number-init
loop-number-init g c =
    let names = replica_names c.args.options.now in
    let world = g.W.World.told c.args.world.now in (
      subst (λ r. IsLoading names 0 (rows_in r) world world) (sym c.new-replicas.ensures)
          (loads_none names world),
      subst (AreIn 0) (sym c.new-replicas.ensures) none_in,
    )

pub unreachable-requires : goal.unreachable-requires
unreachable-requires g c = name_there c.args.options.now c.loop-number.number
    (omega (arith, c.loop-number-test.true, c.replicas-number-end.ensures)) c.in_default.ensures

pub returns-in-Err-clause-loads : goal.returns-in-Err-clause-loads
returns-in-Err-clause-loads g c =
    loads_not c.loop-number.invariant.0 c.in-Some.name.now c.in-Some.ensures
    c.in-Err.ensures.files c.in-Err.ensures.objects c.in-Err.stop c.in-Err.ensures.settings
    c.in-Err.ensures.asked

pub returns-in-Err-clause-objects : goal.returns-in-Err-clause-objects
returns-in-Err-clause-objects g c =
    keeps_all c.loop-number.invariant.0 c.in-Some.name.now c.in-Some.ensures
    c.in-Err.ensures.files c.in-Err.ensures.objects

pub returns-in-Err-add_replica-clause-loads : goal.returns-in-Err-add_replica-clause-loads
returns-in-Err-add_replica-clause-loads g c =
    lacks_room (loads_more c.loop-number.invariant.0 c.in-Some.name.now c.in-Some.ensures
    c.in-Ok.ensures.files c.in-Ok.ensures.objects c.in-Ok.settings c.in-Ok.ensures.settings
    c.in-Ok.ensures.asked)

pub returns-in-Err-add_replica-clause-objects : goal.returns-in-Err-add_replica-clause-objects
returns-in-Err-add_replica-clause-objects g c =
    keeps_all c.loop-number.invariant.0 c.in-Some.name.now c.in-Some.ensures
    c.in-Ok.ensures.files c.in-Ok.ensures.objects

pub loop-number-preserved : goal.loop-number-preserved
loop-number-preserved g c =
    let names = replica_names c.args.options.now in
    let replicas = c.loop-number.replicas.0 in
    let settings = c.in-Ok.settings in
    let added = c.in-Ok-add_replica.ensures in
    let more = loads_more c.loop-number.invariant.0 c.in-Some.name.now c.in-Some.ensures
    c.in-Ok.ensures.files c.in-Ok.ensures.objects settings c.in-Ok.ensures.settings
    c.in-Ok.ensures.asked in (
      subst (λ r. IsLoading names (c.loop-number.number + 1) r
          (g.W.World.told c.args.world.now) (g.W.World.told c.load_settings.new.world))
          (rows_more replicas settings ∙ ap rows_in (sym added)) more,
      subst (AreIn (c.loop-number.number + 1)) (sym added)
          (one_more_in c.loop-number.number replicas settings c.loop-number.invariant.1),
    )

pub returns-clause-loads : goal.returns-clause-loads
returns-clause-loads g c = loads_all c.loop-number.invariant.0
    (omega (arith, count_is c.args.options.now, c.replicas-number-end.ensures, c.loop-number-test.false))

pub returns-clause-are_in : goal.returns-clause-are_in
returns-clause-are_in g c =
    subst (λ n. AreIn n c.loop-number.replicas.0)
    (omega (arith, c.replicas-number-end.ensures, c.loop-number-test.false, c.loop-number.auto.number-end))
    c.loop-number.invariant.1

pub returns-clause-objects : goal.returns-clause-objects
returns-clause-objects g c = c.loop-number.invariant.0.objects
