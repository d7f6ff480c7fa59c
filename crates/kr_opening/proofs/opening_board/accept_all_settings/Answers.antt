use Rattle.std.proofs.Common.{arith}
use Rattle.kr_opening.specs.Replicas.{rows_in}
use Rattle.kr_opening.proofs.Taking.{taken_begin, taken_end, taken_idle, taken_room, taken_step}
use Rattle.kr_opening.proofs.opening_board.accept_all_settings.Goals as goal

pub loop-replica-preserved : goal.loop-replica-preserved
loop-replica-preserved c =
    taken_step c.args.replicas.now c.args.board.now c.loop-replica.board c.accept_settings.new.board
    c.loop-replica.replica c.index-replicas-replica.result
    c.loop-replica.invariant c.loop-replica-test.true c.index-replicas-replica.is c.in_ok-accept_settings.ensures

pub loop-replica-init : goal.loop-replica-init
loop-replica-init c = taken_begin (rows_in c.args.replicas.now) c.args.board.now c.requires.none

pub accept_settings-requires-clause-idle : goal.accept_settings-requires-clause-idle
accept_settings-requires-clause-idle c =
    let l = c.loop-replica in
    taken_idle (rows_in c.args.replicas.now) c.args.board.now l.board l.replica l.invariant
    c.requires.idle

pub accept_settings-requires-clause-room : goal.accept_settings-requires-clause-room
accept_settings-requires-clause-room c =
    let l = c.loop-replica in
    taken_room c.args.replicas.now c.args.board.now l.board l.replica l.invariant
    c.loop-replica-test.true c.requires.room

pub returns : goal.returns
returns c =
    let l = c.loop-replica in
    taken_end c.args.replicas.now c.args.board.now l.board l.replica l.invariant (omega arith)
