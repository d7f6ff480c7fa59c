-- A `leave`.
use Rattle.std.proofs.Common.{ap, ◌∙◌}
use Rattle.kr_workers.specs.Replies.{told_of_leave}
use Rattle.kr_workers.proofs.OneLine.{serves_leave}
use Rattle.kr_workers.proofs.line.leave_line.Goals as goal

pub leave-done-requires-clause-replica : goal.leave-done-requires-clause-replica
leave-done-requires-clause-replica g c = c.requires.ready.may

pub leave-done-requires-clause-idle : goal.leave-done-requires-clause-idle
leave-done-requires-clause-idle g c = c.requires.ready.idle

pub returns-clause-serves : goal.returns-clause-serves
returns-clause-serves g c = serves_leave g.L.Kms.link g.L.Kms.step g.D.Dice.left g.D.Dice.count
    c.args.files.now c.args.replica (g.A.Acts.caller c.args.acts.now)
    (g.A.Acts.caller c.leave-done.new.acts)
    c.args.bench.now c.told_of_leave.result c.args.named c.leave-done.result
    (c.told_of_leave.ensures
    ∙ ap (λ n. told_of_leave n c.leave-done.result) c.seat-number.ensures)
    c.leave-done.ensures.leaves c.leave-done.ensures.adds
    c.leave-done.ensures.idle
