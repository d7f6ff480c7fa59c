-- A `rewrite`, from the first path on.
use Rattle.std.proofs.Common.{ap, inl, refl, ◌∙◌}
use Rattle.kr_workers.specs.Replies.{told_of_drive}
use Rattle.kr_workers.proofs.OneLine.{serves_rewrite}
use Rattle.kr_workers.proofs.line.rewrite_line.Goals as goal

pub drive-done-requires-clause-path : goal.drive-done-requires-clause-path
drive-done-requires-clause-path g c = inl refl

pub returns-clause-serves : goal.returns-clause-serves
returns-clause-serves g c = serves_rewrite g.L.Kms.link g.L.Kms.step g.D.Dice.left g.D.Dice.count
    c.args.files.now c.args.replica (g.A.Acts.caller c.args.acts.now)
    (g.A.Acts.caller c.drive-done.new.acts) c.args.bench.now c.drive-done.new.bench
    c.told_of_drive.result c.drive-done.result
    (c.told_of_drive.ensures
    ∙ ap (λ n. told_of_drive n c.drive-done.result) c.seat-number.ensures)
    c.drive-done.ensures.drives c.drive-done.ensures.idle
    c.drive-done.ensures.asked c.drive-done.ensures.later c.drive-done.ensures.pages c.drive-done.ensures.exchanged
    c.drive-done.ensures.moments
