-- A `refresh`.
use Rattle.std.proofs.Common.{ap, ◌∙◌, arith}
use Rattle.kr_workers.specs.Replies.{told_of_refresh}
use Rattle.kr_workers.proofs.OneLine.{serves_refresh}
use Rattle.kr_workers.proofs.line.refresh_line.Goals as goal

pub refresh-done-requires-clause-replica : goal.refresh-done-requires-clause-replica
refresh-done-requires-clause-replica g c = c.requires.ready.there

pub refresh-done-requires-clause-idle : goal.refresh-done-requires-clause-idle
refresh-done-requires-clause-idle g c = c.requires.ready.idle

pub refresh-done-requires-clause-room : goal.refresh-done-requires-clause-room
refresh-done-requires-clause-room g c = omega (arith, c.requires.ready.room)

pub refresh-done-requires-clause-links : goal.refresh-done-requires-clause-links
refresh-done-requires-clause-links g c = c.requires.ready.links

pub returns-clause-serves : goal.returns-clause-serves
returns-clause-serves g c = serves_refresh g.L.Kms.link g.L.Kms.step g.D.Dice.left g.D.Dice.count
    c.args.files.now c.args.replica (g.A.Acts.caller c.args.acts.now)
    (g.A.Acts.caller c.refresh-done.new.acts)
    c.args.bench.now c.refresh-done.new.bench c.told_of_refresh.result c.refresh-done.result
    (c.told_of_refresh.ensures
    ∙ ap (λ n. told_of_refresh n c.refresh-done.result) c.seat-number.ensures)
    c.refresh-done.ensures.refreshes c.refresh-done.ensures.adds
    c.refresh-done.ensures.idle c.refresh-done.ensures.asked c.refresh-done.ensures.later
    c.refresh-done.ensures.kept c.refresh-done.ensures.exchanged
    c.refresh-done.ensures.keys
