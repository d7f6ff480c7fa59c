-- A `get`: the path is lent.
use Rattle.std.proofs.Common.{ap, subst, sym, ◌∙◌}
use Rattle.kr_base.specs.Rules.{IsPath}
use Rattle.kr_script.specs.declared.script.ScriptLine.TheVariants as line
use Rattle.kr_workers.specs.Replies.{told_of_read}
use Rattle.kr_workers.specs.inner.Serving.{Serves}
use Rattle.kr_workers.proofs.OneLine.{serves_get}
use Rattle.kr_workers.proofs.line.get_line.Goals as goal

pub read-done-requires-clause-replica : goal.read-done-requires-clause-replica
read-done-requires-clause-replica g c = c.requires.ready.there

pub read-done-requires-clause-idle : goal.read-done-requires-clause-idle
read-done-requires-clause-idle g c = c.requires.ready.idle

pub read-done-requires-clause-path : goal.read-done-requires-clause-path
read-done-requires-clause-path g c = subst IsPath (sym c.as_str.ensures) c.requires.ready.may

pub read-done-requires-clause-links : goal.read-done-requires-clause-links
read-done-requires-clause-links g c = c.requires.ready.links

pub read-done-requires-clause-pages : goal.read-done-requires-clause-pages
read-done-requires-clause-pages g c = c.requires.ready.pages

pub returns-clause-serves : goal.returns-clause-serves
returns-clause-serves g c = subst
    (λ p. Serves g.L.Kms.link g.L.Kms.step g.D.Dice.left g.D.Dice.count c.args.files.now
    c.args.replica (line.Get p) (g.A.Acts.caller c.args.acts.now) c.args.bench.now
    c.told_of_read.result (g.A.Acts.caller c.read-done.new.acts) c.read-done.new.bench)
    c.as_str.ensures
    (serves_get g.L.Kms.link g.L.Kms.step g.D.Dice.left g.D.Dice.count c.args.files.now
    c.args.replica
    (g.A.Acts.caller c.args.acts.now) (g.A.Acts.caller c.read-done.new.acts) c.args.bench.now
    c.read-done.new.bench c.told_of_read.result c.as_str.result.now c.read-done.result
    (c.told_of_read.ensures
    ∙ ap (λ n. told_of_read n c.read-done.result) c.seat-number.ensures)
    c.read-done.ensures.reads c.read-done.ensures.adds
    c.read-done.ensures.idle c.read-done.ensures.asked c.read-done.ensures.dice
    c.read-done.ensures.pages c.read-done.ensures.exchanged
    c.read-done.ensures.moments)
