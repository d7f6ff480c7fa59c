-- A `delete`: the path is lent.
use Rattle.std.proofs.Common.{ap, subst, sym, ◌∙◌}
use Rattle.kr_base.specs.Rules.{IsPath}
use Rattle.kr_script.specs.declared.script.ScriptLine.TheVariants as line
use Rattle.kr_workers.specs.Replies.{told_of_delete}
use Rattle.kr_workers.specs.inner.Serving.{Serves}
use Rattle.kr_workers.proofs.OneLine.{serves_delete}
use Rattle.kr_workers.proofs.line.delete_line.Goals as goal

pub delete-done-requires-clause-path : goal.delete-done-requires-clause-path
delete-done-requires-clause-path g c = subst IsPath (sym c.as_str.ensures) c.requires.ready.may

pub delete-done-requires-clause-idle : goal.delete-done-requires-clause-idle
delete-done-requires-clause-idle g c = c.requires.ready.idle

pub returns-clause-serves : goal.returns-clause-serves
returns-clause-serves g c = subst
    (λ p. Serves g.L.Kms.link g.L.Kms.step g.D.Dice.left g.D.Dice.count c.args.files.now
    c.args.replica (line.Delete p) (g.A.Acts.caller c.args.acts.now) c.args.bench.now
    c.told_of_delete.result (g.A.Acts.caller c.delete-done.new.acts) c.args.bench.now)
    c.as_str.ensures
    (serves_delete g.L.Kms.link g.L.Kms.step g.D.Dice.left g.D.Dice.count c.args.files.now
    c.args.replica
    (g.A.Acts.caller c.args.acts.now) (g.A.Acts.caller c.delete-done.new.acts) c.args.bench.now
    c.told_of_delete.result c.as_str.result.now c.delete-done.result
    (c.told_of_delete.ensures
    ∙ ap (λ n. told_of_delete n c.delete-done.result) c.seat-number.ensures)
    c.delete-done.ensures.deletes c.delete-done.ensures.adds
    c.delete-done.ensures.idle)
