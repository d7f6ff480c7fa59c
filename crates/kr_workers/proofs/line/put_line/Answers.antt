-- A `put`: a copy of the data is put.
use Rattle.std.proofs.Common.{ap, subst, sym, ◌∙◌}
use Rattle.kr_base.specs.Rules.{IsPath, IsResource}
use Rattle.kr_workers.specs.Replies.{told_of_write}
use Rattle.kr_workers.proofs.OneLine.{put_as_lent, serves_put, uncopied_put}
use Rattle.kr_workers.proofs.line.put_line.Goals as goal

pub write-done-requires-clause-replica : goal.write-done-requires-clause-replica
write-done-requires-clause-replica g c = c.requires.ready.there

pub write-done-requires-clause-idle : goal.write-done-requires-clause-idle
write-done-requires-clause-idle g c = c.requires.ready.idle

pub write-done-requires-clause-path : goal.write-done-requires-clause-path
write-done-requires-clause-path g c = subst IsPath (sym c.as_str-2.ensures) c.requires.ready.may.0

pub write-done-requires-clause-resource : goal.write-done-requires-clause-resource
write-done-requires-clause-resource g c = subst IsResource (sym c.as_str.ensures)
    c.requires.ready.may.1

pub write-done-requires-clause-links : goal.write-done-requires-clause-links
write-done-requires-clause-links g c = c.requires.ready.links

pub write-done-requires-clause-pages : goal.write-done-requires-clause-pages
write-done-requires-clause-pages g c = c.requires.ready.pages

pub returns-in_default-clause-serves : goal.returns-in_default-clause-serves
returns-in_default-clause-serves g c = uncopied_put g.L.Kms.link g.L.Kms.step g.D.Dice.left
    g.D.Dice.count
    c.args.files.now c.args.replica (g.A.Acts.caller c.args.acts.now) c.args.bench.now
    c.args.resource.now c.args.path.now c.args.plain.now c.requires.ready.idle

pub returns-clause-serves : goal.returns-clause-serves
returns-clause-serves g c = put_as_lent g.L.Kms.link g.L.Kms.step g.D.Dice.left g.D.Dice.count
    c.args.files.now c.args.replica (g.A.Acts.caller c.args.acts.now) c.args.bench.now
    (g.A.Acts.caller c.write-done.new.acts) c.write-done.new.bench c.told_of_write.result
    c.as_str.result.now c.as_str-2.result.now c.in-Ok.copy c.args.resource.now c.args.path.now
    c.args.plain.now
    c.as_str.ensures c.as_str-2.ensures (c.in-Ok.ensures ∙ c.as_slice.ensures)
    (serves_put g.L.Kms.link g.L.Kms.step g.D.Dice.left g.D.Dice.count c.args.files.now
    c.args.replica
    (g.A.Acts.caller c.args.acts.now) (g.A.Acts.caller c.write-done.new.acts) c.args.bench.now
    c.write-done.new.bench c.told_of_write.result c.as_str.result.now c.as_str-2.result.now
    c.in-Ok.copy c.write-done.result
    (c.told_of_write.ensures
    ∙ ap (λ n. told_of_write n c.write-done.result) c.seat-number.ensures)
    c.write-done.ensures.writes c.write-done.ensures.adds
    c.write-done.ensures.idle c.write-done.ensures.links c.write-done.ensures.later
    c.write-done.ensures.pages c.write-done.ensures.cache
    c.write-done.ensures.moments)
