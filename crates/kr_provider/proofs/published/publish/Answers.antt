-- `publish`: the seeds are those of all plugins that the settings name.
use Rattle.std.proofs.Common.{Ok, Err, [], refl, subst, true}
use Rattle.kr_base.specs.Walks.{Talk}
use Rattle.kr_base.proofs.Walks.{talk_so}
use Rattle.kr_config.specs.Kept.{plugins_in, rows_of}
use Rattle.kr_config.specs.declared.settings.Settings.{Settings}
use Rattle.kr_provider.specs.AskedLinks.{Among}
use Rattle.kr_provider.specs.Exchanges.{MakesSeedsBy, PublishesBy}
use Rattle.kr_provider.specs.Publishing.{AreSeedsOf}
use Rattle.kr_provider.proofs.PluginNames.{all_published}
use Rattle.kr_provider.proofs.published.publish.Goals as goal

pub invariant_of-result : goal.invariant_of-result
invariant_of-result g c =
    let P : Settings → Type 0 = λ s. AreSeedsOf g.L.Kms.link c.args.links.now
    (plugins_in (rows_of s.entries.0)) (λ name. true) c.in-Ok.seeds.0 in
    all_published g.L.Kms.link c.args.links.now
    (rows_of c.args.settings.entries.0) c.in-Ok.seeds.0 c.args.settings.kept
    (subst P c.get.ensures c.in-Ok.ensures.made.1)

pub returns-clause-exchanged : goal.returns-clause-exchanged
returns-clause-exchanged g c =
    let P : Settings → Type 0 = λ s. Talk (Among g.L.Kms.step) c.args.links.now
    c.make_seeds.new.links (MakesSeedsBy g.D.Dice.left g.D.Dice.count
    (plugins_in (rows_of s.entries.0)) [] c.args.dice.now (Ok c.in-Ok.seeds.0)
    c.make_seeds.new.dice) in
    talk_so _ _ _ _ _ (subst P c.get.ensures c.in-Ok.ensures.exchanged) (λ es made.
    (refl, made))

pub returns-in-Err-clause-exchanged : goal.returns-in-Err-clause-exchanged
returns-in-Err-clause-exchanged g c =
    let P : Settings → Type 0 = λ s. Talk (Among g.L.Kms.step) c.args.links.now
    c.make_seeds.new.links (PublishesBy g.D.Dice.left g.D.Dice.count (rows_of s.entries.0)
    c.args.dice.now (Err c.in-Err.why) c.make_seeds.new.dice) in
    subst P c.get.ensures c.in-Err.ensures.exchanged
