-- `reload`: what was brought is what was answered.
use Rattle.std.proofs.Common.{[], None, refl, subst, sym, ◌∙◌}
use Rattle.kr_config.specs.Kept.{rows_of}
use Rattle.kr_base.proofs.Walks.{talk_so}
use Rattle.kr_provider.specs.AskedLinks.{Among}
use Rattle.kr_provider.specs.Exchanges.{PublishesBy}
use Rattle.kr_provider.specs.Names.{names_of}
use Rattle.kr_provider.specs.Publishing.{Publishes}
use Rattle.kr_rollout.specs.Openings.{NamesAmong}
use Rattle.kr_history.proofs.Nexts.{serves}
use Rattle.kr_history.proofs.PartsAdd.{nothing_within}
use Rattle.kr_fleet.specs.CallForms.{reload_of}
use Rattle.kr_fleet.proofs.LoadAnswers.{not_shared, reload_answered}
use Rattle.kr_fleet.proofs.loading.reload.Goals as goal

pub publish-requires : goal.publish-requires
publish-requires g c = record {
  links = serves (g.A.Acts.caller c.args.acts.now).opening.names
      (names_of g.L.Kms.link c.args.bench.now.links) (rows_of c.args.settings.entries.0)
      c.requires.links c.requires.names;
}

pub returns-in-Err-clause-reloads : goal.returns-in-Err-clause-reloads
returns-in-Err-clause-reloads g c = not_shared (λ made. Publishes g.L.Kms.link g.D.Dice.left g.D.Dice.count
    (rows_of c.args.settings.entries.0) c.args.bench.now.links c.args.bench.now.dice made
    c.publish.new.bench.links c.publish.new.bench.dice)
    (g.A.Acts.caller c.args.acts.now) (g.A.Acts.caller c.args.acts.now)
    (reload_of c.args.replica None) c.args.replica c.in-Err.why refl c.in-Err.ensures.published

pub returns-in-Err-clause-exchanged : goal.returns-in-Err-clause-exchanged
returns-in-Err-clause-exchanged g c = talk_so (Among g.L.Kms.step) _ _ _ _
    c.in-Err.ensures.exchanged (λ es none. not_shared (λ made. PublishesBy g.D.Dice.left g.D.Dice.count (rows_of c.args.settings.entries.0)
    c.args.bench.now.dice made c.publish.new.bench.dice es)
    (g.A.Acts.caller c.args.acts.now) (g.A.Acts.caller c.args.acts.now)
    (reload_of c.args.replica None) c.args.replica c.in-Err.why refl none)

pub returns-in-Err-clause-adds : goal.returns-in-Err-clause-adds
returns-in-Err-clause-adds g c = nothing_within 1 1 [] (g.A.Acts.caller c.args.acts.now)

pub reload-requires-clause-names : goal.reload-requires-clause-names
reload-requires-clause-names g c =
    subst (NamesAmong (g.A.Acts.caller c.args.acts.now).opening.names)
    (sym c.in-Ok.ensures.published.0) c.requires.names

pub returns-clause-reloads : goal.returns-clause-reloads
returns-clause-reloads g c = reload_answered
    (λ made. Publishes g.L.Kms.link g.D.Dice.left g.D.Dice.count
    (rows_of c.args.settings.entries.0) c.args.bench.now.links c.args.bench.now.dice made
    c.publish.new.bench.links c.publish.new.bench.dice)
    (g.A.Acts.caller c.args.acts.now) (g.A.Acts.caller c.reload.new.acts)
    c.args.replica c.in-Ok.published c.in-Ok.ensures.published c.reload.result
    c.load_done.result c.reload.ensures.reloads c.load_done.ensures

pub returns-clause-exchanged : goal.returns-clause-exchanged
returns-clause-exchanged g c = talk_so (Among g.L.Kms.step) _ _ _ _
    c.in-Ok.ensures.exchanged (λ es published. reload_answered
    (λ made. PublishesBy g.D.Dice.left g.D.Dice.count (rows_of c.args.settings.entries.0)
    c.args.bench.now.dice made c.publish.new.bench.dice es)
    (g.A.Acts.caller c.args.acts.now) (g.A.Acts.caller c.reload.new.acts)
    c.args.replica c.in-Ok.published published c.reload.result
    c.load_done.result c.reload.ensures.reloads c.load_done.ensures)

pub returns-clause-idle : goal.returns-clause-idle
returns-clause-idle g c = c.reload.ensures.holds ∙ c.requires.idle
