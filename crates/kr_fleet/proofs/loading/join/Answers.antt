-- `join`: what was brought is what was answered.
use Rattle.std.proofs.Common.{[], refl, subst, sym, ◌∙◌}
use Rattle.kr_config.specs.Kept.{rows_of}
use Rattle.kr_base.proofs.Walks.{talk_so}
use Rattle.kr_provider.specs.AskedLinks.{Among}
use Rattle.kr_provider.specs.Exchanges.{PublishesBy}
use Rattle.kr_provider.specs.Names.{names_of}
use Rattle.kr_provider.specs.Publishing.{Publishes}
use Rattle.kr_rollout.specs.declared.event.Event.TheVariants as event
use Rattle.kr_rollout.specs.Openings.{NamesAmong}
use Rattle.kr_history.proofs.Nexts.{serves}
use Rattle.kr_history.proofs.PartsAdd.{nothing_within}
use Rattle.kr_fleet.proofs.LoadAnswers.{join_answered, not_joined, not_shared}
use Rattle.kr_fleet.proofs.loading.join.Goals as goal

pub publish-requires : goal.publish-requires
publish-requires g c = record {
  links = serves (g.A.Acts.caller c.args.acts.now).opening.names
      (names_of g.L.Kms.link c.args.bench.now.links) (rows_of c.args.settings.entries.0)
      c.requires.links c.requires.names;
}

pub returns-in-Err-clause-joins : goal.returns-in-Err-clause-joins
returns-in-Err-clause-joins g c = not_joined (λ made. Publishes g.L.Kms.link g.D.Dice.left g.D.Dice.count
    (rows_of c.args.settings.entries.0) c.args.bench.now.links c.args.bench.now.dice made
    c.publish.new.bench.links c.publish.new.bench.dice)
    (g.A.Acts.caller c.args.acts.now) (g.A.Acts.caller c.args.acts.now) c.args.replica c.in-Err.why
    (not_shared (λ made. Publishes g.L.Kms.link g.D.Dice.left g.D.Dice.count
    (rows_of c.args.settings.entries.0) c.args.bench.now.links c.args.bench.now.dice made
    c.publish.new.bench.links c.publish.new.bench.dice)
    (g.A.Acts.caller c.args.acts.now) (g.A.Acts.caller c.args.acts.now)
    (event.Join c.args.replica) c.args.replica c.in-Err.why refl c.in-Err.ensures.published)

pub returns-in-Err-clause-exchanged : goal.returns-in-Err-clause-exchanged
returns-in-Err-clause-exchanged g c = talk_so (Among g.L.Kms.step) _ _ _ _
    c.in-Err.ensures.exchanged (λ es none. not_joined (λ made. PublishesBy g.D.Dice.left g.D.Dice.count (rows_of c.args.settings.entries.0)
    c.args.bench.now.dice made c.publish.new.bench.dice es)
    (g.A.Acts.caller c.args.acts.now) (g.A.Acts.caller c.args.acts.now) c.args.replica c.in-Err.why
    (not_shared (λ made. PublishesBy g.D.Dice.left g.D.Dice.count (rows_of c.args.settings.entries.0)
    c.args.bench.now.dice made c.publish.new.bench.dice es)
    (g.A.Acts.caller c.args.acts.now) (g.A.Acts.caller c.args.acts.now)
    (event.Join c.args.replica) c.args.replica c.in-Err.why refl none))

pub returns-in-Err-clause-adds : goal.returns-in-Err-clause-adds
returns-in-Err-clause-adds g c = nothing_within 1 1 [] (g.A.Acts.caller c.args.acts.now)

pub join-requires-clause-names : goal.join-requires-clause-names
join-requires-clause-names g c =
    subst (NamesAmong (g.A.Acts.caller c.args.acts.now).opening.names)
    (sym c.in-Ok.ensures.published.0) c.requires.names

pub returns-clause-joins : goal.returns-clause-joins
returns-clause-joins g c = join_answered
    (λ made. Publishes g.L.Kms.link g.D.Dice.left g.D.Dice.count
    (rows_of c.args.settings.entries.0) c.args.bench.now.links c.args.bench.now.dice made
    c.publish.new.bench.links c.publish.new.bench.dice)
    (g.A.Acts.caller c.args.acts.now) (g.A.Acts.caller c.join.new.acts)
    c.args.replica c.in-Ok.published c.in-Ok.ensures.published c.join.result
    c.join.ensures.joins

pub returns-clause-exchanged : goal.returns-clause-exchanged
returns-clause-exchanged g c = talk_so (Among g.L.Kms.step) _ _ _ _
    c.in-Ok.ensures.exchanged (λ es published. join_answered
    (λ made. PublishesBy g.D.Dice.left g.D.Dice.count (rows_of c.args.settings.entries.0)
    c.args.bench.now.dice made c.publish.new.bench.dice es)
    (g.A.Acts.caller c.args.acts.now) (g.A.Acts.caller c.join.new.acts)
    c.args.replica c.in-Ok.published published c.join.result
    c.join.ensures.joins)

pub returns-clause-idle : goal.returns-clause-idle
returns-clause-idle g c = c.join.ensures.holds ∙ c.requires.idle
