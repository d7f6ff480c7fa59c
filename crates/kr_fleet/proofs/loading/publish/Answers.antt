-- `publish`: what was published is shared, or isn't.
use Rattle.std.proofs.Common.{Ok, inl, inr, refl, subst, sym}
use Rattle.kr_base.specs.Walks.{Talk}
use Rattle.kr_base.proofs.Walks.{talk_so}
use Rattle.kr_config.specs.Kept.{rows_of}
use Rattle.kr_provider.specs.AskedLinks.{Among}
use Rattle.kr_provider.specs.Exchanges.{PublishesBy}
use Rattle.kr_provider.specs.Publishing.{Publishes}
use Rattle.kr_fleet.proofs.loading.publish.Goals as goal

pub returns-in-Err-clause-published : goal.returns-in-Err-clause-published
returns-in-Err-clause-published g c =
    inl (c.in-Err.why, c.publish_refusal.ensures, c.in-Err.ensures.published)

pub returns-in-Ok-new-clause-published : goal.returns-in-Ok-new-clause-published
returns-in-Ok-new-clause-published g c = subst
    (λ p. Publishes g.L.Kms.link g.D.Dice.left g.D.Dice.count
    (rows_of c.args.settings.entries.0) c.args.bench.now.links c.args.bench.now.dice (Ok p)
    c.publish.new.self.links c.publish.new.self.dice)
    (sym c.in-Ok-new.ensures.ok) c.in-Ok.ensures.published

pub returns-in-Err-new-clause-published : goal.returns-in-Err-new-clause-published
returns-in-Err-new-clause-published g c =
    inr (c.in-Ok.published, refl, c.in-Ok.ensures.published)

pub returns-in-Err-clause-exchanged : goal.returns-in-Err-clause-exchanged
returns-in-Err-clause-exchanged g c = talk_so (Among g.L.Kms.step) _ _ _ _
    c.in-Err.ensures.exchanged (λ es none. inl (c.in-Err.why, c.publish_refusal.ensures, none))

pub returns-in-Ok-new-clause-exchanged : goal.returns-in-Ok-new-clause-exchanged
returns-in-Ok-new-clause-exchanged g c = subst
    (λ p. Talk (Among g.L.Kms.step) c.args.bench.now.links c.publish.new.self.links (PublishesBy
    g.D.Dice.left g.D.Dice.count (rows_of c.args.settings.entries.0) c.args.bench.now.dice (Ok p)
    c.publish.new.self.dice)) (sym c.in-Ok-new.ensures.ok) c.in-Ok.ensures.exchanged

pub returns-in-Err-new-clause-exchanged : goal.returns-in-Err-new-clause-exchanged
returns-in-Err-new-clause-exchanged g c = talk_so (Among g.L.Kms.step) _ _ _ _
    c.in-Ok.ensures.exchanged (λ es published. inr (c.in-Ok.published, refl, published))
