-- `make_one`: the refusal is that of the plugin of the name.
use Rattle.std.proofs.Common.{ℕ, List, Ok, Err, refl, ap, ◌∙◌, inr}
use Rattle.kr_base.proofs.Walks.{talk_none}
use Rattle.kr_kms.specs.Seeds.{MakesSeedBy}
use Rattle.kr_provider.specs.AskedLinks.{Among}
use Rattle.kr_provider.specs.declared.refusal.PublishNo.TheVariants.{NoMemory}
use Rattle.kr_provider.specs.Exchanges.{plugin_refusal}
use Rattle.kr_provider.specs.inner.Making.{MakesOneBy}
use Rattle.kr_provider.proofs.LinkTalks.{refused_at, told_at}
use Rattle.kr_provider.proofs.Makings.{answers_at}
use Rattle.kr_provider.proofs.making.make_one.Goals as goal

pub returns-in_default-clause-made : goal.returns-in_default-clause-made
returns-in_default-clause-made g c = inr (refl, refl)

pub returns-in_default-clause-exchanged : goal.returns-in_default-clause-exchanged
returns-in_default-clause-exchanged g c = talk_none (Among g.L.Kms.step)
    (MakesOneBy g.D.Dice.left g.D.Dice.count c.args.name.now c.args.dice.now (Err NoMemory)
    c.args.dice.now) c.args.links.now (inr (refl, refl, refl))

pub returns-in-Err-clause-made : goal.returns-in-Err-clause-made
returns-in-Err-clause-made g c = answers_at g.L.Kms.link g.D.Dice.left g.D.Dice.count
    c.args.name.now c.args.links.now c.args.dice.now c.in-Err.why c.plugin_refusal.result
    c.make_seed.new.self c.make_seed.new.dice
    (c.plugin_refusal.ensures ∙ ap (λ (n : List ℕ). plugin_refusal n c.in-Err.why) c.in-Ok.ensures)
    c.in-Err.ensures.made

pub returns-in-Ok-make_seed-clause-exchanged : goal.returns-in-Ok-make_seed-clause-exchanged
returns-in-Ok-make_seed-clause-exchanged g c = told_at c.args.name.now (Ok c.in-Ok-make_seed.row) _
    (λ answer. MakesSeedBy g.D.Dice.left g.D.Dice.count c.args.name.now c.args.dice.now answer
    c.make_seed.new.dice) refl c.in-Ok-make_seed.ensures.exchanged

pub returns-in-Err-clause-exchanged : goal.returns-in-Err-clause-exchanged
returns-in-Err-clause-exchanged g c = refused_at c.args.name.now (Err c.in-Err.why) _
    (λ answer. MakesSeedBy g.D.Dice.left g.D.Dice.count c.args.name.now c.args.dice.now answer
    c.make_seed.new.dice) _
    (c.plugin_refusal.ensures ∙ ap (λ (n : List ℕ). plugin_refusal n c.in-Err.why) c.in-Ok.ensures)
    c.in-Err.ensures.exchanged
