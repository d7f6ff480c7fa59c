-- `Links::make_seed`: the link at the place of the name is asked, and the others stay.
use Rattle.kr_kms.specs.Seeds.{MakesSeed, MakesSeedBy}
use Rattle.kr_provider.proofs.LinkPlaces.{asks_there, distinct_there, talks_there}
use Rattle.kr_provider.proofs.links.Links.make_seed.Goals as goal

pub invariant_of-self : goal.invariant_of-self
invariant_of-self g c = distinct_there g.L.Kms.link c.args.name.now c.make_seed.new.link
    c.self.view_is c.place-at.ensures.place c.index_mut.ensures.value c.make_seed.ensures.same c.self.invariant

pub returns-clause-made : goal.returns-clause-made
returns-clause-made g c = asks_there g.L.Kms.link c.args.name.now c.make_seed.new.link
    c.self.view_is c.place-at.ensures.place c.index_mut.ensures.value c.make_seed.ensures.same
    (λ old new. MakesSeed g.D.Dice.left g.D.Dice.count (g.L.Kms.link old) c.args.dice.now
    c.make_seed.result (g.L.Kms.link new) c.make_seed.new.dice) c.make_seed.ensures.made

pub returns-clause-exchanged : goal.returns-clause-exchanged
returns-clause-exchanged g c = talks_there g.L.Kms.link c.args.name.now c.make_seed.new.link
    c.self.view_is c.place-at.ensures.place c.index_mut.ensures.value c.make_seed.ensures.same g.L.Kms.step
    (λ n. MakesSeedBy g.D.Dice.left g.D.Dice.count n c.args.dice.now c.make_seed.result
    c.make_seed.new.dice) c.make_seed.ensures.asked

pub returns-clause-later : goal.returns-clause-later
returns-clause-later g c = c.make_seed.ensures.later
