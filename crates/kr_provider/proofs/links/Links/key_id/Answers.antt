-- `Links::key_id`: the link at the place of the name is asked, and the others stay.
use Rattle.kr_kms.specs.Health.{TellsKeyId, TellsKeyIdBy}
use Rattle.kr_provider.proofs.LinkPlaces.{asks_there, distinct_there, talks_there}
use Rattle.kr_provider.proofs.links.Links.key_id.Goals as goal

pub invariant_of-self : goal.invariant_of-self
invariant_of-self g c = distinct_there g.L.Kms.link c.args.name.now c.healthy_key_id.new.link
    c.self.view_is c.place-at.ensures.place c.index_mut.ensures.value c.healthy_key_id.ensures.same c.self.invariant

pub returns-clause-told : goal.returns-clause-told
returns-clause-told g c = asks_there g.L.Kms.link c.args.name.now c.healthy_key_id.new.link
    c.self.view_is c.place-at.ensures.place c.index_mut.ensures.value c.healthy_key_id.ensures.same
    (λ old new. TellsKeyId (g.L.Kms.link old) c.healthy_key_id.result (g.L.Kms.link new))
    c.healthy_key_id.ensures.told

pub returns-clause-exchanged : goal.returns-clause-exchanged
returns-clause-exchanged g c = talks_there g.L.Kms.link c.args.name.now c.healthy_key_id.new.link
    c.self.view_is c.place-at.ensures.place c.index_mut.ensures.value c.healthy_key_id.ensures.same g.L.Kms.step
    (λ n. TellsKeyIdBy n c.healthy_key_id.result) c.healthy_key_id.ensures.asked
