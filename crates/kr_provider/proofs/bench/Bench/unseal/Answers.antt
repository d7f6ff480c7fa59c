-- `Bench::unseal`: the copy is the value.
use Rattle.std.proofs.Common.{subst}
use Rattle.std.specs.Prelude.{IfSome}
use Rattle.kr_provider.specs.Publication.{list_at}
use Rattle.kr_provider.specs.Unsealing.{HeedsCache}
use Rattle.kr_base.specs.Walks.{Talk}
use Rattle.kr_provider.specs.AskedLinks.{Among}
use Rattle.kr_provider.specs.Exchanges.{ReadsBy}
use Rattle.kr_provider.proofs.BenchLinks.{uncopied}
use Rattle.kr_provider.proofs.ReadTalks.{uncopied_talk}
use Rattle.kr_provider.proofs.bench.Bench.unseal.Goals as goal

pub returns-in-Ok-clause-cached : goal.returns-in-Ok-clause-cached
returns-in-Ok-clause-cached g c = subst (λ bytes. IfSome c.args.self.now.published
    (λ p. HeedsCache c.args.self.now.cache.rows p.seeds (list_at p c.args.resource.now)
    c.args.path.now bytes c.args.self.now.links c.unseal_in_place.result
    c.unseal_in_place.new.self.links)) c.in-Ok.ensures c.unseal_in_place.ensures.cached

pub returns-in-Err-clause-opened : goal.returns-in-Err-clause-opened
returns-in-Err-clause-opened g c = uncopied g.L.Kms.link c.args.resource.now
    c.args.path.now c.args.bytes.now c.args.self.now.links c.args.self.now.published

pub returns-in-Ok-clause-exchanged : goal.returns-in-Ok-clause-exchanged
returns-in-Ok-clause-exchanged g c = subst (λ bytes. IfSome c.args.self.now.published
    (λ p. Talk (Among g.L.Kms.step) c.args.self.now.links c.unseal_in_place.new.self.links (ReadsBy
    p.seeds (list_at p c.args.resource.now) c.args.path.now bytes c.args.self.now.cache
    c.unseal_in_place.result c.unseal_in_place.new.self.cache))) c.in-Ok.ensures
    c.unseal_in_place.ensures.exchanged

pub returns-in-Err-clause-exchanged : goal.returns-in-Err-clause-exchanged
returns-in-Err-clause-exchanged g c = uncopied_talk (Among g.L.Kms.step) c.args.resource.now
    c.args.path.now c.args.bytes.now c.args.self.now.links c.args.self.now.cache
    c.args.self.now.published
