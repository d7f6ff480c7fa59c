-- `Bench::unseal_in_place`: the links serve the configuration still.
use Rattle.std.proofs.Common.{subst}
use Rattle.std.specs.Prelude.{IfSome}
use Rattle.kr_provider.specs.Publication.{list_at}
use Rattle.kr_provider.specs.Unsealing.{HeedsCache}
use Rattle.kr_base.specs.Walks.{Talk}
use Rattle.kr_provider.specs.AskedLinks.{Among}
use Rattle.kr_provider.specs.Exchanges.{ReadsBy}
use Rattle.kr_provider.proofs.BenchLinks.{unsealed_stay}
use Rattle.kr_provider.proofs.bench.Bench.unseal_in_place.Goals as goal

pub invariant_of-self : goal.invariant_of-self
invariant_of-self g c =
    unsealed_stay g.L.Kms.link c.args.resource.now c.args.path.now c.args.value
    c.self.inside.links c.unseal_for_resource.new.links c.self.inside.adoption.published
    c.unseal_for_resource.result c.unseal_for_resource.ensures.opened c.self.invariant

pub returns-clause-cached : goal.returns-clause-cached
returns-clause-cached g c = subst (λ b. IfSome b.published (λ p. HeedsCache b.cache.rows
    p.seeds (list_at p c.args.resource.now) c.args.path.now c.args.value b.links
    c.unseal_for_resource.result c.unseal_for_resource.new.links))
    c.self.view_is c.unseal_for_resource.ensures.cached

pub returns-clause-exchanged : goal.returns-clause-exchanged
returns-clause-exchanged g c = subst (λ b. IfSome b.published (λ p. Talk (Among g.L.Kms.step)
    b.links c.unseal_for_resource.new.links (ReadsBy p.seeds (list_at p c.args.resource.now)
    c.args.path.now c.args.value b.cache c.unseal_for_resource.result c.unseal_for_resource.new.cache)))
    c.self.view_is c.unseal_for_resource.ensures.exchanged
