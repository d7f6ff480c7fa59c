-- `Links::fetch`: the link at the place of the name is asked, and the others stay.
use Rattle.std.proofs.Common.{◌∙◌, ap, subst}
use Rattle.std.specs.Prelude.{position}
use Rattle.std.specs.Str.{bytes_eq}
use Rattle.kr_kms.specs.Calls.{asked_key}
use Rattle.kr_kms.specs.Cache.{Fetches}
use Rattle.kr_provider.proofs.AskedLists.{place_named}
use Rattle.kr_base.specs.Walks.{Talk}
use Rattle.kr_kms.specs.Cache.{FetchesBy}
use Rattle.kr_provider.proofs.LinkPlaces.{asks_there, distinct_there, talks_there}
use Rattle.kr_provider.proofs.links.Links.fetch.Goals as goal

pub invariant_of-self : goal.invariant_of-self
invariant_of-self g c = distinct_there g.L.Kms.link c.args.name.now c.fetch.new.link c.self.view_is
    c.place-at.ensures.place c.index_mut.ensures.value
    c.fetch.ensures.fetched.asks.same c.self.invariant

pub returns-clause-fetched : goal.returns-clause-fetched
returns-clause-fetched g c = asks_there g.L.Kms.link c.args.name.now c.fetch.new.link c.self.view_is
    c.place-at.ensures.place c.index_mut.ensures.value
    c.fetch.ensures.fetched.asks.same (λ old new. Fetches g.L.Kms.link old c.args.cache.now
    (asked_key c.args.name.now c.args.object.now.key_id c.args.object.now.annotations
    c.args.object.now.source) c.fetch.result new c.fetch.new.self)
    (subst (λ k. Fetches g.L.Kms.link c.index_mut.result.now c.args.cache.now k c.fetch.result
    c.fetch.new.link c.fetch.new.self) (λ i. asked_key
    (place_named g.L.Kms.link c.args.name.now c.self.inside.items.items c.place-at.result
    c.index_mut.result.now (ap (position (λ l. bytes_eq (g.L.Kms.link l).name c.args.name.now))
    c.self.view_is ∙ c.place-at.ensures.place)
    c.index_mut.ensures.value i) (c.as_str.ensures i) c.args.object.now.annotations
    (c.as_slice.ensures i)) c.fetch.ensures.fetched)

pub returns-clause-exchanged : goal.returns-clause-exchanged
returns-clause-exchanged g c = talks_there g.L.Kms.link c.args.name.now c.fetch.new.link
    c.self.view_is c.place-at.ensures.place c.index_mut.ensures.value c.fetch.ensures.fetched.asks.same g.L.Kms.step
    (λ n. FetchesBy (asked_key n c.args.object.now.key_id c.args.object.now.annotations
    c.args.object.now.source) c.args.cache.now c.fetch.result c.fetch.new.self)
    (subst (λ k. Talk g.L.Kms.step c.index_mut.result.now c.fetch.new.link
    (FetchesBy k c.args.cache.now c.fetch.result c.fetch.new.self))
    (λ i. asked_key (g.L.Kms.link c.index_mut.result.now).name (c.as_str.ensures i)
    c.args.object.now.annotations (c.as_slice.ensures i)) c.fetch.ensures.asked)
