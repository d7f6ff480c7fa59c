-- `open_source`: what a fetch through the cache tells.
use Rattle.std.proofs.Common.{[], ◌∷◌, Ok, Err, ap, inl, inr, refl, rules, subst}
use Rattle.kr_base.specs.Walks.{Talk}
use Rattle.kr_base.proofs.Walks.{talk_none, talk_so}
use Rattle.kr_kms.specs.Cache.{FetchesBy}
use Rattle.kr_provider.specs.AskedLinks.{Among}
use Rattle.kr_provider.specs.Envelopes.{seed_key}
use Rattle.kr_provider.specs.declared.refusal.UnsealNo.TheVariants.{PluginFailed}
use Rattle.kr_kms.specs.declared.plugin.KmsNo.TheVariants as kms
use Rattle.kr_provider.proofs.AskedLists.{asked_none}
use Rattle.kr_provider.proofs.Cached.{fetched_kept}
use Rattle.kr_provider.proofs.ObjectSources.{IsFetched, fetched_asks, fetched_fails}
use Rattle.kr_provider.proofs.values.open_source.Goals as goal

pub returns-in-Ok-fetch-clause-opened : goal.returns-in-Ok-fetch-clause-opened
returns-in-Ok-fetch-clause-opened g c = fetched_asks g.L.Kms.link c.args.name.now
    c.args.object.now c.args.links.now c.fetch.new.self c.args.cache.now c.fetch.new.cache _
    c.in-Ok-fetch.ensures.fetched

pub returns-in-Err-NoMemory-clause-opened : goal.returns-in-Err-NoMemory-clause-opened
returns-in-Err-NoMemory-clause-opened g c = fetched_asks g.L.Kms.link c.args.name.now
    c.args.object.now c.args.links.now c.fetch.new.self c.args.cache.now c.fetch.new.cache _
    c.in-Err-NoMemory.ensures.fetched

pub returns-in-Err-Failed-clause-opened : goal.returns-in-Err-Failed-clause-opened
returns-in-Err-Failed-clause-opened g c = fetched_fails g.L.Kms.link c.args.name.now
    c.args.object.now c.args.links.now c.fetch.new.self c.args.cache.now c.fetch.new.cache
    c.in-Ok.asked c.in-Ok.ensures
    (subst (λ w. IsFetched g.L.Kms.link c.args.name.now c.args.object.now
    c.args.links.now c.fetch.new.self c.args.cache.now c.fetch.new.cache (Err w))
    c.in-Err-Failed.field-0-is c.in-Err-Failed.ensures.fetched)

pub returns-in-Ok-fetch-clause-cached : goal.returns-in-Ok-fetch-clause-cached
returns-in-Ok-fetch-clause-cached g c = fetched_kept g.L.Kms.link
    c.args.name.now c.args.object.now c.args.links.now c.fetch.new.self c.args.cache.now
    c.fetch.new.cache (Ok c.in-Ok-fetch.source) c.in-Ok-fetch.ensures.fetched

pub returns-in-Err-NoMemory-clause-cached : goal.returns-in-Err-NoMemory-clause-cached
returns-in-Err-NoMemory-clause-cached g c = λ source is. (
  (fetched_kept g.L.Kms.link
      c.args.name.now c.args.object.now c.args.links.now c.fetch.new.self c.args.cache.now
      c.fetch.new.cache c.fetch.result c.fetch.ensures.fetched source is).0,
  tt,
)

pub returns-in-Err-Failed-clause-cached : goal.returns-in-Err-Failed-clause-cached
returns-in-Err-Failed-clause-cached g c = λ source is. absurd ((fetched_kept g.L.Kms.link
    c.args.name.now c.args.object.now c.args.links.now c.fetch.new.self c.args.cache.now
    c.fetch.new.cache (Err kms.Failed)
    (subst (λ w. IsFetched g.L.Kms.link c.args.name.now c.args.object.now
    c.args.links.now c.fetch.new.self c.args.cache.now c.fetch.new.cache (Err w))
    c.in-Err-Failed.field-0-is c.in-Err-Failed.ensures.fetched) source is).1)

pub returns-in-Ok-fetch-clause-exchanged : goal.returns-in-Ok-fetch-clause-exchanged
returns-in-Ok-fetch-clause-exchanged g c = talk_so _ _ _ _ _ c.in-Ok-fetch.ensures.exchanged (λ es fetches.
    inr (Ok c.in-Ok-fetch.source, fetches, refl))

pub returns-in-Err-NoMemory-clause-exchanged : goal.returns-in-Err-NoMemory-clause-exchanged
returns-in-Err-NoMemory-clause-exchanged g c =
    let asked : Talk (Among g.L.Kms.step) c.args.links.now c.fetch.new.self
    (FetchesBy (seed_key c.args.name.now c.args.object.now) c.args.cache.now (Err kms.NoMemory)
    c.fetch.new.cache) = search rules in
    talk_so _ _ _ _ _ asked (λ es fetches. inr (Err kms.NoMemory, fetches, refl))

pub returns-in-Err-Failed-clause-exchanged : goal.returns-in-Err-Failed-clause-exchanged
returns-in-Err-Failed-clause-exchanged g c =
    let asked : Talk (Among g.L.Kms.step) c.args.links.now c.fetch.new.self
    (FetchesBy (seed_key c.args.name.now c.args.object.now) c.args.cache.now (Err kms.Failed)
    c.fetch.new.cache) = search rules in
    talk_so _ _ _ _ _ asked (λ es fetches. inr (
      Err kms.Failed,
      fetches,
      ap (λ n. Err (PluginFailed n)) c.in-Ok.ensures,
    ))

pub returns-in-Err-clause-exchanged : goal.returns-in-Err-clause-exchanged
returns-in-Err-clause-exchanged g c = talk_none _ _ _ (inl (refl, refl, refl))

pub returns-in-Err-clause-opened : goal.returns-in-Err-clause-opened
returns-in-Err-clause-opened g c = asked_none g.L.Kms.link (c.args.name.now ∷ []) c.args.links.now
