-- `unseal_object`: the source is the published seed, or what the plugin unwraps.
use Rattle.std.proofs.Common.{◌∙◌, refl, sym, subst, rules}
use Rattle.kr_kms.specs.Opens.{key_of}
use Rattle.kr_kms.proofs.Keys.{same_key}
use Rattle.kr_provider.specs.Envelopes.{seed_key}
use Rattle.kr_provider.specs.Reading.{source_reading}
use Rattle.kr_provider.specs.inner.Sources.{Gives}
use Rattle.kr_base.proofs.Walks.{talk_none, talk_so}
use Rattle.kr_provider.specs.inner.Sources.{by_published}
use Rattle.kr_provider.proofs.Cached.{source_lacks, source_serves}
use Rattle.kr_provider.proofs.ReadTalks.{data_fetched, none_fetched}
use Rattle.kr_provider.proofs.ObjectSources.{another_seed, seed_taken, source_fails, source_opened}
use Rattle.kr_provider.proofs.values.unseal_object.Goals as goal

pub returns-then-is_object_seed-clause-opened : goal.returns-then-is_object_seed-clause-opened
returns-then-is_object_seed-clause-opened g c = seed_taken g.L.Kms.link c.args.row.now
    c.args.name.now c.args.object c.args.path.now c.args.links.now c.by_source.result
    ((same_key (key_of c.args.row.now) (seed_key c.args.name.now c.args.object)).0
    (sym c.is_object_seed.ensures ∙ c.if-is_object_seed.true))
    (subst (λ r. Gives r c.by_source.result) (λ i. source_reading c.args.object.kind
    (c.as_slice.ensures i) c.args.path.now c.args.object.encrypted) c.by_source.ensures)

pub returns-in_err-source-clause-opened : goal.returns-in_err-source-clause-opened
returns-in_err-source-clause-opened g c = let stop = source_fails g.L.Kms.link c.args.row.now
    c.args.name.now c.args.object c.args.path.now c.args.links.now c.open_source.new.links
    c.in_err-source.field-0.0
    (another_seed c.args.row.now c.args.name.now c.args.object c.is_object_seed.result
    c.is_object_seed.ensures c.if-is_object_seed.false) c.in_err-source.ensures.opened in search (rules, stop)

pub returns-clause-opened : goal.returns-clause-opened
returns-clause-opened g c = source_opened g.L.Kms.link c.args.row.now
    c.args.name.now c.args.object c.args.path.now c.args.links.now c.open_source.new.links
    c.in_ok-source.source c.by_source-2.result
    (another_seed c.args.row.now c.args.name.now c.args.object c.is_object_seed.result
    c.is_object_seed.ensures c.if-is_object_seed.false) c.in_ok-source.ensures.opened
    (subst (λ r. Gives r c.by_source-2.result) (λ i. source_reading c.args.object.kind
    (c.as_slice-2.ensures i) c.args.path.now c.args.object.encrypted)
    c.by_source-2.ensures)

pub returns-then-is_object_seed-clause-cached : goal.returns-then-is_object_seed-clause-cached
returns-then-is_object_seed-clause-cached g c = λ source is. (
  refl,
  λ other. absurd (other ((same_key (key_of c.args.row.now)
      (seed_key c.args.name.now c.args.object)).0
      (sym c.is_object_seed.ensures ∙ c.if-is_object_seed.true))),
)

pub returns-in_err-source-clause-cached : goal.returns-in_err-source-clause-cached
returns-in_err-source-clause-cached g c = λ source is.
    let kept = c.in_err-source.ensures.cached source is in (
      kept.0,
      λ other. let stop = source_lacks c.args.object c.args.path.now source c.in_err-source.field-0.0 kept.1 in search (rules, stop),
    )

pub returns-clause-cached : goal.returns-clause-cached
returns-clause-cached g c = λ source is.
    let kept = c.in_ok-source.ensures.cached source is in (
      kept.0,
      λ other. source_serves c.args.object c.args.path.now source c.in_ok-source.source
          c.by_source-2.result kept.1
          (subst (λ r. Gives r c.by_source-2.result) (λ i. source_reading c.args.object.kind
          (c.as_slice-2.ensures i) c.args.path.now c.args.object.encrypted)
          c.by_source-2.ensures),
    )

pub returns-then-is_object_seed-clause-exchanged : goal.returns-then-is_object_seed-clause-exchanged
returns-then-is_object_seed-clause-exchanged g c = talk_none _ _ _ (by_published
    ((same_key (key_of c.args.row.now) (seed_key c.args.name.now c.args.object)).0
    (sym c.is_object_seed.ensures ∙ c.if-is_object_seed.true))
    (subst (λ r. Gives r c.by_source.result) (λ i. source_reading c.args.object.kind
    (c.as_slice.ensures i) c.args.path.now c.args.object.encrypted) c.by_source.ensures) refl)

pub returns-in_err-source-clause-exchanged : goal.returns-in_err-source-clause-exchanged
returns-in_err-source-clause-exchanged g c =
    let stop = talk_so _ _ _ _ _ c.in_err-source.ensures.exchanged (λ es opens.
    none_fetched c.args.row.now c.args.name.now c.args.object c.args.path.now c.args.cache.now
    c.open_source.new.cache es
    (another_seed c.args.row.now c.args.name.now c.args.object c.is_object_seed.result
    c.is_object_seed.ensures c.if-is_object_seed.false) c.in_err-source.field-0.0 opens) in search (rules, stop)

pub returns-clause-exchanged : goal.returns-clause-exchanged
returns-clause-exchanged g c = talk_so _ _ _ _ _ c.in_ok-source.ensures.exchanged (λ es opens.
    data_fetched c.args.row.now c.args.name.now c.args.object c.args.path.now c.args.cache.now
    c.open_source.new.cache es
    (another_seed c.args.row.now c.args.name.now c.args.object c.is_object_seed.result
    c.is_object_seed.ensures c.if-is_object_seed.false) c.in_ok-source.source c.by_source-2.result opens
    (subst (λ r. Gives r c.by_source-2.result) (λ i. source_reading c.args.object.kind
    (c.as_slice-2.ensures i) c.args.path.now c.args.object.encrypted)
    c.by_source-2.ensures))
