-- `unseal_by_list`: the reader is the first whose prefix the value begins with.
use Rattle.std.proofs.Common.{◌≡◌, ◌-◌, ℕ, false, List, length, drop, Result, Ok, Err, sym, ap, nat_eq, subst, ◌∙◌}
use Rattle.std.specs.Prelude.{not}
use Rattle.kr_base.specs.Walks.{Talk}
use Rattle.kr_config.specs.Providers.{is_kms}
use Rattle.kr_provider.specs.AskedLinks.{Among}
use Rattle.kr_provider.specs.Envelopes.{unknown}
use Rattle.kr_provider.specs.Exchanges.{ReadsBy}
use Rattle.kr_provider.specs.Names.{names_of}
use Rattle.kr_provider.specs.Publication.{seed_of}
use Rattle.kr_provider.specs.Readers.{body_by, reader_place}
use Rattle.kr_provider.specs.Unsealing.{HeedsCache, UnsealsBy}
use Rattle.kr_provider.specs.inner.Sources.{IsReadBy}
use Rattle.kr_provider.specs.declared.refusal.Opened.{Opened}
use Rattle.kr_provider.specs.declared.refusal.UnsealNo.{UnsealNo}
use Rattle.kr_provider.specs.declared.refusal.UnsealNo.TheVariants.{Refused}
use Rattle.kr_provider.specs.declared.refusal.ValueNo.TheVariants as value
use Rattle.kr_provider.proofs.Cached.{key_heeds, unread_heeds}
use Rattle.kr_provider.proofs.Keys.{adopted_among}
use Rattle.kr_provider.proofs.Places.{bare_behind, body_behind, no_plugin, read_by, read_by_plugin, reader_reads, reader_within, unread}
use Rattle.kr_provider.proofs.PluginNames.{linked, unseeded}
use Rattle.kr_base.proofs.Walks.{talk_none}
use Rattle.kr_provider.proofs.OneReading.{IsNoPlugin}
use Rattle.kr_provider.proofs.ReadTalks.{read_bare}
use Rattle.kr_provider.proofs.Unsealings.{key_opens, key_refuses, no_reader}
use Rattle.kr_provider.proofs.values.unseal_by_list.Given.{Over}
use Rattle.kr_provider.proofs.values.unseal_by_list.Goals.{In_default-reader}
use Rattle.kr_provider.proofs.values.unseal_by_list.Goals as goal

pub unreachable-requires : goal.unreachable-requires
unreachable-requires g c =
    let reads = reader_reads c.args.list.now c.as_slice-bytes.result.now c.in-Some.place
    c.index-list-place.result (sym c.in-Some.ensures) c.index-list-place.is in
    let not = c.in_default-value_body.ensures in
    cc

pub unreachable-requires-in_default-plugin_seed : goal.unreachable-requires-in_default-plugin_seed
unreachable-requires-in_default-plugin_seed g c = unseeded c.args.seeds.now c.args.list.now
    c.in-Some.place c.index-list-place.result c.in-Kms.name c.as_str.result.now c.requires.seeds
    (reader_within c.args.list.now c.as_slice-bytes.result.now c.in-Some.place c.index-list-place.result
    (sym c.in-Some.ensures)) c.index-list-place.is c.in-Kms.is c.as_str.ensures
    c.in_default-plugin_seed.ensures

pub by_plugin-requires-clause-link : goal.by_plugin-requires-clause-link
by_plugin-requires-clause-link g c = linked (names_of g.L.Kms.link c.args.links.now)
    c.args.list.now c.in-Some.place c.index-list-place.result c.in-Kms.name
    c.as_str-in-Kms.result.now c.requires.links
    (reader_within c.args.list.now c.as_slice-bytes.result.now c.in-Some.place c.index-list-place.result
    (sym c.in-Some.ensures)) c.index-list-place.is c.in-Kms.is c.as_str-in-Kms.ensures

pub words-requires : goal.words-requires
words-requires g c = record {
  adopted = c.requires.adopted;
  among = adopted_among c.args.adoption.now.published c.args.list.now c.in-Some.place
      c.index-list-place.result c.requires.among
      (reader_within c.args.list.now c.as_slice-bytes.result.now c.in-Some.place c.index-list-place.result
      (sym c.in-Some.ensures)) c.index-list-place.is;
}

pub unseal_body-requires-clause-bare : goal.unseal_body-requires-clause-bare
unseal_body-requires-clause-bare g c = bare_behind c.index-list-place.result
    c.as_slice-bytes.result.now c.in-Some-value_body.body.now c.in-Some-value_body.ensures.1

pub returns-in_default : goal.returns-in_default
returns-in_default g c =
    let none = unread c.args.list.now c.args.value
    (ap (reader_place c.args.list.now) (sym c.as_slice-bytes.ensures) ∙ sym c.in_default.ensures) in
    let opened = no_reader g.L.Kms.link c.args.seeds.now c.args.list.now c.args.path.now c.args.value
    c.args.links.now none in
    record {
      opened = opened;
      cached = unread_heeds c.args.cache.now.rows c.args.seeds.now c.args.list.now c.args.path.now
          c.args.value c.args.links.now c.args.links.now (Err (Refused value.NoProvider)) none;
      exchanged = talk_none _ _ _ (read_bare c.args.seeds.now c.args.list.now c.args.path.now
          c.args.value c.args.cache.now g.L.Kms.link c.args.links.now
          (Err (Refused value.NoProvider)) (subst IsNoPlugin (sym none) tt) opened);
    }

pub returns-in-Some-plugin_seed : goal.returns-in-Some-plugin_seed
returns-in-Some-plugin_seed g c =
    let seed = ap (λ n. seed_of n c.args.seeds.now) (c.as_str-in-Kms.ensures ∙ sym c.as_str.ensures)
    ∙ c.in-Some-plugin_seed.ensures in
    let reads = read_by_plugin c.args.list.now c.args.value c.in-Some-value_body.body.now c.in-Some.place
    c.index-list-place.result c.in-Kms.name c.as_str-in-Kms.result.now c.requires.list.some
    (ap (reader_place c.args.list.now) (sym c.as_slice-bytes.ensures) ∙ sym c.in-Some.ensures)
    c.index-list-place.is
    (c.in-Some-value_body.ensures.1 ∙ ap (body_by c.index-list-place.result) c.as_slice-bytes.ensures)
    c.in-Kms.is c.as_str-in-Kms.ensures in
    record {
      opened = c.by_plugin.ensures.opened c.args.seeds.now c.args.list.now c.args.value seed reads;
      cached = c.by_plugin.ensures.cached c.args.seeds.now c.args.list.now c.args.value seed reads;
      exchanged = c.by_plugin.ensures.exchanged c.args.seeds.now c.args.list.now c.args.value seed
          reads;
    }

-- the body as its reader has it
abbrev body_at : (g : Over) → In_default-reader g → List ℕ
body_at g c = drop (length c.as_slice-bytes.result.now - length c.in-Some-value_body.body.now)
    c.args.value

-- a provider that is no plugin reads: no talk is had, and the cache is heeded
bare : (g : Over) (c : In_default-reader g) (result : Result Opened UnsealNo)
    → (is_kms c.index-list-place.result ≡ false
    → IsReadBy c.args.list.now c.args.value c.index-list-place.result (body_at g c)
    (nat_eq c.in-Some.place 0)
    → UnsealsBy g.L.Kms.link c.args.seeds.now c.args.list.now c.args.path.now c.args.value
    c.args.links.now result c.args.links.now)
    → UnsealsBy g.L.Kms.link c.args.seeds.now c.args.list.now c.args.path.now c.args.value
    c.args.links.now result c.args.links.now
    × HeedsCache c.args.cache.now.rows c.args.seeds.now c.args.list.now c.args.path.now
    c.args.value c.args.links.now result c.args.links.now
    × Talk (Among g.L.Kms.step) c.args.links.now c.args.links.now (ReadsBy c.args.seeds.now
    c.args.list.now c.args.path.now c.args.value c.args.cache.now result c.args.cache.now)
bare g c result by =
    let who = c.index-list-place.result in
    let kms = no_plugin who c.in_default-reader.not-Kms in
    let reads = read_by c.args.list.now c.args.value (body_at g c) c.in-Some.place who
    c.requires.list.some
    (ap (reader_place c.args.list.now) (sym c.as_slice-bytes.ensures) ∙ sym c.in-Some.ensures)
    c.index-list-place.is (body_behind who c.as_slice-bytes.result.now c.in-Some-value_body.body.now
    c.args.value c.as_slice-bytes.ensures c.in-Some-value_body.ensures.1) in
    let opened = by kms reads in (
      opened,
      key_heeds c.args.cache.now.rows c.args.seeds.now c.args.list.now c.args.path.now c.args.value
          c.args.links.now c.args.links.now who (body_at g c) (nat_eq c.in-Some.place 0) result kms
          reads,
      talk_none _ _ _ (read_bare c.args.seeds.now c.args.list.now c.args.path.now c.args.value
          c.args.cache.now g.L.Kms.link c.args.links.now result
          (subst IsNoPlugin (sym reads.reader) kms) opened),
    )

pub returns-in-Ok : goal.returns-in-Ok
returns-in-Ok g c =
    let r = bare g (goal.at.returns-in-Ok g c).In_default-reader
    (Ok (record { plain = c.in-Ok.plain; stale = not (nat_eq c.in-Some.place 0) }))
    (λ kms reads. key_opens g.L.Kms.link c.args.seeds.now c.args.list.now c.args.path.now c.args.value
    c.args.links.now _ _ _ c.in-Ok.plain kms reads (c.in-Ok.ensures unknown)) in
    record { opened = r.0; cached = r.1; exchanged = r.2 }

pub returns-in-Err : goal.returns-in-Err
returns-in-Err g c =
    let r = bare g (goal.at.returns-in-Err g c).In_default-reader (Err c.in-Err.why)
    (λ kms reads. key_refuses g.L.Kms.link c.args.seeds.now c.args.list.now c.args.path.now
    c.args.value c.args.links.now _ _ _ c.in-Err.why kms reads (c.in-Err.ensures unknown)) in
    record { opened = r.0; cached = r.1; exchanged = r.2 }
