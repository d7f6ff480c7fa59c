-- A kept seed, or the link's answer.
use Rattle.std.proofs.Common.{Ok, Err, inl, subst, ◌∙◌, [], refl, rules}
use Rattle.kr_base.proofs.Walks.{talk_none, talk_one}
use Rattle.kr_kms.specs.Cache.{Fetches, FetchesBy, kept, no_memory, unwrapped}
use Rattle.kr_kms.specs.Calls.{asked_key}
use Rattle.kr_kms.specs.inner.Keeping.{AreAmongWith, IsPut}
use Rattle.kr_kms.proofs.Fetching.{asked_of, none_kept, gives_kept, gives_answer, rows_with, is_kept}
use Rattle.kr_kms.proofs.cache.SeedCache.fetch.Goals as goal

pub returns-in-Some-clause-fetched : goal.returns-in-Some-clause-fetched
returns-in-Some-clause-fetched g c =
    let link = g.L.Kms.link in
    let old = c.args.link.now in
    let same = asked_of c.name.result.now (link old).name c.args.key_id.now c.args.annotations.now
    c.args.source.now c.in-Ok.ensures c.name.ensures in
    let copied = c.copy_kept_seed.ensures in
    subst (λ key. Fetches link old c.args.self.now key c.in-Some.kept old
    c.copy_kept_seed.new.self) same
    (gives_kept link old c.args.self.now c.copy_kept_seed.new.self c.in-Ok.key
    c.in-Some.kept c.in-Some.ensures.found copied.rows copied.size copied.fits)

pub returns-in-Err-clause-fetched : goal.returns-in-Err-clause-fetched
returns-in-Err-clause-fetched g c =
    let link = g.L.Kms.link in
    let old = c.args.link.now in
    let rows = c.args.self.now.rows in
    let same = asked_of c.name.result.now (link old).name c.args.key_id.now c.args.annotations.now
    c.args.source.now c.in-Ok.ensures c.name.ensures in
    let none = none_kept rows same c.in_default-copy_kept_seed.ensures.found in
    let copied = c.copy_kept_seed.ensures in
    let stop = gives_answer link old c.unwrap_source.new.self c.args.self.now
    c.copy_kept_seed.new.self c.args.key_id.now c.args.annotations.now c.args.source.now
    (Err c.in-Err.why) none c.in-Err.ensures.unwraps
    (λ other seed there. inl (copied.rows other seed there)) copied.size copied.fits in search (rules, stop)

pub returns-in-Ok-unwrap_source-clause-fetched : goal.returns-in-Ok-unwrap_source-clause-fetched
returns-in-Ok-unwrap_source-clause-fetched g c =
    let link = g.L.Kms.link in
    let old = c.args.link.now in
    let rows = c.args.self.now.rows in
    let seed = c.in-Ok-unwrap_source.seed in
    let same = asked_of c.name.result.now (link old).name c.args.key_id.now c.args.annotations.now
    c.args.source.now c.in-Ok.ensures c.name.ensures in
    let none = none_kept rows same c.in_default-copy_kept_seed.ensures.found in
    let kept = c.keep.ensures in
    let copied = c.copy_kept_seed.ensures in
    gives_answer link old c.unwrap_source.new.self c.args.self.now c.keep.new.self
    c.args.key_id.now c.args.annotations.now c.args.source.now (Ok seed) none
    c.in-Ok-unwrap_source.ensures.unwraps
    (rows_with rows c.copy_kept_seed.new.self.rows c.keep.new.self.rows (asked_key (link old).name
    c.args.key_id.now c.args.annotations.now c.args.source.now) seed
    copied.rows
    (subst (λ key. AreAmongWith c.copy_kept_seed.new.self.rows key seed c.keep.new.self.rows) same
    kept.rows))
    (kept.size ∙ copied.size) kept.fits

pub returns-in_default-clause-asked : goal.returns-in_default-clause-asked
returns-in_default-clause-asked g c = talk_none _ _ _ (no_memory refl (search rules))

pub returns-in-Some-clause-asked : goal.returns-in-Some-clause-asked
returns-in-Some-clause-asked g c =
    let link = g.L.Kms.link in
    let old = c.args.link.now in
    let cache = c.args.self.now in
    let same = asked_of c.name.result.now (link old).name c.args.key_id.now c.args.annotations.now
    c.args.source.now c.in-Ok.ensures c.name.ensures in
    let found = c.in-Some.ensures.found in
    talk_none _ _ _ (subst (λ key. FetchesBy key cache c.in-Some.kept c.copy_kept_seed.new.self []) same
    (kept found.0 found.1 found.2 c.in-Some.ensures.used))

pub returns-in-Err-clause-asked : goal.returns-in-Err-clause-asked
returns-in-Err-clause-asked g c =
    let link = g.L.Kms.link in
    let rows = c.args.self.now.rows in
    let same = asked_of c.name.result.now (link c.args.link.now).name c.args.key_id.now c.args.annotations.now
    c.args.source.now c.in-Ok.ensures c.name.ensures in
    let none = none_kept rows same c.in_default-copy_kept_seed.ensures.found in
    talk_one _ _ _ _ _ (search rules) (unwrapped none c.in_default-copy_kept_seed.ensures.used)

pub returns-in-Ok-unwrap_source-clause-asked : goal.returns-in-Ok-unwrap_source-clause-asked
returns-in-Ok-unwrap_source-clause-asked g c =
    let link = g.L.Kms.link in
    let cache = c.args.self.now in
    let seed = c.in-Ok-unwrap_source.seed in
    let same = asked_of c.name.result.now (link c.args.link.now).name c.args.key_id.now c.args.annotations.now
    c.args.source.now c.in-Ok.ensures c.name.ensures in
    let none = none_kept cache.rows same c.in_default-copy_kept_seed.ensures.found in
    let asked = asked_key (link c.args.link.now).name c.args.key_id.now c.args.annotations.now
    c.args.source.now in
    let put : IsPut cache asked seed c.keep.new.self =
    subst (λ key. IsPut cache key seed c.keep.new.self) same
    (subst (λ before. IsPut before c.in-Ok.key seed c.keep.new.self)
    c.in_default-copy_kept_seed.ensures.used c.keep.ensures.put) in
    talk_one _ _ _ _ _ (search rules) (unwrapped none
    (is_kept cache asked seed c.keep.new.self none put))
