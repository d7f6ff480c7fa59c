-- What is put beside the others.
use Rattle.std.proofs.Common.{subst, ◌∙◌}
use Rattle.kr_kms.specs.Cache.{CacheState}
use Rattle.kr_kms.specs.inner.Keeping.{AreAmongWith, IsPut}
use Rattle.kr_kms.proofs.Fetching.{put_or_not, put_exact}
use Rattle.kr_kms.proofs.cache.SeedCache.keep.Goals as goal

pub returns-clause-rows : goal.returns-clause-rows
returns-clause-rows c =
    let after = c.put.new.self in
    subst (λ seed. AreAmongWith c.args.self.now.rows c.args.key seed after.entries)
    (c.in-Ok.ensures ∙ c.as_slice.ensures)
    (subst (λ (s : CacheState). AreAmongWith s.rows c.args.key c.in-Ok.copy after.entries)
    c.self.view_is
    (put_or_not c.self.inside.inner after c.args.key c.in-Ok.copy c.put.result
    c.put.ensures.entries c.put.ensures.err))

pub returns-clause-put : goal.returns-clause-put
returns-clause-put c =
    let after = c.put.new.self in
    let state : CacheState = record { rows = after.entries; size = after.cap } in
    subst (λ seed. IsPut c.args.self.now c.args.key seed state) (c.in-Ok.ensures ∙ c.as_slice.ensures)
    (subst (λ (s : CacheState). IsPut s c.args.key c.in-Ok.copy state) c.self.view_is
    (put_exact (record { rows = c.self.inside.inner.entries; size = c.self.inside.inner.cap })
    after c.args.key c.in-Ok.copy c.put.result c.put.ensures.entries c.put.ensures.err))
