-- A copy of what is kept, which goes to the front.
use Rattle.std.proofs.Common.{◌≡◌, List, ℕ, Some, Contains, ap, subst, sym, ◌∙◌}
use Rattle.lru.specs.LruCache.{LruCache}
use Rattle.lru.proofs.CallerLemmas.{Contains-promoted}
use Rattle.kr_kms.specs.Cache.{CacheState, seed_at, key_eq, with_used}
use Rattle.kr_kms.specs.declared.seeds.SeedKey.{SeedKey}
use Rattle.kr_kms.proofs.Fetching.{state_of}
use Rattle.kr_kms.proofs.cache.SeedCache.copy_kept_seed.Goals as goal
use Rattle.kr_kms.proofs.cache.SeedCache.copy_kept_seed.Goals.{in-Ok, in-Err}

pub returns-clause-found : goal.returns-clause-found
returns-clause-found c =
    let seed = c.in-Some.seed.now in
    let found : seed_at c.args.self.now.rows c.args.key.now ≡ Some seed =
    subst (λ (s : CacheState). seed_at s.rows c.args.key.now ≡ Some seed) c.self.view_is
    (sym c.in-Some.ensures) in
    elim c.match-copy.branch [
      | in-Ok w ↦ rw w.result-is (seed, found, w.in-Ok.ensures ∙ c.as_slice.ensures)
      | in-Err w ↦ rw w.result-is (seed, found, tt)
    ]

pub returns-clause-rows : goal.returns-clause-rows
returns-clause-rows c key seed there =
    subst (λ (s : CacheState). Contains s.rows (key, seed)) c.self.view_is
    (Contains-promoted (key_eq c.args.key.now) c.self.inside.inner.entries (key, seed)
    (subst (λ (l : LruCache SeedKey (List ℕ)). Contains l.entries (key, seed))
    c.promote-there.ensures.entries there))

pub returns-clause-used : goal.returns-clause-used
returns-clause-used c =
    let key = c.args.key.now in
    let state = state_of c.promote-there.new.self in
    let used : state ≡ with_used c.args.self.now key =
    subst (λ (s : CacheState). state ≡ with_used s key) c.self.view_is
    (ap state_of c.promote-there.ensures.entries) in
    elim c.match-copy.branch [
      | in-Ok w ↦ rw w.result-is used
      | in-Err w ↦ rw w.result-is used
    ]
