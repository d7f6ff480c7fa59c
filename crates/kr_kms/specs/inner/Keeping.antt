-- How the rows of a cache change.
use Rattle.std.specs.Prelude.{◌≡◌, ℕ, ◌⊎◌, List, Contains, Option, Some, None, Result}
use Rattle.lru.specs.LruCache.{lru_cache, put_entries}
use Rattle.kr_kms.specs.Cache.{CacheState, GivesSeed, key_eq, seed_at, with_used}
use Rattle.kr_kms.specs.declared.plugin.KmsNo.{KmsNo}
use Rattle.kr_kms.specs.declared.seeds.SeedKey.{SeedKey}

abbrev pub Rows : Type 0
Rows = List (SeedKey × List ℕ)

-- the seed that is kept under the key, or none is
abbrev pub IsCopyAt : Rows → SeedKey → Option (Result (List ℕ) KmsNo) → Type 0
IsCopyAt rows key None = seed_at rows key ≡ None
IsCopyAt rows key (Some copy) =
    (seed : List ℕ) × (seed_at rows key ≡ Some seed) × GivesSeed seed copy

-- each row was there before
abbrev pub AreAmong : Rows → Rows → Type 0
AreAmong before after =
    (key : SeedKey) (seed : List ℕ) → Contains after (key, seed) → Contains before (key, seed)

-- each row was there before, or is this one
abbrev pub AreAmongWith : Rows → SeedKey → List ℕ → Rows → Type 0
AreAmongWith before key seed after = (other : SeedKey) (kept : List ℕ)
    → Contains after (other, kept) → Contains before (other, kept) ⊎ ((other ≡ key) × (kept ≡ seed))

-- the key's seed was used, where one is kept
abbrev pub IsUsed : CacheState → SeedKey → Option (Result (List ℕ) KmsNo) → CacheState → Type 0
IsUsed before key None after = after ≡ before
IsUsed before key (Some copy) after = after ≡ with_used before key

-- the seed was put under the key, or there was no memory for it
abbrev pub IsPut : CacheState → SeedKey → List ℕ → CacheState → Type 0
IsPut before key seed after = (after ≡ before) ⊎ (after ≡ record before {
  rows = put_entries key_eq (lru_cache before.rows before.size) key seed;
})
