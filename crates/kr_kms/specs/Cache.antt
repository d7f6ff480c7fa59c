-- Unwrapped seeds that are kept, and what is fetched through them.
use Rattle.std.specs.Prelude.{◌≡◌, ℕ, ◌-◌, ◌≤◌, ◌&&◌, ◌⊎◌, Bool, List, [], ◌∷◌, take, length, Contains, Option, Some, None, Result, Ok, Err, ⊤}
use Rattle.std.specs.Map.{lookup}
use Rattle.std.specs.Str.{bytes_eq}
use Rattle.lru.specs.LruCache.{promoted}
use Rattle.kr_base.specs.Pairs.{pairs_eq}
use Rattle.kr_kms.specs.Calls.{Link, AsksLink}
use Rattle.kr_kms.specs.Exchanges.{Exchange, UnwrapCall}
use Rattle.kr_kms.specs.Opens.{Opens}
use Rattle.kr_kms.specs.declared.plugin.KmsNo.{KmsNo}
use Rattle.kr_kms.specs.declared.plugin.KmsNo.TheVariants.{Failed, NoMemory}
use Rattle.kr_kms.specs.declared.seeds.SeedKey.{SeedKey}

-- the seeds with what names them, and how many there may be
pub record CacheState : Type 0 where
  pub rows : List (SeedKey × List ℕ)
  pub size : ℕ

-- whether two keys have the same name, key id, annotations and source
abbrev pub key_eq : SeedKey → SeedKey → Bool
key_eq a b = bytes_eq a.name b.name && (bytes_eq a.key_id b.key_id
    && (pairs_eq a.annotations b.annotations && bytes_eq a.source b.source))

-- the seed that is kept under the key, if one is
abbrev pub seed_at : List (SeedKey × List ℕ) → SeedKey → Option (List ℕ)
seed_at rows key = lookup (key_eq key) rows

-- this seed is given, as far as there is memory for it
abbrev pub GivesSeed : List ℕ → Result (List ℕ) KmsNo → Type 0
GivesSeed seed (Ok bytes) = bytes ≡ seed
GivesSeed seed (Err Failed) = ⊥
GivesSeed seed (Err NoMemory) = ⊤

-- how a call through the cache answers
pub record Fetches {L : Type 0} (link : L → Link) (old : L) (cache : CacheState)
    (key : SeedKey) (result : Result (List ℕ) KmsNo) (new : L) (after : CacheState) : Type 0 where
  -- a kept seed is given, and the link isn't asked
  pub kept : (seed : List ℕ) → seed_at cache.rows key ≡ Some seed
      → (new ≡ old) × GivesSeed seed result
  pub asks : AsksLink (link old) result (link new)
  -- what is kept was kept before, or is this answer under this key
  pub rows : (other : SeedKey) (seed : List ℕ) → Contains after.rows (other, seed)
      → Contains cache.rows (other, seed) ⊎ ((other ≡ key) × (result ≡ Ok seed))
  pub size : after.size ≡ cache.size
  pub fits : length after.rows ≤ after.size

-- ---- by which exchanges

-- each kept seed is the one that its key opens to
abbrev pub AreOpenBy : Opens → List (SeedKey × List ℕ) → Type 0
AreOpenBy opens rows =
    (key : SeedKey) (seed : List ℕ) → Contains rows (key, seed) → opens key ≡ Some seed

-- the key's seed goes to the front, as the one that was used last
abbrev pub with_used : CacheState → SeedKey → CacheState
with_used cache key = record cache { rows = promoted (key_eq key) cache.rows }

-- a new seed goes before the others; the one at the end goes where there is no room for all
abbrev pub with_seed : CacheState → SeedKey → List ℕ → CacheState
with_seed cache key seed = record cache { rows = (key, seed) ∷ take (cache.size - 1) cache.rows }

-- an answer is kept as far as there is memory for it, and nothing else is
abbrev pub KeepsAnswer : CacheState → SeedKey → Result (List ℕ) KmsNo → CacheState → Type 0
KeepsAnswer cache key (Ok seed) after = (after ≡ cache) ⊎ (after ≡ with_seed cache key seed)
KeepsAnswer cache key (Err why) after = after ≡ cache

-- nothing was asked, since the seed is kept or there was no memory for the question; or one unwrap
-- was, under a key whose seed isn't kept, and its answer is given
pub data FetchesBy (key : SeedKey) (cache : CacheState) (result : Result (List ℕ) KmsNo)
    (after : CacheState) : List Exchange → Type 0 where
  kept : (seed : List ℕ) → seed_at cache.rows key ≡ Some seed → GivesSeed seed result
      → after ≡ with_used cache key → FetchesBy key cache result after []
  no_memory : result ≡ Err NoMemory → after ≡ cache → FetchesBy key cache result after []
  unwrapped : seed_at cache.rows key ≡ None → KeepsAnswer cache key result after
      → FetchesBy key cache result after (UnwrapCall key result ∷ [])
