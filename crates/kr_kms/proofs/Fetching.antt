-- What is fetched through a cache.
use Rattle.std.proofs.Common.{◌≡◌, ℕ, ◌≤◌, ◌⊎◌, ◌∙◌, Bool, true, false, cond, List, [], ◌∷◌, length, Contains, Option, Some, None, Result, Ok, Err, refl, sym, ap, subst, inl, inr, arith}
use Rattle.std.specs.Prelude.{◌-◌, OnOk, OnErr, take}
use Rattle.std.specs.Map.{lookup, lookup_entry, remove_entry}
use Rattle.std.specs.Option.{option_map_or}
use Rattle.lru.specs.LruCache.{LruCache, lru_cache, put_entries}
use Rattle.lru.proofs.CallerLemmas.{Contains-lookup, Contains-put_entries}
use Rattle.kr_base.specs.Pairs.{Pairs}
use Rattle.kr_kms.specs.Cache.{CacheState, Fetches, GivesSeed, KeepsAnswer, key_eq, seed_at}
use Rattle.kr_kms.specs.Calls.{Link, AsksLink, IsSameLink, asked_key}
use Rattle.kr_kms.specs.declared.plugin.KmsNo.{KmsNo}
use Rattle.kr_kms.specs.declared.plugin.KmsNo.TheVariants.{Failed, NoMemory}
use Rattle.kr_kms.specs.declared.seeds.SeedKey.{SeedKey}
use Rattle.kr_kms.specs.inner.Keeping.{Rows, IsCopyAt, IsPut, AreAmong, AreAmongWith}
use Rattle.kr_kms.proofs.Keys.{same_key}

-- a key that was made of the name that was told is the one that is asked for
pub asked_of : {key : SeedKey} (said name key_id : List ℕ) (annotations : Pairs) (source : List ℕ)
    → key ≡ asked_key said key_id annotations source → said ≡ name
    → key ≡ asked_key name key_id annotations source
asked_of said name key_id annotations source is same =
    is ∙ ap (λ n. asked_key n key_id annotations source) same

-- and where none is kept under it
pub none_kept : {key asked : SeedKey} (rows : Rows) → key ≡ asked → seed_at rows key ≡ None
    → seed_at rows asked ≡ None
none_kept rows same none = subst (λ k. seed_at rows k ≡ None) same none

-- what is found under a key stands under it
pub found_there : (rows : Rows) (key : SeedKey) (seed : List ℕ) → seed_at rows key ≡ Some seed
    → Contains rows (key, seed)
found_there rows key seed found =
    let there = Contains-lookup (key_eq key) rows seed found in
    subst (λ k. Contains rows (k, seed)) (sym ((same_key key there.0).0 there.2)) there.1

-- what a put leaves was there before, or is what was put
pub put_among : (cache : LruCache SeedKey (List ℕ)) (key : SeedKey) (seed : List ℕ)
    → AreAmongWith cache.entries key seed (put_entries key_eq cache key seed)
put_among cache key seed other kept there =
    elim (Contains-put_entries key_eq cache key seed (other, kept) there) [
      | inl before ↦ inl before
      | inr put ↦ inr (is_key put.1, put.0)
    ]
  where
    is_key : (other ≡ key)
        ⊎ ((w : List ℕ) × Contains cache.entries (other, w) × (key_eq key other ≡ true))
        → other ≡ key
    is_key (inl same) = same
    is_key (inr e) = sym ((same_key key other).0 e.2)

-- what a put leaves where it may have found no memory
pub put_or_not : {E : Type 0} (before after : LruCache SeedKey (List ℕ)) (key : SeedKey)
    (seed : List ℕ) (result : Result (Option (List ℕ)) E)
    → OnOk result (after ≡ lru_cache (put_entries key_eq before key seed) before.cap)
    → OnErr result (after ≡ before) → AreAmongWith before.entries key seed after.entries
put_or_not before after key seed (Ok old) is none other kept there =
    put_among before key seed other kept
    (subst (λ (l : LruCache SeedKey (List ℕ)). Contains l.entries (other, kept)) is there)
put_or_not before after key seed (Err why) none is other kept there =
    inl (subst (λ (l : LruCache SeedKey (List ℕ)). Contains l.entries (other, kept)) is there)

abbrev pub state_of : LruCache SeedKey (List ℕ) → CacheState
state_of cache = record { rows = cache.entries; size = cache.cap }

-- the same, exactly
pub put_exact : {E : Type 0} (before : CacheState) (after : LruCache SeedKey (List ℕ)) (key : SeedKey)
    (seed : List ℕ) (result : Result (Option (List ℕ)) E)
    → OnOk result (after ≡ lru_cache (put_entries key_eq (lru_cache before.rows before.size) key seed) before.size)
    → OnErr result (after ≡ lru_cache before.rows before.size)
    → IsPut before key seed (state_of after)
put_exact before after key seed (Ok old) is none = inr (ap state_of is)
put_exact before after key seed (Err why) none is = inl (ap state_of is)

no_entry : (test : SeedKey → Bool) (rows : Rows) → lookup test rows ≡ None → lookup_entry test rows ≡ None
no_entry test [] none = refl
no_entry test (row ∷ rows) none = by (test row.0) (no_entry test rows) none
  where
    by : (b : Bool) → (lookup test rows ≡ None → lookup_entry test rows ≡ None) → cond b (Some row.1) (lookup test rows) ≡ None → cond b (Some row) (lookup_entry test rows) ≡ None
    by true rest none = absurd (cc)
    by false rest none = rest none

-- what is put under a key whose seed isn't kept goes before the others
pub is_kept : (before : CacheState) (key : SeedKey) (seed : List ℕ) (after : CacheState)
    → seed_at before.rows key ≡ None → IsPut before key seed after → KeepsAnswer before key (Ok seed) after
is_kept before key seed after none (inl same) = inl same
is_kept before key seed after none (inr put) = inr (put ∙ ap (λ (found : Option (SeedKey × List ℕ)). record before {
  rows = option_map_or (λ e. (e.0, seed) ∷ remove_entry (key_eq key) before.rows) found ((key, seed) ∷ take (before.size - 1) before.rows);
}) (no_entry (key_eq key) before.rows none))

abbrev answer : List ℕ → Result (List ℕ) KmsNo
answer seed = Ok seed

-- what was kept, and then put beside it
pub rows_with : (before middle after : Rows) (key : SeedKey) (seed : List ℕ)
    → AreAmong before middle → AreAmongWith middle key seed after → (other : SeedKey)
    (kept : List ℕ) → Contains after (other, kept) → Contains before (other, kept)
    ⊎ ((other ≡ key) × (answer seed ≡ answer kept))
rows_with before middle after key seed among with other kept there =
    elim (with other kept there) [
      | inl was ↦ inl (among other kept was)
      | inr put ↦ inr (put.0, ap answer (sym put.1))
    ]

module _ {L : Type 0} (link : L → Link) where
  same_link : (old : L) → IsSameLink (link old) (link old)
  same_link old = record { name = refl; status = refl; later = omega arith }

  copy_asks : (old : L) (seed : List ℕ) (copy : Result (List ℕ) KmsNo) → GivesSeed seed copy
      → AsksLink (link old) copy (link old)
  copy_asks old seed (Ok bytes) gives = record { same = same_link old; failed = λ e. cc }
  copy_asks old seed (Err Failed) gives = absurd gives
  copy_asks old seed (Err NoMemory) gives = record { same = same_link old; failed = λ e. cc }

  -- a kept seed is given
  pub gives_kept : (old : L) (cache after : CacheState) (key : SeedKey)
      (copy : Result (List ℕ) KmsNo) → IsCopyAt cache.rows key (Some copy)
      → AreAmong cache.rows after.rows → after.size ≡ cache.size → length after.rows ≤ after.size
      → Fetches link old cache key copy old after
  gives_kept old cache after key copy is among size fits = record {
    kept = λ seed found. let same : is.0 ≡ seed = cc (is.1, found) in
        (refl, subst (λ s. GivesSeed s copy) same is.2);
    asks = copy_asks old is.0 copy is.2;
    rows = λ other seed there. inl (among other seed there);
    size = size;
    fits = fits;
  }

  -- the link's answer is given
  pub gives_answer : (old new : L) (cache after : CacheState) (key_id : List ℕ) (annotations : _)
      (source : List ℕ) (result : Result (List ℕ) KmsNo)
      → let key = asked_key (link old).name key_id annotations source in
      seed_at cache.rows key ≡ None
      → AsksLink (link old) result (link new)
      → ((other : SeedKey) (seed : List ℕ) → Contains after.rows (other, seed)
      → Contains cache.rows (other, seed) ⊎ ((other ≡ key) × (result ≡ Ok seed)))
      → after.size ≡ cache.size → length after.rows ≤ after.size
      → Fetches link old cache key result new after
  gives_answer old new cache after key_id annotations source result none answer rows size fits =
      record {
        kept = λ seed found. cc (none, found);
        asks = answer;
        rows = rows;
        size = size;
        fits = fits;
      }
