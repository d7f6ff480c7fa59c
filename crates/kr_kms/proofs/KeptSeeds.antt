-- What holds of each seed that is kept, and of each that is unwrapped, holds of what is kept then.
use Rattle.std.proofs.Common.{◌≡◌, ℕ, List, [], ◌∷◌, Result, Ok, Err, Contains, refl, sym, subst, inl, inr, arith}
use Rattle.std.specs.Prelude.{◌-◌}
use Rattle.lru.proofs.CallerLemmas.{Contains-promoted, Contains-take}
use Rattle.lru.proofs.Splits.{Contains-cons}
use Rattle.kr_kms.specs.Cache.{CacheState, FetchesBy, KeepsAnswer, kept, no_memory, unwrapped, key_eq, with_seed}
use Rattle.kr_kms.specs.Exchanges.{Exchange, UnwrapCall}
use Rattle.kr_kms.specs.declared.plugin.KmsNo.{KmsNo}
use Rattle.kr_kms.specs.declared.seeds.SeedKey.{SeedKey}

module _ (Holds : SeedKey → List ℕ → Type 0) where
  abbrev pub Each : List (SeedKey × List ℕ) → Type 0
  Each rows = (key : SeedKey) (seed : List ℕ) → Contains rows (key, seed) → Holds key seed

  abbrev pub Unwrapped : List Exchange → Type 0
  Unwrapped es = (key : SeedKey) (seed : List ℕ) → Contains es (UnwrapCall key (Ok seed))
      → Holds key seed

  one_more : (cache : CacheState) (key : SeedKey) (seed : List ℕ) → Each cache.rows
      → Holds key seed → Each (with_seed cache key seed).rows
  one_more cache key seed each holds other bytes there = elim (Contains-cons _ _ _ there) [
    | inl e ↦ subst (λ (p : SeedKey × List ℕ). Holds p.0 p.1) e holds
    | inr d ↦ each other bytes (Contains-take (cache.size - 1) cache.rows (other, bytes) d)
  ]

  answer_kept : (key : SeedKey) (cache : CacheState) (result : Result (List ℕ) KmsNo)
      (after : CacheState) → Each cache.rows → Unwrapped (UnwrapCall key result ∷ [])
      → KeepsAnswer cache key result after → Each after.rows
  answer_kept key cache (Ok seed) after each now (inl same) =
      subst (λ (c : CacheState). Each c.rows) (sym same) each
  answer_kept key cache (Ok seed) after each now (inr put) =
      subst (λ (c : CacheState). Each c.rows) (sym put)
      (one_more cache key seed each (now key seed (0, omega arith, refl)))
  answer_kept key cache (Err why) after each now same =
      subst (λ (c : CacheState). Each c.rows) (sym same) each

  pub fetch_kept : (key : SeedKey) (cache : CacheState) (result : Result (List ℕ) KmsNo)
      (after : CacheState) (es : List Exchange) → FetchesBy key cache result after es
      → Each cache.rows → Unwrapped es → Each after.rows
  fetch_kept key cache result after _ (kept seed found gives same) each now =
      subst (λ (c : CacheState). Each c.rows) (sym same)
      (λ other seed there. each other seed
      (Contains-promoted (key_eq key) cache.rows (other, seed) there))
  fetch_kept key cache result after _ (no_memory is same) each now =
      subst (λ (c : CacheState). Each c.rows) (sym same) each
  fetch_kept key cache result after _ (unwrapped none keeps) each now =
      answer_kept key cache result after each now keeps
