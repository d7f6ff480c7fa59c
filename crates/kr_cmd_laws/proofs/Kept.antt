-- What holds of each seed that is kept, and of each answer, holds of what is kept then.
use Rattle.std.proofs.Common.{◌≡◌, ℕ, zero, suc, List, [], ◌∷◌, Some, None, Ok, refl, subst, arith}
use Rattle.kr_kms.specs.Cache.{CacheState, KeepsAnswer, kept as was_kept, unwrapped, seed_at, with_used}
use Rattle.kr_kms.specs.Exchanges.{Exchange, UnwrapCall}
use Rattle.kr_kms.specs.declared.seeds.SeedKey.{SeedKey}
use Rattle.kr_kms.proofs.Fetching.{found_there}
use Rattle.kr_kms.proofs.KeptSeeds.{Each, Unwrapped, fetch_kept}
use Rattle.kr_cmd_steps.specs.ValueSteps.{none_kept}

module _ (Holds : SeedKey → List ℕ → Type 0) where
  abbrev pub AreHeld : CacheState → Type 0
  AreHeld kept = Each Holds kept.rows

  pub none_held : AreHeld none_kept
  none_held key seed there = absurd (omega (arith, there.1))

  pub seed_held : (kept : CacheState) (key : SeedKey) (seed : List ℕ)
      → seed_at kept.rows key ≡ Some seed → AreHeld kept → Holds key seed
  seed_held kept key seed is held = held key seed (found_there kept.rows key seed is)

  pub used_held : (kept : CacheState) (key : SeedKey) (seed : List ℕ)
      → seed_at kept.rows key ≡ Some seed → AreHeld kept → AreHeld (with_used kept key)
  used_held kept key seed is held = fetch_kept Holds key kept (Ok seed) (with_used kept key) []
      (was_kept seed is refl refl) held (λ other bytes there. absurd (omega (arith, there.1)))

  -- of an unwrap that answered
  abbrev HeldBy : Exchange → Type 0
  HeldBy (UnwrapCall key (Ok seed)) = Holds key seed
  HeldBy exchange = Unit {0}

  one_now : (key : SeedKey) (seed : List ℕ) → Holds key seed
      → Unwrapped Holds (UnwrapCall key (Ok seed) ∷ [])
  one_now key seed holds other bytes (zero, below, is) = subst HeldBy is holds
  one_now key seed holds other bytes (suc n, below, is) = absurd (omega (arith, below))

  pub answer_held : (kept after : CacheState) (key : SeedKey) (seed : List ℕ)
      → seed_at kept.rows key ≡ None → KeepsAnswer kept key (Ok seed) after → Holds key seed
      → AreHeld kept → AreHeld after
  answer_held kept after key seed none keeps holds held =
      fetch_kept Holds key kept (Ok seed) after (UnwrapCall key (Ok seed) ∷ [])
      (unwrapped none keeps) held (one_now key seed holds)
