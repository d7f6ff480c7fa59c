-- What holds of the steps that open a value's object, whatever its source is and was kept.
use Rattle.std.proofs.Common.{ℕ, List, Option, None, Some, Result, Ok}
use Rattle.kr_config.specs.declared.who.Who.{Who}
use Rattle.kr_config.specs.declared.who.Who.TheVariants.{Kms}
use Rattle.kr_envelope.specs.declared.object.EncryptedObject.{EncryptedObject}
use Rattle.kr_envelope.specs.declared.object.ObjectNo.{ObjectNo}
use Rattle.kr_kms.specs.Cache.{CacheState, seed_at, with_used}
use Rattle.kr_kms.specs.declared.seeds.SeedKey.{SeedKey}
use Rattle.kr_kms.specs.declared.seeds.SeedRow.{SeedRow}
use Rattle.kr_provider.specs.Envelopes.{seed_key}
use Rattle.kr_provider.specs.Publication.{seed_of}
use Rattle.kr_cmd_steps.specs.Steps.{Steps}
use Rattle.kr_cmd_steps.specs.ValueSteps.{fetching, opening, published_source, source_steps}

-- it holds of what comes behind, and of where a plugin is asked
module _ {A : Type 0} (P : Steps A → Type 0) (next : Option (List ℕ) → CacheState → Steps A)
    (on : (source : Option (List ℕ)) (after : CacheState) → P (next source after))
    (asks : (kept : CacheState) (key : SeedKey) → P (fetching None kept key next)) where
  fetched : (seed : Option (List ℕ)) (kept : CacheState) (key : SeedKey)
      → P (fetching seed kept key next)
  fetched (Some seed) kept key = on (Some seed) (with_used kept key)
  fetched None kept key = asks kept key

  sourced : (source : Option (List ℕ)) (kept : CacheState) (key : SeedKey)
      → P (source_steps source kept key next)
  sourced (Some seed) kept key = on (Some seed) kept
  sourced None kept key = fetched (seed_at kept.rows key) kept key

  pub opens : (seeds : List SeedRow) (reader : Option Who)
      (object : Result EncryptedObject ObjectNo) (kept : CacheState)
      → P (opening seeds reader object kept next)
  opens seeds (Some (Kms name)) (Ok object) kept = sourced
      (published_source (seed_of name seeds) (seed_key name object)) kept (seed_key name object)
  opens seeds other object kept = on None kept
