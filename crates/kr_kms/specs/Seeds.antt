-- Seeds with their wrapped sources.
use Rattle.std.specs.Prelude.{◌≡◌, ℕ, ◌⊎◌, List, [], ◌∷◌, length, All, Option, Some, None, Result, Ok, Err}
use Rattle.std.specs.Io.KnownBytes.{Consumes, Keeps}
use Rattle.std.specs.Str.{IsUtf8}
use Rattle.kr_base.specs.Faults.{Rose}
use Rattle.kr_base.specs.Limits.{IsShort, AreFew}
use Rattle.kr_base.specs.Numbering.{next_number}
use Rattle.kr_base.specs.Pairs.{IsSortedByKey}
use Rattle.kr_kms.specs.Calls.{Link}
use Rattle.kr_kms.specs.Exchanges.{Exchange, StatusCall, WrapCall}
use Rattle.kr_kms.specs.Health.{HasBreach, breach_in, seed_no}
use Rattle.kr_kms.specs.declared.plugin.Status.{Status}
use Rattle.kr_kms.specs.declared.plugin.Wrapped.{Wrapped}
use Rattle.kr_kms.specs.declared.plugin.KmsNo.{KmsNo}
use Rattle.kr_kms.specs.declared.health.Field.{Field}
use Rattle.kr_kms.specs.declared.health.SeedNo.{SeedNo}
use Rattle.kr_kms.specs.declared.health.SeedNo.TheVariants.{Failed, DiceFailed, Unhealthy, NoMemory}
use Rattle.kr_kms.specs.declared.seeds.SeedRow.{SeedRow}

-- a seed has 32 bytes; its source, key id and annotations are within the limits, and are as their
-- types keep them
pub record IsSeedRow (row : SeedRow) : Type 0 where
  pub seed : length row.seed ≡ 32
  pub key_id : IsShort row.key_id
  pub source : IsShort row.source
  pub annotations : AreFew row.annotations
  pub text : IsUtf8 row.key_id
  pub keys : All (λ pair. IsUtf8 pair.0) row.annotations
  pub sorted : IsSortedByKey row.annotations

-- a seed beside what a plugin of this name made of it
abbrev pub row_with : (name seed : List ℕ) → Wrapped → SeedRow
row_with name seed wrapped = record {
  name = name;
  key_id = wrapped.key_id;
  annotations = wrapped.annotations;
  source = wrapped.cipher;
  seed = seed;
}

module _ {D : Type 0} (left : D → Option (List ℕ)) (count : D → ℕ) where
  -- the bytes of a seed were drawn, and no draw failed
  abbrev pub DrawsSeed : D → D → Type 0
  DrawsSeed dice after =
      (drawn : List ℕ) × (length drawn ≡ 32) × Consumes (left dice) (left after) drawn
      × (count after ≡ count dice)

  -- a seed that was drawn and wrapped once the plugin was healthy, or why there is none: the status
  -- is asked first, then the seed is drawn, then it is wrapped
  abbrev pub MakesSeed : Link → D → Result SeedRow SeedNo → Link → D → Type 0
  MakesSeed old dice (Ok row) new after = HasBreach old None × (row.name ≡ old.name)
      × IsSeedRow row × Consumes (left dice) (left after) row.seed
      × (count after ≡ count dice)
  MakesSeed old dice (Err (Unhealthy field text)) new after =
      HasBreach old (Some (field, text)) × (after ≡ dice)
  MakesSeed old dice (Err DiceFailed) new after = HasBreach old None
      × Rose (count dice) (count after) × Keeps (left dice) (left after)
      × (count after ≡ next_number (count dice))
  MakesSeed old dice (Err Failed) new after = Rose old.count new.count
      × ((after ≡ dice) ⊎ (HasBreach old None × DrawsSeed dice after))
  MakesSeed old dice (Err NoMemory) new after =
      (after ≡ dice) ⊎ (HasBreach old None × DrawsSeed dice after)

  -- ---- by which exchanges

  -- these 32 bytes were drawn
  abbrev pub Draws : D → List ℕ → D → Type 0
  Draws dice seed after = (length seed ≡ 32) × Consumes (left dice) (left after) seed
      × (count after ≡ count dice)

  -- a draw failed, which counts once
  abbrev pub FailsToDraw : D → D → Type 0
  FailsToDraw dice after = Keeps (left dice) (left after)
      × (count after ≡ next_number (count dice))

  -- the status is asked first; where it breaks no rule, a seed is drawn; and then what was drawn is
  -- wrapped. Each stop has the exchanges so far
  pub data MakesSeedBy (name : List ℕ) (dice : D) (result : Result SeedRow SeedNo) (after : D)
      : List Exchange → Type 0 where
    no_status : (why : KmsNo) → result ≡ Err (seed_no why) → after ≡ dice
        → MakesSeedBy name dice result after (StatusCall name (Err why) ∷ [])
    unhealthy : (status : Status) (field : Field) (text : List ℕ)
        → breach_in status ≡ Some (field, text) → result ≡ Err (Unhealthy field text)
        → after ≡ dice → MakesSeedBy name dice result after (StatusCall name (Ok status) ∷ [])
    no_memory : (status : Status) → breach_in status ≡ None → result ≡ Err NoMemory
        → (after ≡ dice) ⊎ ((seed : List ℕ) × Draws dice seed after)
        → MakesSeedBy name dice result after (StatusCall name (Ok status) ∷ [])
    dice_failed : (status : Status) → breach_in status ≡ None → result ≡ Err DiceFailed
        → FailsToDraw dice after
        → MakesSeedBy name dice result after (StatusCall name (Ok status) ∷ [])
    not_wrapped : (status : Status) (seed : List ℕ) (why : KmsNo) → breach_in status ≡ None
        → Draws dice seed after → result ≡ Err (seed_no why)
        → MakesSeedBy name dice result after
        (StatusCall name (Ok status) ∷ WrapCall name seed (Err why) ∷ [])
    made : (status : Status) (seed : List ℕ) (wrapped : Wrapped) → breach_in status ≡ None
        → Draws dice seed after → result ≡ Ok (row_with name seed wrapped)
        → MakesSeedBy name dice result after
        (StatusCall name (Ok status) ∷ WrapCall name seed (Ok wrapped) ∷ [])
