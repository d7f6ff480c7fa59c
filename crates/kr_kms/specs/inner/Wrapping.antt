-- What a seed is drawn as, and wrapped into.
use Rattle.std.specs.Prelude.{◌≡◌, ℕ, List, [], ◌∷◌, Option, Result, Ok, Err, length}
use Rattle.std.specs.Io.KnownBytes.{Consumes, Keeps}
use Rattle.kr_base.specs.Faults.{Rose}
use Rattle.kr_base.specs.Numbering.{next_number}
use Rattle.kr_kms.specs.Exchanges.{Exchange, WrapCall}
use Rattle.kr_kms.specs.Seeds.{IsSeedRow, row_with}
use Rattle.kr_kms.specs.declared.plugin.Wrapped.{Wrapped}
use Rattle.kr_kms.specs.declared.plugin.KmsNo.{KmsNo}
use Rattle.kr_kms.specs.declared.plugin.KmsNo.TheVariants as link
use Rattle.kr_kms.specs.declared.seeds.SeedRow.{SeedRow}
use Rattle.kr_kms.specs.declared.health.SeedNo.{SeedNo}
use Rattle.kr_kms.specs.declared.health.SeedNo.TheVariants.{Failed, DiceFailed, Unhealthy, NoMemory}

-- the bytes that were drawn, or why there are none
abbrev pub IsDrawn : {D : Type 0} → (D → Option (List ℕ)) → (D → ℕ) → D → Result (List ℕ) SeedNo
    → D → Type 0
IsDrawn left count dice (Ok seed) after =
    (length seed ≡ 32) × Consumes (left dice) (left after) seed × (count after ≡ count dice)
IsDrawn left count dice (Err DiceFailed) after =
    Rose (count dice) (count after) × Keeps (left dice) (left after)
    × (count after ≡ next_number (count dice))
IsDrawn left count dice (Err NoMemory) after = after ≡ dice
IsDrawn left count dice (Err Failed) after = ⊥
IsDrawn left count dice (Err (Unhealthy field text)) after = ⊥

-- the row has this seed under this plugin's name
pub record IsRowOf (name seed : List ℕ) (row : SeedRow) : Type 0 where
  pub name_is : row.name ≡ name
  pub seed_is : row.seed ≡ seed
  pub row_is : IsSeedRow row

-- nothing was asked, for want of memory; or one wrap of the seed was
pub data WrapsSeedBy (name seed : List ℕ) (result : Result SeedRow KmsNo)
    : List Exchange → Type 0 where
  no_name : result ≡ Err link.NoMemory → WrapsSeedBy name seed result []
  not_wrapped : (why : KmsNo) → result ≡ Err why
      → WrapsSeedBy name seed result (WrapCall name seed (Err why) ∷ [])
  made : (wrapped : Wrapped) → result ≡ Ok (row_with name seed wrapped)
      → WrapsSeedBy name seed result (WrapCall name seed (Ok wrapped) ∷ [])
