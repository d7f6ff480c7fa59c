-- What parts of a call do.
use Rattle.std.specs.Prelude.{◌≡◌, ◌≢◌, ◌⊎◌, ℕ, Bool, true, false, List, Option, None, Some, Result, Ok, Err}
use Rattle.kr_config.specs.Kept.{ConfigEntry as settings_row}
use Rattle.kr_kms.specs.Calls.{Link}
use Rattle.kr_kms.specs.Exchanges.{Exchange}
use Rattle.kr_provider.specs.Exchanges.{PublishesBy, TellsKeyIdAt}
use Rattle.kr_provider.specs.Publication.{Publication}
use Rattle.kr_provider.specs.Publishing.{Publishes}
use Rattle.kr_provider.specs.declared.refusal.PublishNo.{PublishNo}
use Rattle.kr_provider.specs.declared.refusal.Opened.{Opened}
use Rattle.kr_provider.specs.declared.refusal.SealNo.{SealNo}
use Rattle.kr_provider.specs.declared.refusal.SealNo.TheVariants as sealing
use Rattle.kr_provider.specs.declared.refusal.UnsealNo.{UnsealNo}
use Rattle.kr_provider.specs.declared.refusal.UnsealNo.TheVariants as unsealing
use Rattle.kr_provider.specs.declared.refusal.ValueNo.TheVariants.{LooksEncrypted, TooLarge}
use Rattle.kr_fleet.specs.CallForms.{publish_refusal}
use Rattle.kr_fleet.specs.declared.outcome.Loaded.{Loaded}
use Rattle.kr_fleet.specs.declared.outcome.Loaded.TheVariants as loaded
use Rattle.kr_fleet.specs.declared.outcome.Read.{Read}
use Rattle.kr_fleet.specs.declared.outcome.Read.TheVariants.{Value}
use Rattle.kr_history.specs.declared.call.CallNo.{CallNo}
use Rattle.kr_history.specs.declared.call.CallNo.TheVariants as refusal
use Rattle.kr_history.specs.declared.outcome.Reloading.{Reloading}
use Rattle.kr_history.specs.declared.outcome.Reloading.TheVariants as reloading
use Rattle.kr_fleet.specs.LoadCalls.{AreKeysSame, AsksInVain, IsKeyChanged}
use Rattle.kr_kms.specs.declared.seeds.SeedRow.{SeedRow}

-- what a row of this revision holds
abbrev pub row_value : (revision : ℕ) → Result Opened UnsealNo → Result Read CallNo
row_value revision (Ok opened) =
    Ok (Value revision opened.plain opened.stale)
row_value revision (Err (unsealing.Refused why)) = Err (refusal.Value why)
row_value revision (Err (unsealing.PluginFailed name)) = Err (refusal.PluginFailed name)
row_value revision (Err unsealing.NoMemory) = Err refusal.NoMemory

-- why nothing is sealed
abbrev pub seal_refusal : SealNo → CallNo
seal_refusal sealing.LooksEncrypted = refusal.Value LooksEncrypted
seal_refusal (sealing.TooLarge size) = refusal.Value TooLarge
seal_refusal sealing.DiceFailed = refusal.DiceFailed
seal_refusal sealing.NoMemory = refusal.NoMemory

-- settings are published and shared
module _ (Publishes : Result Publication PublishNo → Type 0) where
  abbrev pub NotSharedWhere : CallNo → Type 0
  NotSharedWhere why = ((no : PublishNo) × (why ≡ publish_refusal no) × Publishes (Err no))
      ⊎ ((p : Publication) × (why ≡ refusal.NoMemory) × Publishes (Ok p))

  abbrev pub SharesWhere : Result Publication CallNo → Type 0
  SharesWhere (Ok p) = Publishes (Ok p)
  SharesWhere (Err why) = NotSharedWhere why

abbrev pub SharesPublished : {L D : Type 0} → (L → Link) → (D → Option (List ℕ)) → (D → ℕ)
    → List settings_row → List L → D → Result Publication CallNo → List L → D → Type 0
SharesPublished link left count rows olds dice result news after = SharesWhere
    (λ made. Publishes link left count rows olds dice made news after) result

abbrev pub SharesPublishedBy : {D : Type 0} → (D → Option (List ℕ)) → (D → ℕ)
    → List settings_row → D → Result Publication CallNo → D → List Exchange → Type 0
SharesPublishedBy left count rows dice result after exchanges = SharesWhere
    (λ made. PublishesBy left count rows dice made after exchanges) result

-- what the replica has by what its Reload did
abbrev pub load_done : Result Reloading CallNo → Result Loaded CallNo
load_done (Ok (reloading.Generation number)) = Ok (loaded.Generation number)
load_done (Ok (reloading.Refused verdict)) = Ok (loaded.Refused verdict)
load_done (Ok (reloading.Moved current)) = Ok (loaded.Moved current)
load_done (Err why) = Err why

-- the plugins' key ids are those of their seeds, or one isn't, or one can't be asked for
abbrev pub ComparesKeys : {L : Type 0} → (L → Link) → List SeedRow → List L → Result Bool CallNo
    → List L → Type 0
ComparesKeys link seeds olds (Ok false) news = AreKeysSame link olds seeds
ComparesKeys link seeds olds (Ok true) news = IsKeyChanged link olds seeds
ComparesKeys link seeds olds (Err why) news = AsksInVain link olds seeds why news

-- the plugin of one seed is asked for its key id
abbrev pub ComparesKeyBy : SeedRow → Result Bool CallNo → List Exchange → Type 0
ComparesKeyBy row (Ok false) exchanges = TellsKeyIdAt row.name (Ok row.key_id) exchanges
ComparesKeyBy row (Ok true) exchanges = (key_id : List ℕ) × (key_id ≢ row.key_id)
    × TellsKeyIdAt row.name (Ok key_id) exchanges
ComparesKeyBy row (Err why) exchanges = (no : PublishNo) × (why ≡ publish_refusal no)
    × TellsKeyIdAt row.name (Err no) exchanges
