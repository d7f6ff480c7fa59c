-- What the phases of `migrate` give to it.
use Rattle.std.specs.Prelude.{◌≡◌, ◌++◌, ℕ, Bool, false, List, [], map, nat_lt, take, Some, Result, Ok, Err}
use Rattle.kr_base.specs.Limits.{store_limit}
use Rattle.kr_config.specs.Kept.{ConfigEntry}
use Rattle.kr_config.specs.Lists.{list_of}
use Rattle.kr_provider.specs.Readers.{reader_in}
use Rattle.kr_store.specs.Rows.{put_of}
use Rattle.kr_store.specs.Stores.{Kept}
use Rattle.kr_store.specs.declared.format.Format.{Format}
use Rattle.kr_store.specs.declared.format.Format.TheVariants.{One, Two}
use Rattle.kr_store.specs.declared.rows.LogRow.{LogRow}
use Rattle.kr_store.specs.declared.rows.Row as stored
use Rattle.kr_cmd_steps.specs.StoreSteps.{migrated_row, reader_check}
use Rattle.kr_cmd_steps.specs.StoreFiles.{Stored}
use Rattle.kr_cmd_messages.specs.declared.refusal.Stop.{Stop}

-- bytes of the second format; an empty file has none
abbrev pub has_new_bytes : Format → (size : ℕ) → Bool
has_new_bytes One size = false
has_new_bytes Two size = nat_lt 0 size

-- a new store: no rows, in the second format
pub record IsNew (store : Kept) : Type 0 where
  pub format : store.format ≡ Two
  pub rows : store.rows ≡ []
  pub within : store.limit ≡ store_limit

-- the first rows of the source, so many, are in the target
pub record HasCopied (config : List ConfigEntry) (source : List LogRow) (number : ℕ) (target : Kept)
    : Type 0 where
  pub format : target.format ≡ Two
  pub rows : target.rows ≡ map (migrated_row config) (take number source)
  pub within : target.limit ≡ store_limit

-- a put with the check of its value's reader
abbrev pub migrated_put : List ConfigEntry → stored.Row → LogRow
migrated_put rows row = put_of row.path row.resource row.stored
    (Some (reader_check (reader_in (list_of rows row.resource) row.stored)))

-- the store with these rows behind its own, where all were written
abbrev pub all_grown : List LogRow → Stored → Result (Unit {0}) Stop → Result Stored Stop
all_grown rows store (Ok done) =
    Ok (record { format = store.format; rows = store.rows ++ rows })
all_grown rows store (Err stop) = Err stop
