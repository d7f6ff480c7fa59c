-- The store in a file, as a command reads it.
use Rattle.std.specs.Prelude.{◌≡◌, ℕ, ◌<◌, ◌≤◌, ◌⊎◌, Bool, List, [], ◌∷◌, ◌++◌, length, take, Option, IfSome, Result, Ok, Err, if◌then◌else◌}
use Rattle.std.specs.Str.{bytes_eq}
use Rattle.kr_base.specs.Limits.{store_limit}
use Rattle.kr_store.specs.Breaches.{IsBreach}
use Rattle.kr_store.specs.File.{IsFile, magic}
use Rattle.kr_store.specs.declared.answers.StoreNo.{StoreNo}
use Rattle.kr_store.specs.declared.answers.StoreNo.TheVariants as no
use Rattle.kr_store.specs.declared.format.Format.{Format}
use Rattle.kr_store.specs.declared.format.Format.TheVariants.{Two}
use Rattle.kr_store.specs.declared.rows.LogRow.{LogRow}
use Rattle.kr_cmd_messages.specs.declared.refusal.Breach.{Breach}
use Rattle.kr_cmd_messages.specs.declared.refusal.Breach.TheVariants.{Magic, Torn, BadRow, Order}
use Rattle.kr_cmd_messages.specs.declared.refusal.Refusal.{Refusal}
use Rattle.kr_cmd_messages.specs.declared.refusal.Refusal.TheVariants.{Limit, Broken, NotEmpty, NotOld}
use Rattle.kr_cmd_messages.specs.declared.refusal.Limit.TheVariants.{Store}

-- what a file holds: its format and its rows
pub record Stored : Type 0 where
  pub format : Format
  pub rows : List LogRow

-- with one more row
abbrev pub with_row : LogRow → Stored → Stored
with_row row store = record { format = store.format; rows = store.rows ++ row ∷ [] }

-- where a tape tells its bytes, they are the file of the rows
abbrev pub HoldsRows : Stored → Option (List ℕ) → Type 0
HoldsRows store told = IfSome told (IsFile store.format store.rows)

-- or begin with it
abbrev pub BeginsWith : Stored → Option (List ℕ) → Type 0
BeginsWith store told = IfSome told (λ bytes. (file : List ℕ) × (rest : List ℕ)
    × IsFile store.format store.rows file × (bytes ≡ file ++ rest))

-- a breach, as kr_store answers it
abbrev pub store_no : Breach → StoreNo
store_no Magic = no.Magic
store_no (Torn at) = no.Torn at
store_no (BadRow at) = no.BadRow at
store_no (Order at) = no.Order at

-- what bytes are read as: within the limit, the file of these rows, or their first breach
abbrev pub IsStored : List ℕ → Result Stored Refusal → Type 0
IsStored bytes (Ok stored) =
    (length bytes ≤ store_limit) × IsFile stored.format stored.rows bytes
IsStored bytes (Err why) =
    ((store_limit < length bytes) × (why ≡ Limit Store))
    ⊎ ((length bytes ≤ store_limit) × (breach : Breach) × IsBreach bytes (store_no breach)
    × (why ≡ Broken breach))

-- ---- a migration

-- a store that is to be migrated: its bytes don't begin with the name of the second format
abbrev pub begins_new : List ℕ → Bool
begins_new bytes = bytes_eq (take 8 bytes) (magic Two)

abbrev pub unless_new : List ℕ → Result Stored Refusal → Result Stored Refusal
unless_new bytes (Ok store) = if begins_new bytes then Err NotOld else Ok store
unless_new bytes (Err why) = Err why

abbrev pub IsSource : List ℕ → Result Stored Refusal → Type 0
IsSource bytes read =
    (stored : Result Stored Refusal) × IsStored bytes stored × (read ≡ unless_new bytes stored)

-- one that is to be written has no bytes
abbrev pub none_there : List ℕ → Result (Unit {0}) Refusal
none_there [] = Ok tt
none_there (byte ∷ bytes) = Err (NotEmpty (length (byte ∷ bytes)))

abbrev pub unless_there : List ℕ → Result Stored Refusal → Result Stored Refusal
unless_there [] stored = stored
unless_there (byte ∷ bytes) (Ok store) = Err (NotEmpty (length (byte ∷ bytes)))
unless_there (byte ∷ bytes) (Err why) = Err why

abbrev pub IsTarget : List ℕ → Result Stored Refusal → Type 0
IsTarget bytes read =
    (stored : Result Stored Refusal) × IsStored bytes stored × (read ≡ unless_there bytes stored)
