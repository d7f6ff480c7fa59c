-- Laws of what one entry of a history does to what is stored, by its line alone; and that no fault
-- of the store is hidden, nor that a write failed since the last one that was done.
use Rattle.std.specs.Prelude.{◌≡◌, ◌≢◌, ◌↔◌, ℕ, ◌+◌, ◌⊎◌, Bool, true, false, List, [], ◌∷◌, ◌++◌, length, All, Option, None, Some, IsSome, ⊤}
use Rattle.kr_base.specs.Faults.{Rose}
use Rattle.kr_store.specs.declared.rows.LogRow.{LogRow}
use Rattle.kr_store.specs.declared.rows.Row.{Row}
use Rattle.kr_store.specs.Rows.{live}
use Rattle.kr_kms.specs.Opens.{Opens}
use Rattle.kr_provider.specs.Reading.{Reading, data_of}
use Rattle.kr_rollout.specs.declared.line.Did.{Did}
use Rattle.kr_rollout.specs.declared.line.Did.TheVariants.{Put, Delete, Replace}
use Rattle.kr_rollout.specs.declared.line.Gave.{Gave}
use Rattle.kr_rollout.specs.declared.line.Gave.TheVariants.{Written, StoreFailed}
use Rattle.kr_rollout.specs.declared.opening.Entry.{Entry}
use Rattle.kr_rollout.specs.declared.opening.Opening.{Opening}
use Rattle.kr_rollout.specs.Histories.{ends_torn, state_of, IsLegal}
use Rattle.kr_rollout.specs.Written.{path_written}
use Rattle.kr_history.specs.Contents.{ContentChange, puts, deletes, change_at, IsContent}

-- ---- rows

-- the row of the path, of this resource and with this revision
abbrev pub IsRowOf : (path resource : List ℕ) → (revision : ℕ) → Option Row → Type 0
IsRowOf path resource revision found = (row : Row) × (found ≡ Some row) × (row.path ≡ path)
    × (row.resource ≡ resource) × (row.revision ≡ revision)

-- what lives at the written path: after a Put a row of its resource, after a Delete none, after a
-- Replace one of the same resource as the row that it replaced
abbrev pub MakesLive : Did → (revision : ℕ) → (before after : List LogRow) → Type 0
MakesLive (Put path resource plain) revision before after =
    IsRowOf path resource revision (live after path)
MakesLive (Delete path) revision before after =
    IsSome (live before path) × (live after path ≡ None)
MakesLive (Replace path from) revision before after = (old : Row) × (live before path ≡ Some old)
    × (old.revision ≡ from) × IsRowOf path old.resource revision (live after path)
MakesLive did revision before after = ⊥

-- the revision is the next one, and at each other path all is as before; no other answer changes a
-- row
abbrev pub ChangesLive : Gave → Did → (before after : List LogRow) → Type 0
ChangesLive (Written revision) did before after = (revision ≡ length before + 1)
    × MakesLive did revision before after
    × ((path : List ℕ) → path ≢ path_written did → live after path ≡ live before path)
ChangesLive gave did before after = after ≡ before

abbrev pub LineChangesLive : Type 0
LineChangesLive = (o : Opening) (history : List Entry) (e : Entry) → IsLegal o (history ++ e ∷ [])
    → ChangesLive e.line.gave e.line.did (state_of o history).rows
    (state_of o (history ++ e ∷ [])).rows

-- ---- contents

-- a written Put leaves its data, a written Delete nothing; by all else the content is as before
abbrev pub ContentAfter : Option ContentChange → (Before : Option Reading → Type 0)
    → Option Reading → Type 0
ContentAfter (Some (puts plain)) Before content = content ≡ Some (data_of plain)
ContentAfter (Some deletes) Before content = content ≡ None
ContentAfter None Before content = Before content

abbrev pub LineChangesContent : Type 0
LineChangesContent = (opens : Opens) (o : Opening) (history : List Entry) (e : Entry)
    (path : List ℕ) (content : Option Reading)
    → IsContent opens o (history ++ e ∷ []) path content
    ↔ ContentAfter (change_at e.line.gave e.line.did path) (IsContent opens o history path) content

-- ---- faults

-- not that the store failed
abbrev pub TellsNoFault : Gave → Type 0
TellsNoFault StoreFailed = ⊥
TellsNoFault gave = ⊤

-- where entries don't tell that, the count of the store's faults is as before them
abbrev pub FaultsAreTold : Type 0
FaultsAreTold = (o : Opening) (history more : List Entry) → IsLegal o (history ++ more)
    → All (λ e. TellsNoFault e.line.gave) more
    → (state_of o (history ++ more)).count ≡ (state_of o history).count

-- ---- writes that failed

-- neither that a row was written, nor that the store failed
abbrev pub TellsNoWrite : Gave → Type 0
TellsNoWrite (Written revision) = ⊥
TellsNoWrite StoreFailed = ⊥
TellsNoWrite gave = ⊤

-- whether a write has failed since the last one that was done, behind an answer that tells of one
abbrev pub TornBy : Gave → (torn : Bool) → Type 0
TornBy (Written revision) torn = torn ≡ false
TornBy StoreFailed torn = torn ≡ true
TornBy gave torn = ⊤

-- The last entry that tells of a write says whether one has failed since the last one that was
-- done, and where none tells of a write it is as at the opening. Where one has failed, it had at
-- the opening or the count of the store's faults rose
pub record TornIsTold : Type 0 where
  pub by_last : (o : Opening) (history more : List Entry) (e : Entry)
      → All (λ entry. TellsNoWrite entry.line.gave) more
      → TornBy e.line.gave (ends_torn o (history ++ e ∷ more))
  pub by_none : (o : Opening) (history : List Entry)
      → All (λ entry. TellsNoWrite entry.line.gave) history → ends_torn o history ≡ o.torn
  pub rose : (o : Opening) (history : List Entry) → IsLegal o history
      → ends_torn o history ≡ true
      → (o.torn ≡ true) ⊎ Rose o.count (state_of o history).count
