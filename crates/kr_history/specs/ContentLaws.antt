-- Laws of contents: what is found reads as the content.
use Rattle.std.specs.Prelude.{◌≡◌, ◌↔◌, ◌⊎◌, ℕ, ◌<◌, false, List, [], ◌∷◌, ◌++◌, length, All, Contains, Option, None, Some, IsSome}
use Rattle.kr_store.specs.declared.rows.Row as stored_row
use Rattle.kr_store.specs.declared.rows.LogRow.{LogRow}
use Rattle.kr_store.specs.Rows.{live}
use Rattle.kr_store.specs.Stores.{IsNext}
use Rattle.kr_config.specs.Kept.{ConfigEntry}
use Rattle.kr_config.specs.Lists.{list_of}
use Rattle.kr_kms.specs.Opens.{Opens}
use Rattle.kr_provider.specs.Publication.{Publication, names_plugin}
use Rattle.kr_provider.specs.Reading.{Reading, HasReading}
use Rattle.kr_rollout.specs.declared.line.Did.{Did}
use Rattle.kr_rollout.specs.declared.line.Did.TheVariants.{Fetch, After, Put, Replace}
use Rattle.kr_rollout.specs.declared.line.Gave.TheVariants.{Found, Absent, Written}
use Rattle.kr_rollout.specs.declared.opening.Entry.{Entry}
use Rattle.kr_rollout.specs.declared.opening.Opening.{Opening}
use Rattle.kr_rollout.specs.States.{IsLive}
use Rattle.kr_rollout.specs.Histories.{state_of, IsLegal}
use Rattle.kr_history.specs.Contents.{IsContent}
use Rattle.kr_history.specs.Parts.{written_puts}
use Rattle.kr_history.specs.Honesty.{IsHonest, IsHonestAt, IsHonestEntry, KeepsHonest}

-- a path has one content alone
abbrev pub OneContent : Type 0
OneContent = (opens : Opens) (o : Opening) (history : List Entry) (path : List ℕ)
    (a b : Option Reading)
    → IsContent opens o history path a → IsContent opens o history path b → a ≡ b

-- and it has one
abbrev pub SomeContent : Type 0
SomeContent = (opens : Opens) (o : Opening) (history : List Entry) (path : List ℕ)
    → (content : Option Reading) × IsContent opens o history path content

-- there is nothing exactly where no row is live
abbrev pub NothingIsAbsent : Type 0
NothingIsAbsent = (opens : Opens) (o : Opening) (history : List Entry) (path : List ℕ)
    → IsLegal o history
    → IsContent opens o history path None ↔ (live (state_of o history).rows path ≡ None)

-- what lives was live at the opening, or a Put of its path was written since
abbrev pub LiveWasPut : Type 0
LiveWasPut = (o : Opening) (history : List Entry) (path : List ℕ) (row : stored_row.Row)
    → IsLegal o history → live (state_of o history).rows path ≡ Some row
    → IsSome (live o.rows path)
    ⊎ ((resource : List ℕ) × (plain : List ℕ)
    × Contains (written_puts history) (Put path resource plain))

-- where what stands at a path is honest, its live row reads by each live generation as the content
abbrev pub LiveReads : Type 0
LiveReads = (opens : Opens) (o : Opening) (history : List Entry) (path : List ℕ)
    (row : stored_row.Row) (rows : List ConfigEntry) (reading : Reading)
    → IsLegal o history → IsHonestAt opens path history
    → live (state_of o history).rows path ≡ Some row → IsLive (state_of o history) rows
    → HasReading opens (list_of rows row.resource) path row.stored reading
    ↔ IsContent opens o history path (Some reading)

-- the row that an entry finds is live before it: a Fetch finds that of its path, an After the one
-- with the least path above
abbrev pub IsRowFor : Did → List LogRow → stored_row.Row → Type 0
IsRowFor (Fetch path) rows row = (live rows path ≡ Some row) × (row.path ≡ path)
IsRowFor (After path) rows row = IsNext rows path (Some row)
IsRowFor did rows row = ⊥

abbrev pub FoundIsLive : Type 0
FoundIsLive = (o : Opening) (history : List Entry) (e : Entry) (revision : ℕ)
    → IsLegal o (history ++ e ∷ []) → e.line.gave ≡ Found revision
    → (row : stored_row.Row) × (e.row ≡ Some row)
    × IsRowFor e.line.did (state_of o history).rows row

-- so where what stood at its path before it is honest, it reads by each live generation as the
-- content of its path before the entry
abbrev pub FoundReads : Type 0
FoundReads = (opens : Opens) (o : Opening) (history : List Entry) (e : Entry) (revision : ℕ)
    (row : stored_row.Row) (rows : List ConfigEntry) (reading : Reading)
    → IsLegal o (history ++ e ∷ []) → IsHonestAt opens row.path history
    → e.line.gave ≡ Found revision → e.row ≡ Some row → IsLive (state_of o history) rows
    → HasReading opens (list_of rows row.resource) row.path row.stored reading
    ↔ IsContent opens o history row.path (Some reading)

-- a Fetch that finds nothing tells that there is none
abbrev pub AbsentIsNothing : Type 0
AbsentIsNothing = (opens : Opens) (o : Opening) (history : List Entry) (e : Entry) (path : List ℕ)
    → IsLegal o (history ++ e ∷ []) → e.line.did ≡ Fetch path → e.line.gave ≡ Absent
    → IsContent opens o history path None

-- a Replace that is written names the configuration that its seat holds, the row that was live
-- before it, and the one in its place
pub record ShowsReplaced (rows : List LogRow) (path : List ℕ) (from : ℕ) (e : Entry)
    : Type 0 where
  pub p : Publication
  pub old : stored_row.Row
  pub new : stored_row.Row
  pub held : e.published ≡ Some p
  pub replaced : e.replaced ≡ Some old
  pub written : e.row ≡ Some new
  pub was_live : live rows path ≡ Some old
  pub revision_is : old.revision ≡ from
  pub resource_is : new.resource ≡ old.resource

abbrev pub ReplacedIsLive : Type 0
ReplacedIsLive = (o : Opening) (history : List Entry) (e : Entry) (path : List ℕ)
    (from revision : ℕ) → IsLegal o (history ++ e ∷ []) → e.line.did ≡ Replace path from
    → e.line.gave ≡ Written revision
    → ShowsReplaced (state_of o history).rows path from e

-- written revisions rise strictly, so no write stands twice
abbrev pub RevisionsRise : Type 0
RevisionsRise = (o : Opening) (history front : List Entry) (e : Entry) (mid : List Entry)
    (f : Entry) (rest : List Entry) (written next : ℕ) → IsLegal o history
    → history ≡ front ++ e ∷ (mid ++ f ∷ rest) → e.line.gave ≡ Written written
    → f.line.gave ≡ Written next → written < next

-- a front of an honest history is honest, and with one more entry it is honest exactly where that
-- entry is
pub record HonestByEntries : Type 0 where
  pub front : (opens : Opens) (o : Opening) (history more : List Entry)
      → IsHonest opens o (history ++ more) → IsHonest opens o history
  pub more : (opens : Opens) (o : Opening) (history : List Entry) (e : Entry)
      → IsHonest opens o history
      → IsHonest opens o (history ++ e ∷ []) ↔ IsHonestEntry opens e

-- in an honest history what stands at each path is honest
abbrev pub HonestAtEach : Type 0
HonestAtEach = (opens : Opens) (o : Opening) (history : List Entry) (path : List ℕ)
    → IsLegal o history → IsHonest opens o history → IsHonestAt opens path history

-- a history that each seat keeps honest is so, if its opening is
abbrev pub HonestBySeats : Type 0
HonestBySeats = (opens : Opens) (o : Opening) (history : List Entry) → IsLegal o history
    → IsHonest opens o []
    → ((seat : ℕ) → seat < length o.reloads → KeepsHonest opens o seat history)
    → IsHonest opens o history

-- where no configuration names a plugin, each legal history is honest whatever plugins' sources
-- open to, and contents are the same
abbrev pub NamesNoPlugin : Opening → List Entry → Type 0
NamesNoPlugin o history =
    All (λ g. names_plugin g.published.rows ≡ false) (state_of o history).generations

-- none does where the opening lets configurations name none
abbrev pub NoNamesNoPlugin : Type 0
NoNamesNoPlugin = (o : Opening) (history : List Entry) → IsLegal o history → o.names ≡ []
    → NamesNoPlugin o history

abbrev pub HonestWithoutPlugin : Type 0
HonestWithoutPlugin = (opens : Opens) (o : Opening) (history : List Entry) → IsLegal o history
    → NamesNoPlugin o history → IsHonest opens o history

abbrev pub ContentWithoutPlugin : Type 0
ContentWithoutPlugin = (opens others : Opens) (o : Opening) (history : List Entry)
    (path : List ℕ) (content : Option Reading) → IsLegal o history → NamesNoPlugin o history
    → IsContent opens o history path content → IsContent others o history path content
