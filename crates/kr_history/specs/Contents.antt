-- The content at a path: the data that were put there last, or what the opening's row reads as.
use Rattle.std.specs.Prelude.{◌≡◌, ℕ, List, [], ◌∷◌, if◌then◌else◌, Option, None, Some}
use Rattle.std.specs.Str.{bytes_eq}
use Rattle.kr_store.specs.declared.rows.Row as stored_row
use Rattle.kr_store.specs.Rows.{later, live}
use Rattle.kr_config.specs.Kept.{ConfigEntry}
use Rattle.kr_config.specs.Lists.{list_of}
use Rattle.kr_kms.specs.Opens.{Opens}
use Rattle.kr_provider.specs.Reading.{Reading, data_of, HasReading}
use Rattle.kr_rollout.specs.declared.line.Did.{Did}
use Rattle.kr_rollout.specs.declared.line.Did.TheVariants.{Put, Delete}
use Rattle.kr_rollout.specs.declared.line.Gave.{Gave}
use Rattle.kr_rollout.specs.declared.line.Gave.TheVariants.{Written}
use Rattle.kr_rollout.specs.declared.opening.Entry.{Entry}
use Rattle.kr_rollout.specs.declared.opening.Opening.{Opening}
use Rattle.kr_rollout.specs.Openings.{first_of}

-- what an entry makes of the content at a path: these data, or nothing
pub data ContentChange : Type 0 where
  puts : List ℕ → ContentChange
  deletes : ContentChange

-- a Put that is written makes it its data, a Delete nothing; all else leaves it, and a Replace too,
-- which seals the same data anew
abbrev pub change_by : Did → (path : List ℕ) → Option ContentChange
change_by (Put own resource plain) path = if bytes_eq own path then Some (puts plain) else None
change_by (Delete own) path = if bytes_eq own path then Some deletes else None
change_by did path = None

abbrev pub change_at : Gave → Did → (path : List ℕ) → Option ContentChange
change_at (Written revision) did path = change_by did path
change_at gave did path = None

-- the last of these
abbrev pub last_change : List Entry → (path : List ℕ) → Option ContentChange
last_change [] path = None
last_change (e ∷ history) path =
    later (last_change history path) (change_at e.line.gave e.line.did path)

-- how the opening's live row of a path reads by the first replica's settings; nothing where there
-- is none
abbrev pub OpeningContent : Opens → (first : List ConfigEntry) → (path : List ℕ)
    → Option stored_row.Row → Option Reading → Type 0
OpeningContent opens first path None content = content ≡ None
OpeningContent opens first path (Some row) content = (reading : Reading)
    × HasReading opens (list_of first row.resource) path row.stored reading
    × (content ≡ Some reading)

abbrev pub ContentBy : Option ContentChange → Opens → Opening → (path : List ℕ)
    → Option Reading → Type 0
ContentBy (Some (puts plain)) opens o path content = content ≡ Some (data_of plain)
ContentBy (Some deletes) opens o path content = content ≡ None
ContentBy None opens o path content =
    OpeningContent opens (first_of o) path (live o.rows path) content

-- the content at a path after these entries; `None` is that there is nothing
abbrev pub IsContent : Opens → Opening → (history : List Entry) → (path : List ℕ)
    → Option Reading → Type 0
IsContent opens o history path content = ContentBy (last_change history path) opens o path content
