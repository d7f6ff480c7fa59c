-- Honest histories: plugins unwrap what they wrapped, and what is sealed anew is what stood there.
use Rattle.std.specs.Prelude.{◌≡◌, ℕ, List, [], ◌∷◌, ◌++◌, All, None, Some, IfSome, ⊤}
use Rattle.kr_store.specs.declared.rows.Row.{Row}
use Rattle.kr_kms.specs.Opens.{Opens, OpenAll}
use Rattle.kr_provider.specs.Publication.{Publication, SeedOpens, list_at, writer_at}
use Rattle.kr_provider.specs.Reading.{data_of, HasReading}
use Rattle.kr_provider.specs.Sealing.{IsSealing}
use Rattle.kr_rollout.specs.declared.line.Did.{Did}
use Rattle.kr_rollout.specs.declared.line.Did.TheVariants.{Put, Replace, Reload, Join}
use Rattle.kr_rollout.specs.declared.line.Gave.{Gave}
use Rattle.kr_rollout.specs.declared.line.Gave.TheVariants.{Written, Reloaded, Joined}
use Rattle.kr_rollout.specs.declared.opening.Entry.{Entry}
use Rattle.kr_rollout.specs.declared.opening.Opening.{Opening}
use Rattle.kr_history.specs.Contents.{last_change}

-- each wrapped seed of the configuration opens to the seed
abbrev pub SeedsOpen : Opens → Publication → Type 0
SeedsOpen opens p = OpenAll opens p.seeds

-- the row that was replaced reads as some data by the configuration that the seat holds, and the
-- new row is a sealing of these data
pub record KeepsData (opens : Opens) (path : List ℕ) (e : Entry) : Type 0 where
  pub p : Publication
  pub old : Row
  pub new : Row
  pub plain : List ℕ
  pub held : e.published ≡ Some p
  pub replaced : e.replaced ≡ Some old
  pub written : e.row ≡ Some new
  pub reads : HasReading opens (list_at p old.resource) path old.stored (data_of plain)
  pub sealing : IsSealing p old.resource path plain new.stored

-- that is asked of each replacement that is written, and of each configuration that a replica is
-- given that its seeds open. A put is a sealing of its data in each legal history
abbrev pub HonestBy : Gave → Did → Opens → Entry → Type 0
HonestBy (Written revision) (Replace path from) opens e = KeepsData opens path e
HonestBy (Reloaded number) (Reload replica p expect) opens e = SeedsOpen opens p
HonestBy (Joined number) (Join replica p) opens e = SeedsOpen opens p
HonestBy gave did opens e = ⊤

abbrev pub IsHonestEntry : Opens → Entry → Type 0
IsHonestEntry opens e = HonestBy e.line.gave e.line.did opens e

-- where sources open to so
pub record IsHonest (opens : Opens) (o : Opening) (history : List Entry) : Type 0 where
  pub opening : All (λ replica. IfSome replica (SeedsOpen opens)) o.replicas
  pub entries : All (IsHonestEntry opens) history

-- up to and with each entry of the seat the history is honest wherever it is so before the entry
abbrev pub KeepsHonest : Opens → Opening → (seat : ℕ) → List Entry → Type 0
KeepsHonest opens o seat history = (front : List Entry) (e : Entry) (rest : List Entry)
    → history ≡ front ++ e ∷ rest → e.line.seat ≡ seat → IsHonest opens o front
    → IsHonest opens o (front ++ e ∷ [])

-- ---- what stands at one path

-- the seed opens of the provider that seals this resource's values by the configuration that the
-- entry names
abbrev pub WriterOpens : Opens → (resource : List ℕ) → Entry → Type 0
WriterOpens opens resource e =
    (p : Publication) → e.published ≡ Some p → SeedOpens opens p.seeds (writer_at p resource)

-- a row that was replaced keeps its data, and the seed opens of the provider that sealed them anew
pub record KeepsDataSealed (opens : Opens) (path : List ℕ) (e : Entry) : Type 0 where
  pub keeps : KeepsData opens path e
  pub opens_it : SeedOpens opens keeps.p.seeds (writer_at keeps.p keeps.old.resource)

-- that is asked of what an entry writes at the path; of all else nothing
abbrev pub WritesHonestly : Gave → Did → Opens → (path : List ℕ) → Entry → Type 0
WritesHonestly (Written revision) (Put own resource plain) opens path e =
    own ≡ path → WriterOpens opens resource e
WritesHonestly (Written revision) (Replace own from) opens path e =
    own ≡ path → KeepsDataSealed opens path e
WritesHonestly gave did opens path e = ⊤

-- what stands at the path is honest: each entry is that wrote it since it was put, or since the
-- opening where nothing was put or deleted there. It asks nothing of other paths' rows, nor of the
-- plugins that no row of the path needs
abbrev pub IsHonestAt : Opens → (path : List ℕ) → List Entry → Type 0
IsHonestAt opens path history = (front : List Entry) (e : Entry) (rest : List Entry)
    → history ≡ front ++ e ∷ rest → last_change rest path ≡ None
    → WritesHonestly e.line.gave e.line.did opens path e
