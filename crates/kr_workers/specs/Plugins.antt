-- Honest histories over plugins: what has to be supposed of them.
use Rattle.std.specs.Prelude.{◌≡◌, ℕ, List, ◌∷◌, ◌++◌, All, Option, None, Some, Ok, ⊤}
use Rattle.kr_kms.specs.Calls.{Link}
use Rattle.kr_kms.specs.Exchanges.{Exchange}
use Rattle.kr_kms.specs.Opens.{Opens}
use Rattle.kr_config.specs.declared.who.Who.{Who}
use Rattle.kr_provider.specs.Envelopes.{Envelope, HasObject, IsEnvelopeOf}
use Rattle.kr_kms.specs.declared.seeds.SeedRow.{SeedRow}
use Rattle.kr_provider.specs.Publication.{Publication, SeedOpens, list_at, writer_at}
use Rattle.kr_provider.specs.Readers.{reader_in}
use Rattle.kr_provider.specs.Reading.{Unseals}
use Rattle.kr_provider.specs.Sealing.{IsSealing}
use Rattle.kr_provider.specs.Unsealing.{HasNoSource, MayAskPlugin, TakesSeed}
use Rattle.kr_provider.specs.declared.refusal.Opened.{Opened}
use Rattle.kr_store.specs.declared.rows.Row.{Row}
use Rattle.kr_rollout.specs.declared.line.Did.TheVariants as did
use Rattle.kr_rollout.specs.declared.line.Gave.TheVariants as gave
use Rattle.kr_rollout.specs.declared.opening.Entry.{Entry}
use Rattle.kr_rollout.specs.declared.opening.Opening.{Opening}
use Rattle.kr_rollout.specs.Histories.{state_of}
use Rattle.kr_history.specs.Honesty.{IsHonest, KeepsDataSealed, SeedsOpen}
use Rattle.kr_script.specs.declared.script.Part.{Part}
use Rattle.kr_workers.specs.declared.files.SettingsFile.{SettingsFile}
use Rattle.kr_workers.specs.declared.worker.Worker.{Worker}
use Rattle.kr_workers.specs.Histories.{IsOneHistory}

-- the entry replaced the row of the path
pub record IsReplaced (path : List ℕ) (e : Entry) : Type 0 where
  pub from : ℕ
  pub revision : ℕ
  pub did_is : e.line.did ≡ did.Replace path from
  pub gave_is : e.line.gave ≡ gave.Written revision

-- it stands on an unsealing: the row that was replaced reads as these data by some envelope of it
-- and the seeds of the configuration that the seat held, and the row in its place is a sealing of
-- them
pub record Reseals (path : List ℕ) (e : Entry) : Type 0 where
  pub p : Publication
  pub old : Row
  pub new : Row
  pub opened : Opened
  pub envelope : Envelope
  pub held : e.published ≡ Some p
  pub replaced : e.replaced ≡ Some old
  pub written : e.row ≡ Some new
  pub object : HasObject (reader_in (list_at p old.resource) old.stored) old.stored envelope.object
  pub published : TakesSeed p.seeds (reader_in (list_at p old.resource) old.stored) envelope
  pub unsourced : HasNoSource envelope
  pub is : Unseals envelope p.seeds (list_at p old.resource) path old.stored (Ok opened)
  pub sealing : IsSealing p old.resource path opened.plain new.stored

-- by these openings the source of the replaced row opens to the envelope's: a source by which the
-- row reads as these data. That is asked only where a plugin read the row and may have been asked
-- for its source
abbrev pub UnwrappedBy : {path : List ℕ} → {e : Entry} → Opens → Reseals path e → Type 0
UnwrappedBy opens r =
    MayAskPlugin r.p.seeds (reader_in (list_at r.p r.old.resource) r.old.stored) r.envelope.object
    → IsEnvelopeOf opens (list_at r.p r.old.resource) r.old.stored r.envelope

-- the published seed opens of the provider that reads a value
abbrev pub ReaderOpens : Opens → List SeedRow → Option Who → Type 0
ReaderOpens opens seeds None = ⊤
ReaderOpens opens seeds (Some who) = SeedOpens opens seeds who

-- by these openings all that was asked for one row, or may have been: the seeds open of the
-- provider that read it and of the one that sealed its data anew, and so does its source
pub record SourcesOpen {path : List ℕ} {e : Entry} (opens : Opens) (r : Reseals path e)
    : Type 0 where
  pub read : ReaderOpens opens r.p.seeds (reader_in (list_at r.p r.old.resource) r.old.stored)
  pub sealed : SeedOpens opens r.p.seeds (writer_at r.p r.old.resource)
  pub unwrapped : UnwrappedBy opens r

-- By any openings by which plugins unwrap what they wrapped the history is honest: by which each
-- seed of each configuration is what its source opens to, and each row that was replaced has a
-- source that opens to the one by which it reads as what was sealed anew. That rewrites keep their
-- data follows, and of one row by what was asked for that row alone
pub record FollowsPlugins (o : Opening) (history : List Entry) : Type 0 where
  pub reseals : (front : List Entry) (e : Entry) (rest : List Entry) (path : List ℕ)
      → history ≡ front ++ e ∷ rest → IsReplaced path e → Reseals path e
  pub honest : (opens : Opens)
      → All (λ g. SeedsOpen opens g.published) (state_of o history).generations
      → ((front : List Entry) (e : Entry) (rest : List Entry) (path : List ℕ)
      → (is : history ≡ front ++ e ∷ rest) → (replaced : IsReplaced path e)
      → UnwrappedBy opens (reseals front e rest path is replaced))
      → IsHonest opens o history
  pub keeps : (opens : Opens) (front : List Entry) (e : Entry) (rest : List Entry)
      (path : List ℕ) → (is : history ≡ front ++ e ∷ rest) → (replaced : IsReplaced path e)
      → SourcesOpen opens (reseals front e rest path is replaced) → KeepsDataSealed opens path e

-- so is that of workers whose lines stand in it
abbrev pub HonestOfPlugins : (T : Type 0) → {L D : Type 0} → (L → Link)
    → (L → Exchange → L → Type 0) → (D → Option (List ℕ)) → (D → ℕ) → Type 0
HonestOfPlugins T {L} {D} link step left count = (files : List SettingsFile)
    (history : List Entry) (o : Opening) (parts : List Part) (budgets : List ℕ)
    (old new : List (Worker T L D))
    → IsOneHistory link step left count files history o parts budgets old new
    → FollowsPlugins o history
