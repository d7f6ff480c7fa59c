-- Where the source comes from with which a row was read.
use Rattle.std.specs.Prelude.{◌≡◌, ◌⊎◌, ℕ, List, Contains, Some, Ok}
use Rattle.kr_config.specs.declared.who.Who.TheVariants.{Kms}
use Rattle.kr_envelope.specs.declared.object.EncryptedObject.{EncryptedObject}
use Rattle.kr_kms.specs.Exchanges.{UnwrapCall}
use Rattle.kr_kms.specs.declared.seeds.SeedKey.{SeedKey}
use Rattle.kr_provider.specs.Envelopes.{Envelope, seed_key}
use Rattle.kr_provider.specs.Publication.{Publication, list_at}
use Rattle.kr_provider.specs.Readers.{reader_in}
use Rattle.kr_provider.specs.Unsealing.{MayAskPlugin}
use Rattle.kr_store.specs.declared.rows.Row.{Row}
use Rattle.kr_workers.specs.Heard.{Heard}

-- the plugin that the key names answered this worker so; or it had before the run, and the worker's
-- bench had kept that
abbrev pub WasAnswered : Heard → SeedKey → (source : List ℕ) → Type 0
WasAnswered heard key source =
    Contains heard.exchanges (UnwrapCall key (Ok source)) ⊎ Contains heard.kept (key, source)

-- a source that this worker had for the row: none has to be asked for, since no plugin reads the
-- row, its object is refused, or a published seed is its own; or the plugin that reads the row
-- answered so
abbrev pub HasSource : Heard → Envelope → Publication → Row → Type 0
HasSource heard envelope p row =
    (MayAskPlugin p.seeds (reader_in (list_at p row.resource) row.stored) envelope.object → ⊥)
    ⊎ ((name : List ℕ) × (object : EncryptedObject) × (source : List ℕ)
    × (reader_in (list_at p row.resource) row.stored ≡ Some (Kms name))
    × (envelope ≡ record { object = Ok object; source = Some source })
    × WasAnswered heard (seed_key name object) source)
