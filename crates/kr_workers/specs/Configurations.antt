-- What a configuration makes of a row and of data: who reads it, how it reads, and which data it
-- can't seal. The pages of a line's part name these alone.
use Rattle.std.specs.Prelude.{◌≡◌, ◌<◌, ◌⊎◌, ℕ, Bool, true, false, List, length, Contains, Some, ⊤}
use Rattle.kr_base.specs.Limits.{data_limit}
use Rattle.kr_config.specs.Kept.{ConfigEntry as setting, plugins_in}
use Rattle.kr_config.specs.declared.who.Who.TheVariants.{Identity, Kms}
use Rattle.kr_envelope.specs.Prefixes.{is_marked}
use Rattle.kr_provider.specs.Envelopes.{Envelope, HasObject}
use Rattle.kr_provider.specs.Publication.{Publication, list_at, writer_at}
use Rattle.kr_provider.specs.Readers.{reader_in}
use Rattle.kr_provider.specs.Reading.{Reading, data_of, is_stale, refused, value_reading}
use Rattle.kr_provider.specs.Unsealing.{HasNoSource, TakesSeed}
use Rattle.kr_provider.specs.declared.refusal.ValueNo.{ValueNo}
use Rattle.kr_provider.specs.declared.refusal.ValueNo.TheVariants.{LooksEncrypted, TooLarge}
use Rattle.kr_store.specs.declared.rows.Row.{Row}

-- these settings name the plugin
abbrev pub NamesPlugin : List setting → (name : List ℕ) → Type 0
NamesPlugin rows name = Contains (plugins_in rows) name

-- the plugin reads the row
abbrev pub ReadBy : (name : List ℕ) → Publication → Row → Type 0
ReadBy name p row = reader_in (list_at p row.resource) row.stored ≡ Some (Kms name)

-- data that aren't sealed: they begin as sealed values do, where `identity` writes the resource; or
-- they are too large
abbrev pub CannotBeSealed : Publication → (resource plain : List ℕ) → ValueNo → Type 0
CannotBeSealed p resource plain LooksEncrypted =
    (writer_at p resource ≡ Identity) × (is_marked plain ≡ true)
CannotBeSealed p resource plain TooLarge = data_limit < length plain
CannotBeSealed p resource plain why = ⊥

-- the row reads so, with this source: a published seed, where one is the row's own, and none where
-- its object is refused
pub record RowReads (envelope : Envelope) (p : Publication) (row : Row) (reading : Reading)
    : Type 0 where
  pub object : HasObject (reader_in (list_at p row.resource) row.stored) row.stored envelope.object
  pub seed : TakesSeed p.seeds (reader_in (list_at p row.resource) row.stored) envelope
  pub unsourced : HasNoSource envelope
  pub reads : value_reading envelope (list_at p row.resource) row.path row.stored ≡ reading

-- by the sources that were had
module _ (HadSource : Envelope → Publication → Row → Type 0) where
  -- as data, stale or not: stale is what another provider than the writer sealed, or an older key
  -- of the plugin
  abbrev pub HoldsDataWith : Publication → Row → (stale : Bool) → (plain : List ℕ) → Type 0
  HoldsDataWith p row stale plain = (envelope : Envelope)
      × RowReads envelope p row (data_of plain)
      × (is_stale envelope p.seeds (list_at p row.resource) row.stored ≡ stale)
      × HadSource envelope p row

  abbrev pub IsFreshWith : Publication → Row → Type 0
  IsFreshWith p row = (plain : List ℕ) × HoldsDataWith p row false plain

  abbrev pub IsStaleWith : Publication → Row → Type 0
  IsStaleWith p row = (plain : List ℕ) × HoldsDataWith p row true plain

  -- it reads as no data, or as stale ones that can't be sealed anew
  abbrev pub IsLeftWith : Publication → Row → Type 0
  IsLeftWith p row = ((envelope : Envelope) × (why : ValueNo)
      × RowReads envelope p row (refused why) × HadSource envelope p row)
      ⊎ ((plain : List ℕ) × (why : ValueNo) × HoldsDataWith p row true plain
      × CannotBeSealed p row.resource plain why)

-- with any source
abbrev pub AnySource : Envelope → Publication → Row → Type 0
AnySource envelope p row = ⊤

abbrev pub IsFresh : Publication → Row → Type 0
IsFresh = IsFreshWith AnySource

abbrev pub IsStale : Publication → Row → Type 0
IsStale = IsStaleWith AnySource

abbrev pub IsLeft : Publication → Row → Type 0
IsLeft = IsLeftWith AnySource
