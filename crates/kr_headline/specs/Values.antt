-- What the pages ask of stored values: how they read, and what was sealed. A fleet's headline is
-- said of any `Values` and reaches no cipher; it is proved, by the law `headline_holds`, of
-- `sealed_values`, which are the providers' envelopes and ciphers.
use Rattle.std.specs.Prelude.{◌≡◌, ℕ, List, Option}
use Rattle.kr_config.specs.Kept.{ConfigEntry as setting}
use Rattle.kr_kms.specs.Opens.{Opens}
use Rattle.kr_provider.specs.Envelopes.{Envelope, IsEnvelopeOf}
use Rattle.kr_provider.specs.Publication.{Publication, list_at}
use Rattle.kr_provider.specs.Reading.{Reading}
use Rattle.kr_provider.specs.Sealing.{IsSealing}
use Rattle.kr_store.specs.declared.format.Check.{Check}
use Rattle.kr_store.specs.declared.format.Format.{Format}
use Rattle.kr_store.specs.declared.rows.LogRow.{LogRow}
use Rattle.kr_store.specs.declared.rows.Row.{Row}
use Rattle.kr_opening.specs.Checks.{written_check}
use Rattle.kr_rollout.specs.Writes.{WouldWrite, file_size}
use Rattle.kr_rollout.specs.declared.line.Did.{Did}
use Rattle.kr_history.specs.Contents.{OpeningContent}
use Rattle.kr_workers.specs.Configurations as made

pub record Values : Type 1 where
  -- the row's value reads so at its path by the configuration, with this source: a plugin's answer,
  -- or the seed with which the configuration was published, where that is the row's own
  pub Reads : Envelope → Publication → Row → Reading → Type 0
  -- by this truth the source is what the row's wrapped key opens to; this asks something only of a
  -- row that a plugin reads
  pub OpensTo : Opens → Envelope → Publication → Row → Type 0
  -- by this truth a row that stands at the path at the start, if one does, reads so by these
  -- settings
  pub ReadsAtStart : Opens → List setting → (path : List ℕ) → Option Row → Option Reading → Type 0
  -- the value is a sealing of the data, at their path, by the provider that the configuration lists
  -- first for the resource
  pub Seals : Publication → (resource path plain value : List ℕ) → Type 0
  -- what a store of the format keeps beside a value that the configuration writes for the resource:
  -- the check of the provider that it lists first, or none
  pub check_of : Format → Publication → (resource : List ℕ) → Option Check
  -- with a source that was had the row reads as data: fresh, as they would be sealed today, or
  -- stale; or it can't be read, or its data can't be sealed anew
  pub IsFresh : (HadSource : Envelope → Publication → Row → Type 0) → Publication → Row → Type 0
  pub IsStale : (HadSource : Envelope → Publication → Row → Type 0) → Publication → Row → Type 0
  pub IsLeft : (HadSource : Envelope → Publication → Row → Type 0) → Publication → Row → Type 0
  -- so many bytes the store's file would have with what the event writes behind these rows, by the
  -- configuration that is held
  pub NeedsBytes : Format → Did → List LogRow → Option Publication → (bytes : ℕ) → Type 0

-- the values of the providers: what `aescbc`, `aesgcm`, `kms` and `identity` make and read
abbrev pub sealed_values : Values
sealed_values = record {
  Reads = made.RowReads;
  OpensTo = λ opens envelope p row.
      IsEnvelopeOf opens (list_at p row.resource) row.stored envelope;
  ReadsAtStart = OpeningContent;
  Seals = IsSealing;
  check_of = written_check;
  IsFresh = made.IsFreshWith;
  IsStale = made.IsStaleWith;
  IsLeft = made.IsLeftWith;
  NeedsBytes = λ format done rows held bytes. (row : LogRow)
      × WouldWrite format done rows held row × (bytes ≡ file_size format rows row);
}
