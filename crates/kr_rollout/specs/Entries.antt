-- Entries: lines of the journal with the rows and the configuration that they name. They are
-- computed from all rows and all generations, and more of these change none of them.
use Rattle.std.specs.Prelude.{ℕ, ◌<◌, ◌≤◌, List, length, Option, None, Some, IfSome}
use Rattle.std.specs.List.{slice_get}
use Rattle.std.specs.Option.{option_map}
use Rattle.kr_store.specs.declared.rows.LogRow.{LogRow}
use Rattle.kr_store.specs.Rows.{put_at}
use Rattle.kr_provider.specs.Publication.{Publication}
use Rattle.kr_opening.specs.declared.generation.Generation.{Generation}
use Rattle.kr_rollout.specs.declared.line.Did.{Did}
use Rattle.kr_rollout.specs.declared.line.Did.TheVariants.{Replace}
use Rattle.kr_rollout.specs.declared.line.Gave.{Gave}
use Rattle.kr_rollout.specs.declared.line.Gave.TheVariants.{Adopted, Found, Written}
use Rattle.kr_rollout.specs.declared.line.Line.{Line}
use Rattle.kr_rollout.specs.declared.opening.Entry.{Entry}

-- the configuration of a generation
abbrev pub published_at : List Generation → Option ℕ → Option Publication
published_at generations None = None
published_at generations (Some number) =
    option_map (λ g. g.published) (slice_get generations number)

-- the revision of the row that was found or written; 0 where there is none
abbrev pub revision_in : Gave → ℕ
revision_in (Found revision) = revision
revision_in (Written revision) = revision
revision_in gave = 0

-- the revision of the row that was to be replaced; 0 where there is none
abbrev pub revision_replaced_in : Did → ℕ
revision_replaced_in (Replace path revision) = revision
revision_replaced_in did = 0

abbrev pub generation_adopted_in : Gave → Option ℕ
generation_adopted_in (Adopted generation) = Some generation
generation_adopted_in gave = None

-- the generation that the seat held, or else the one that it adopted
abbrev pub generation_named_by : (held : Option ℕ) → Gave → Option ℕ
generation_named_by (Some generation) gave = Some generation
generation_named_by None gave = generation_adopted_in gave

abbrev pub generation_named_in : Line → Option ℕ
generation_named_in line = generation_named_by line.held line.gave

abbrev pub entry_of : List LogRow → List Generation → Line → Entry
entry_of rows generations line = record {
  line = line;
  published = published_at generations (generation_named_in line);
  row = put_at rows (revision_in line.gave);
  replaced = put_at rows (revision_replaced_in line.did);
}

-- what the line names is there
pub record HasWhatItNames (rows : List LogRow) (generations : List Generation) (line : Line)
    : Type 0 where
  pub row : revision_in line.gave ≤ length rows
  pub replaced : revision_replaced_in line.did ≤ length rows
  pub generation : IfSome (generation_named_in line) (λ number. number < length generations)

-- the seat of an entry
abbrev pub seat_of : Entry → ℕ
seat_of entry = entry.line.seat
