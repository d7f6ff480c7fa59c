-- What the store's answers to a write are answered as, and what they leave of the needs.
use Rattle.std.specs.Prelude.{◌≡◌, ℕ, List, Option, None, Some, Result, Ok, Err}
use Rattle.kr_store.specs.declared.answers.PutNo.{PutNo}
use Rattle.kr_store.specs.declared.answers.PutNo.TheVariants as no
use Rattle.kr_store.specs.declared.rows.Row.{Row}
use Rattle.kr_store.specs.declared.rows.LogRow.{LogRow}
use Rattle.kr_store.specs.declared.format.Check.{Check}
use Rattle.kr_store.specs.Rows.{put_of, check_in, latest, revision_of}
use Rattle.kr_store.specs.Stores.{Kept, IsLatestPut, Wrote, Fails, Refusal, Puts, Replaces}
use Rattle.kr_provider.specs.Publication.{Publication, list_at}
use Rattle.kr_provider.specs.Readers.{writer_of}
use Rattle.kr_judge.specs.declared.need.Need.{Need}
use Rattle.kr_judge.specs.Boards.{BoardState, set_need, drop_need}
use Rattle.kr_opening.specs.Checks.{written_check}
use Rattle.kr_rollout.specs.declared.answer.Answer.{Answer}
use Rattle.kr_rollout.specs.declared.answer.Answer.TheVariants as answer

abbrev pub refused_as : PutNo → Answer
refused_as no.Failed = answer.StoreFailed
refused_as (no.Full needed) = answer.StoreFull needed
refused_as (no.Changed last) = answer.Changed last
refused_as no.NoMemory = answer.NoMemory

abbrev pub written_as : Result ℕ PutNo → Answer
written_as (Ok revision) = answer.Written revision
written_as (Err why) = refused_as why

abbrev pub deleted_as : Result (Option ℕ) PutNo → Answer
deleted_as (Ok None) = answer.Absent
deleted_as (Ok (Some revision)) = answer.Written revision
deleted_as (Err why) = refused_as why

-- a value that was written needs its provider
abbrev pub needs_with : Result ℕ PutNo → Need → List Need → List Need
needs_with (Ok revision) need needs = set_need needs need
needs_with (Err why) need needs = needs

-- where a row was deleted, nothing is needed
abbrev pub needs_without : Result (Option ℕ) PutNo → List ℕ → List Need → List Need
needs_without (Ok None) path needs = needs
needs_without (Ok (Some revision)) path needs = drop_need needs path
needs_without (Err why) path needs = needs

-- a put of the resource, or a row in the place of the one with this revision
abbrev pub WritesRow : (over : Option ℕ) → Kept → Kept → (path resource stored : List ℕ) → Check
    → Result ℕ PutNo → Type 0
WritesRow None old new path resource stored check result =
    Puts old new (put_of path resource stored (check_in old.format check)) result
WritesRow (Some revision) old new path resource stored check result =
    Replaces old new path revision stored check result

-- a value was put, or not; one that was written needs the writer of its resource
abbrev pub PutsBy : Publication → Kept → Kept → (path resource stored : List ℕ) → BoardState
    → BoardState → Result ℕ PutNo → Type 0
PutsBy p old new path resource stored before after result =
    Puts old new (put_of path resource stored (written_check old.format p resource)) result
    × (after ≡ record before {
      needs = needs_with result
          (record { path = path; resource = resource; who = writer_of (list_at p resource) })
          before.needs;
    })

-- a row that takes the place of this one, with the check of the writer of its resource
abbrev pub sealed_over : Kept → Publication → Row → (path stored : List ℕ) → LogRow
sealed_over store p row path stored =
    put_of path row.resource stored (written_check store.format p row.resource)

-- why the row with this revision wasn't replaced
abbrev pub StaysBy : Publication → Kept → Kept → List ℕ → ℕ → List ℕ → PutNo → Type 0
StaysBy p old new path revision stored no.NoMemory = new ≡ old
StaysBy p old new path revision stored no.Failed =
    (row : Row) × IsLatestPut old.rows path revision row
    × Fails old new (sealed_over old p row path stored)
StaysBy p old new path revision stored (no.Full needed) =
    (row : Row) × IsLatestPut old.rows path revision row
    × Refusal old new (sealed_over old p row path stored) (no.Full needed)
StaysBy p old new path revision stored (no.Changed to) =
    (to ≡ revision_of (latest old.rows path)) × (new ≡ old)
    × ((row : Row) → IsLatestPut old.rows path revision row → ⊥)

-- the row with this revision was replaced, or not; a value that was written needs the writer of the
-- row's resource
abbrev pub ReplacesBy : Publication → Kept → Kept → List ℕ → ℕ → List ℕ → BoardState → BoardState
    → Result ℕ PutNo → Type 0
ReplacesBy p old new path revision stored before after (Ok to) =
    (row : Row) × IsLatestPut old.rows path revision row
    × Wrote old new (sealed_over old p row path stored) to
    × (after ≡ record before {
      needs = set_need before.needs (record {
        path = path;
        resource = row.resource;
        who = writer_of (list_at p row.resource);
      });
    })
ReplacesBy p old new path revision stored before after (Err why) =
    StaysBy p old new path revision stored why × (after ≡ before)
