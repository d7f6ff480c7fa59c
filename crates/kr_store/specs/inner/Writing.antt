-- Writing one row.
use Rattle.std.specs.Prelude.{◌≡◌, ℕ, ◌≤◌, Bool, if◌then◌else◌, List, [], Result, Ok, Err}
use Rattle.kr_base.specs.Faults.{Rose}
use Rattle.kr_base.specs.Numbering.{next_number}
use Rattle.kr_store.specs.declared.format.Format.{Format}
use Rattle.kr_store.specs.declared.kept_row.RowKind.{RowKind}
use Rattle.kr_store.specs.File.{magic}
use Rattle.kr_store.specs.inner.Index.{AddsAs, StaysAs}
use Rattle.kr_store.specs.inner.Log.{Tail, Extends, Tears}
use Rattle.kr_store.specs.declared.index.Index.{Index}
use Rattle.kr_store.specs.declared.write.RowWriteNo.{RowWriteNo}
use Rattle.kr_store.specs.declared.write.RowWriteNo.TheVariants.{Failed, NoMemory}
use Rattle.kr_store.specs.declared.answers.PutNo.{PutNo}
use Rattle.kr_store.specs.declared.answers.PutNo.TheVariants as refused

-- what is written before a row: the magic, where the file is empty
abbrev pub lead : Format → Bool → List ℕ
lead format empty = if empty then magic format else []

-- the row's bytes were appended without a fault and the index has it; or the tape failed, once, or
-- nothing was touched, and the index stays
abbrev pub Writes :
    {A : Type 0} → Tail → Tail → Index → Index → ℕ → List ℕ → RowKind → List ℕ → Result A RowWriteNo
    → Type 0
Writes old new before after k path kind bytes (Ok x) =
    Extends {E = RowWriteNo} old new bytes (Ok x) × AddsAs before after k path kind
    × (old.count ≤ new.count) × (new.count ≡ old.count)
Writes old new before after k path kind bytes (Err Failed) =
    Tears old new × StaysAs before after path kind
    × Rose old.count new.count × (old.count ≤ new.count) × (new.count ≡ next_number old.count)
Writes old new before after k path kind bytes (Err NoMemory) =
    (new ≡ old) × StaysAs before after path kind

-- what the store answers where a row wasn't written
abbrev pub put_refusal : RowWriteNo → PutNo
put_refusal Failed = refused.Failed
put_refusal NoMemory = refused.NoMemory
