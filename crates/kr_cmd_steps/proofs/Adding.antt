-- A row that is added to a store, whose tape is out.
use Rattle.std.proofs.Common.{◌≡◌, ◌≢◌, ℕ, ◌+◌, ◌<◌, ◌≤◌, List, [], ◌∷◌, ◌++◌, length, Bool, false, Option, None, Some, Result, Ok, Err, refl, sym, ◌∙◌, ap, subst, inl, inr, append-nil, length-append, arith}
use Rattle.std.specs.Prelude.{IfOk, IfSome, IsSome, is_some, codes, decimal, true}
use Rattle.kr_base.specs.Faults.{counted}
use Rattle.kr_base.specs.Limits.{store_limit}
use Rattle.kr_store.specs.File.{IsFile, magic, row_bytes, rows_bytes}
use Rattle.kr_store.specs.Rows.{delete_of, live}
use Rattle.kr_store.specs.Stores.{Kept, Deletes, Holds, Wrote, Fails, Puts, length_with}
use Rattle.kr_store.specs.Stores as refusal
use Rattle.kr_store.specs.declared.answers.PutNo.{PutNo}
use Rattle.kr_store.specs.declared.answers.PutNo.TheVariants as refused
use Rattle.kr_store.specs.declared.format.Format.{Format}
use Rattle.kr_store.specs.declared.rows.LogRow.{LogRow}
use Rattle.kr_cmd_steps.specs.Environment.{Environment}
use Rattle.kr_cmd_steps.specs.Phases.{adding, silently}
use Rattle.kr_cmd_steps.specs.StoreSteps.{revision_line}
use Rattle.kr_cmd_steps.specs.Steps.{Steps, give, and_then}
use Rattle.kr_cmd_steps.specs.StoreFiles.{Stored, with_row, HoldsRows, BeginsWith}
use Rattle.kr_cmd_steps.specs.inner.Counting.{is_fault}
use Rattle.kr_cmd_steps.specs.inner.Lent.{with_lent_tape}
use Rattle.kr_cmd_steps.specs.inner.Phases.{Does}
use Rattle.kr_cmd_steps.specs.inner.Tapes.{HasOneMore, IsWriteStop, answered, grown_by, stored_of}
use Rattle.kr_cmd_messages.specs.declared.refusal.Limit.TheVariants as limit
use Rattle.kr_cmd_messages.specs.declared.refusal.Object.{Object}
use Rattle.kr_cmd_messages.specs.declared.refusal.Refusal.TheVariants.{Limit}
use Rattle.kr_cmd_messages.specs.declared.refusal.Outcome.{Outcome}
use Rattle.kr_cmd_messages.specs.declared.refusal.Stop.{Stop}
use Rattle.kr_cmd_messages.specs.declared.refusal.Stop.TheVariants.{Refused, Fault, NoMemory}
use Rattle.kr_cmd_steps.proofs.AddedRows.{row_is_above, row_is_added, row_is_lacking, row_is_torn}
use Rattle.kr_cmd_steps.proofs.RunTo.{given as given_so, goes_on, stops}

-- ---- what a tape tells

holds_rows : (store : Stored) (told : Option (List ℕ)) (file : List ℕ)
    → IsFile store.format store.rows file
    → IfSome told (λ bytes. (rest : List ℕ) × (bytes ≡ file ++ rest) × (false ≡ false → rest ≡ []))
    → HoldsRows store told
holds_rows store None file is t = tt
holds_rows store (Some bytes) file is (rest, e, none) =
    subst (IsFile store.format store.rows)
    (sym (e ∙ ap (λ r. file ++ r) (none refl) ∙ append-nil file)) is

begins_with : (store : Stored) (told : Option (List ℕ)) (file : List ℕ) (torn : Bool)
    → IsFile store.format store.rows file
    → IfSome told (λ bytes. (rest : List ℕ) × (bytes ≡ file ++ rest) × (torn ≡ false → rest ≡ []))
    → BeginsWith store told
begins_with store None file torn is t = tt
begins_with store (Some bytes) file torn is (rest, e, none) = (file, rest, is, e)

-- a store that is whole has the file of its rows
now_holds : (store : Stored) (now : Kept) → Holds now → now.torn ≡ false
    → now.rows ≡ store.rows → now.format ≡ store.format → HoldsRows store now.told
now_holds store now (file, is, long, short, told) whole rows format =
    holds_rows store now.told file
    (subst (λ f. IsFile f store.rows file) format
    (subst (λ r. IsFile now.format r file) rows is))
    (subst (λ t. IfSome now.told (λ bytes. (rest : List ℕ) × (bytes ≡ file ++ rest)
    × (t ≡ false → rest ≡ []))) whole told)

now_begins : (store : Stored) (now : Kept) → Holds now → now.rows ≡ store.rows
    → now.format ≡ store.format → BeginsWith store now.told
now_begins store now (file, is, long, short, told) rows format =
    begins_with store now.told file now.torn
    (subst (λ f. IsFile f store.rows file) format
    (subst (λ r. IsFile now.format r file) rows is)) told

module _ (object : Object) (name : List ℕ) (row : LogRow) (old new : Kept)
    (limit_is : old.limit ≡ store_limit) (a : Environment) where
  abbrev Out : Kept → Environment
  Out store = with_lent_tape name store.told store.count a

  -- what the row's steps come to
  abbrev Adds : Kept → Result Stored Stop → Type 0
  Adds now result = Does (adding object name (stored_of old) row) (Out old) (Out now) result

  pub row_added : {revision : ℕ} → Wrote old new row revision → Holds new
      → Adds new (Ok (with_row row (stored_of old)))
  row_added w holds = row_is_added object name (stored_of old) row old.told new.told old.count
      new.count w.later a
      (now_holds (with_row row (stored_of old)) new holds w.whole w.rows w.format)
      (omega (arith, w.within, limit_is))

  pub row_torn : {count : ℕ} → Fails old new row → Holds new → count ≡ new.count
      → Adds new (Err (Fault object count))
  row_torn f holds same = subst (λ n. Adds new (Err (Fault object n))) (sym same)
      (row_is_torn object name (stored_of old) row old.told new.told old.count new.count f.later a
      (now_begins (stored_of old) new holds f.rows f.format) f.rose
      (omega (arith, f.within, limit_is)))

  -- where the store stayed as it was
  pub row_above : new ≡ old → old.limit < length_with old row
      → Adds new (Err (Refused (Limit limit.Store)))
  row_above same long = subst (λ k. Adds k (Err (Refused (Limit limit.Store)))) (sym same)
      (row_is_above object name (stored_of old) row old.told old.told old.count old.count
      (omega arith) a (omega (arith, long, limit_is)))

  pub row_lacking : new ≡ old → Adds new (Err NoMemory)
  row_lacking same = subst (λ k. Adds k (Err NoMemory)) (sym same)
      (row_is_lacking object name (stored_of old) row old.told old.told old.count old.count
      (omega arith) a)

  -- whatever it was refused for
  pub row_refused : (why : PutNo) {count : ℕ} (stop : Stop) → refusal.Refusal old new row why
      → Holds new → count ≡ new.count → IsWriteStop object count why stop → Adds new (Err stop)
  row_refused refused.Failed stop f holds same is =
      subst (λ s. Adds new (Err s)) (sym is) (row_torn f holds same)
  row_refused (refused.Full needed) stop (kept, long, above) holds same is =
      subst (λ s. Adds new (Err s)) (sym is) (row_above kept (omega (arith, long, above)))
  row_refused (refused.Changed revision) stop f holds same is = absurd f
  row_refused refused.NoMemory stop kept holds same is =
      subst (λ s. Adds new (Err s)) (sym is) (row_lacking kept)

-- ---- what the store answered

pub refused_so : (old new : Kept) (row : LogRow) {result : Result ℕ PutNo} {why : PutNo}
    → Puts old new row result → result ≡ Err why → refusal.Refusal old new row why
refused_so old new row put is = subst (λ r. Puts old new row r) is put

-- it is refused for no row that changed, and its rows stay
pub unchanged : (old new : Kept) (row : LogRow) (why : PutNo) → refusal.Refusal old new row why
    → (revision : ℕ) → why ≢ refused.Changed revision
unchanged old new row why r revision is = subst (λ w. refusal.Refusal old new row w) is r

-- a row that wasn't written counts a fault where that is told, and else none
pub refused_counted : (old new : Kept) (row : LogRow) (object : Object) (faults : ℕ) (why : PutNo)
    (stop : Stop) → refusal.Refusal old new row why → IsWriteStop object faults why stop
    → new.count ≡ counted (is_fault stop) old.count
refused_counted old new row object faults refused.Failed stop f is =
    f.once ∙ ap (λ s. counted (is_fault s) old.count) (sym is)
refused_counted old new row object faults (refused.Full needed) stop kept is =
    ap (λ k. k.count) kept.0 ∙ ap (λ s. counted (is_fault s) old.count) (sym is)
refused_counted old new row object faults (refused.Changed revision) stop f is = absurd f
refused_counted old new row object faults refused.NoMemory stop kept is =
    ap (λ k. k.count) kept ∙ ap (λ s. counted (is_fault s) old.count) (sym is)

pub rows_kept : (old new : Kept) (row : LogRow) (why : PutNo) → refusal.Refusal old new row why
    → new.rows ≡ old.rows
rows_kept old new row refused.Failed f = f.rows
rows_kept old new row (refused.Full needed) (kept, long, above) = ap (λ s. s.rows) kept
rows_kept old new row (refused.Changed revision) f = absurd f
rows_kept old new row refused.NoMemory kept = ap (λ s. s.rows) kept

-- what a delete comes to: its row was written, or why it wasn't, where the path has a live row
pub deleted_so : (old new : Kept) (path : List ℕ) (revision : ℕ)
    {result : Result (Option ℕ) PutNo} {found : Option ℕ} → Deletes old new path result
    → result ≡ Ok found → found ≡ Some revision → Wrote old new (delete_of path) revision
deleted_so old new path revision {result} {found} deletes is same =
    (subst (λ f. Deletes old new path (Ok f)) same
    (subst (λ r. Deletes old new path r) is deletes)).1

pub gone : (old new : Kept) (path : List ℕ) {result : Result (Option ℕ) PutNo}
    {found : Option ℕ} → IsSome (live old.rows path) → Deletes old new path result
    → result ≡ Ok found → found ≡ None → ⊥
gone old new path {result} {found} there deletes is same =
    let none = (subst (λ f. Deletes old new path (Ok f)) same
    (subst (λ r. Deletes old new path r) is deletes)).0 in
    absurd (let t : true ≡ false = sym there ∙ ap is_some none in cc)

pub undeleted_so : (old new : Kept) (path : List ℕ) {result : Result (Option ℕ) PutNo}
    (why : PutNo) → Deletes old new path result → result ≡ Err why
    → refusal.Refusal old new (delete_of path) why
undeleted_so old new path why deletes is =
    by_why why (subst (λ r. Deletes old new path r) is deletes)
  where
    by_why : (why : PutNo) → Deletes old new path (Err why)
        → refusal.Refusal old new (delete_of path) why
    by_why (refused.Changed revision) d = absurd d
    by_why refused.NoMemory d = d
    by_why other d = d.1

-- a store that wrote a row has one more
pub one_more : {old new : Kept} {row : LogRow} {revision : ℕ} → Wrote old new row revision
    → HasOneMore row old new
one_more w = record { rows = w.rows; format = w.format; within = w.limit }

-- ---- what `put` answers

pub put_answers : (object : Object) (name : List ℕ) {old new : Environment} (read : Stored)
    (row given : LogRow) (added : Result (Unit {0}) Stop) (line : List ℕ) → given ≡ row
    → line ≡ revision_line (with_row row read)
    → Does (adding object name read given) old new (grown_by given read added)
    → Does (and_then (adding object name read row) (λ grown. give (silently (revision_line grown))))
    old new (answered added line)
put_answers object name {old} {new} read row given added line same is d =
    by_cases added (subst (λ r. Does (adding object name read r) old new (grown_by r read added))
    same d)
  where
    next : Stored → Steps Outcome
    next store = give (silently (revision_line store))

    by_cases : (added : Result (Unit {0}) Stop)
        → Does (adding object name read row) old new (grown_by row read added)
        → Does (and_then (adding object name read row) next) old new (answered added line)
    by_cases (Ok done) d = goes_on (adding object name read row) next (with_row row read) d
        (subst (λ l. Does (give (silently (revision_line (with_row row read)))) new new
        (Ok (silently l))) (sym is) (given_so (silently (revision_line (with_row row read))) new))
    by_cases (Err stop) d = stops (adding object name read row) next stop d

-- the line of the next row is that of the store with any row more
pub next_told : {E : Type 0} (store : Stored) (next : ℕ) (line : Result (List ℕ) E)
    → next ≡ length store.rows + 1
    → IfOk line (λ line. line ≡ codes "revision " ++ (decimal next ++ codes "\n"))
    → IfOk line (λ line. (row : LogRow) → line ≡ revision_line (with_row row store))
next_told store next (Ok line) e h = λ row. h
    ∙ ap (λ n. codes "revision " ++ (decimal n ++ codes "\n"))
    (e ∙ sym (length-append store.rows (row ∷ [])))
next_told store next (Err why) e h = tt

-- ---- how many rows there are

pub few_rows : (k : ℕ) (rows : List LogRow) → length rows ≤ length (rows_bytes k rows)
few_rows k [] = omega arith
few_rows k (row ∷ rows) = omega (
  arith,
  few_rows (k + 1) rows,
  length-append (row_bytes k row) (rows_bytes (k + 1) rows),
)

pub rows_within : (format : Format) (rows : List LogRow) (file : List ℕ) → IsFile format rows file
    → length rows ≤ length file
rows_within format rows file (are, inl (two, none, nothing)) = omega (arith, ap length none)
rows_within format rows file (are, inr same) = omega (
  arith,
  ap length same,
  length-append (magic format) (rows_bytes 1 rows),
  few_rows 1 rows,
)
