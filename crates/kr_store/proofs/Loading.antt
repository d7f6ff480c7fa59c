-- Loading the rows of a file one after another.
use Rattle.std.proofs.Common.{◌≡◌, ℕ, ◌+◌, ◌^◌, ◌<◌, ◌≤◌, true, false, List, [], ◌∷◌, ◌++◌, length, Option, None, Some, Ok, Err, IfSome, refl, sym, ◌∙◌, ap, subst, arith, length-append, append_assoc, inl, inr}
use Rattle.std.proofs.lemmas.List.{append-nil, map-append, length-map}
use Rattle.kr_base.specs.Told.{Agrees}
use Rattle.kr_store.specs.declared.format.Format.{Format}
use Rattle.kr_store.specs.declared.format.Format.TheVariants.{Two}
use Rattle.kr_store.specs.declared.rows.LogRow.{LogRow}
use Rattle.kr_store.specs.Rows.{MayFollow, AllFollow, AreRows}
use Rattle.kr_store.specs.inner.KeptRows.{log_row_of, log_rows_of, IsKeptRow, AreKeptRows}
use Rattle.kr_store.specs.File.{magic, row_bytes, rows_bytes, file_bytes}
use Rattle.kr_store.specs.Breaches.{Read, behind, row_part, next_row, may_change, kept_if, BreaksFileAt}
use Rattle.kr_store.specs.inner.Index.{IsIndexOf, Adds, allows}
use Rattle.kr_store.specs.inner.Reading.{Ahead, Moves, Gives, Takes, MayBreak, AreLoaded, LoadsRows, kept_bytes, load_refusal, stop_failed}
use Rattle.kr_store.specs.Stores.{load_failed}
use Rattle.kr_store.specs.declared.answers.Cause.{Cause}
use Rattle.kr_store.specs.declared.answers.Cause.TheVariants.{Torn, BadRow, Order}
use Rattle.kr_store.specs.declared.answers.LoadStop.{LoadStop}
use Rattle.kr_store.specs.declared.answers.LoadStop.TheVariants.{Breach, Failed, NoMemory}
use Rattle.kr_store.specs.declared.answers.StoreNo.TheVariants as no
use Rattle.kr_store.proofs.Parts.{reads_kept}
use Rattle.kr_store.proofs.Indexes.{adds_indexed, allowed}
use Rattle.kr_store.specs.declared.index.Index.{Index}
use Rattle.kr_store.specs.declared.kept_row.KeptRow.{KeptRow}
use Rattle.kr_store.specs.declared.kept_row.KeptRow.TheVariants as kept
use Rattle.kr_store.proofs.Steps.{takes_both, moves_both, some_left, agrees_behind, nothing_more}

-- the rows that were read so far
pub record IsReadTo (first now : Ahead) (format : Format) (rows : List KeptRow) (index : Index)
    : Type 0 where
  pub moves : Moves false first now
  pub takes : Takes first now (file_bytes format (log_rows_of rows))
  pub start : first.place ≡ 0
  pub kept_rows : AreKeptRows format 1 rows
  pub good : AreRows format (log_rows_of rows)
  pub indexed : IsIndexOf (log_rows_of rows) index

pub log_rows_more : (rows : List KeptRow) (e : KeptRow)
    → log_rows_of (rows ++ e ∷ []) ≡ log_rows_of rows ++ log_row_of e ∷ []
log_rows_more rows e = map-append log_row_of rows (e ∷ [])

pub log_rows_length : (rows : List KeptRow) → length (log_rows_of rows) ≡ length rows
log_rows_length rows = length-map rows log_row_of

rows_more : (k : ℕ) (rows : List LogRow) (line : LogRow) → rows_bytes k
    (rows ++ line ∷ []) ≡ rows_bytes k rows ++ row_bytes (k + length rows) line
rows_more k [] line = append-nil (row_bytes k line) ∙ ap (λ n. row_bytes n line) (omega arith)
rows_more k (row ∷ rows) line =
    ap (λ l. row_bytes k row ++ l) (rows_more (k + 1) rows line)
    ∙ sym (append_assoc (row_bytes k row) (rows_bytes (k + 1) rows)
    (row_bytes (k + 1 + length rows) line))
    ∙ ap (λ n. (row_bytes k row ++ rows_bytes (k + 1) rows) ++ row_bytes n line) (omega arith)

pub file_more : (format : Format) (rows : List LogRow) (line : LogRow) (k : ℕ)
    → k ≡ length rows + 1
    → file_bytes format (rows ++ line ∷ []) ≡ file_bytes format rows ++ row_bytes k line
file_more format rows line k e =
    ap (λ l. magic format ++ l)
    (rows_more 1 rows line ∙ ap (λ n. rows_bytes 1 rows ++ row_bytes n line) (omega arith))
    ∙ sym (append_assoc (magic format) (rows_bytes 1 rows) (row_bytes k line))

-- each row has a byte at least
pub rows_long : (k : ℕ) (rows : List LogRow) → length rows ≤ length (rows_bytes k rows)
rows_long k [] = omega arith
rows_long k (row ∷ rows) = omega (
  arith,
  length-append (row_bytes k row)
      (rows_bytes (k + 1) rows),
  rows_long (k + 1) rows,
)

pub kept_rows_more : (format : Format) (k : ℕ) (rows : List KeptRow) (e : KeptRow) (n : ℕ)
    → n ≡ k + length rows → AreKeptRows format k rows → IsKeptRow format n e
    → AreKeptRows format k (rows ++ e ∷ [])
kept_rows_more format k [] e n is all i =
    (subst (λ m. IsKeptRow format m e) (omega arith) i, tt)
kept_rows_more format k (row ∷ rows) e n is all i =
    (all.0, kept_rows_more format (k + 1) rows e n (omega arith) all.1 i)

follow_more : (format : Format) (before rows : List LogRow) (line : LogRow)
    → AllFollow format before rows → MayFollow format (before ++ rows) line
    → AllFollow format before (rows ++ line ∷ [])
follow_more format before [] line all m =
    (subst (λ l. MayFollow format l line) (append-nil before) m, tt)
follow_more format before (row ∷ rows) line all m = (
  all.0,
  follow_more format (before ++ row ∷ []) rows line all.1
      (subst (λ l. MayFollow format l line) (sym (append_assoc before (row ∷ []) rows)) m),
)

pub rows_follow : (format : Format) (rows : List LogRow) (line : LogRow)
    → AreRows format rows → MayFollow format rows line → AreRows format (rows ++ line ∷ [])
rows_follow format rows line all m = follow_more format [] rows line all m

-- a row that keeps its rules may stand behind the rows, if its change may
follows : (format : Format) (rows : List LogRow) (k : ℕ) (e : KeptRow)
    → k ≡ length rows + 1 → k < 2 ^ 64 → IsKeptRow format k e
    → may_change rows (log_row_of e).path (log_row_of e).change ≡ true
    → MayFollow format rows (log_row_of e)
follows format rows k (kept.Put row) is small i m =
    record { revision = omega arith; path = i.0.0; change = i.0.1 }
follows format rows k (kept.Delete path) is small i m =
    record { revision = omega arith; path = i; change = m }

pub loading_more : (first now next : Ahead) (format : Format) (rows : List KeptRow)
    (index after : Index) (e : KeptRow) (k : ℕ) → IsReadTo first now format rows index
    → k ≡ length rows + 1 → k < 2 ^ 64 → Moves false now next → Takes now next (kept_bytes k e)
    → IsKeptRow format k e → allows index e ≡ true → Adds index after k (log_row_of e)
    → IsReadTo first next format (rows ++ e ∷ []) after
loading_more first now next format rows index after e k l is small m t i a d =
    let lines : List LogRow = log_rows_of rows in
    let line : LogRow = log_row_of e in
    let more : k ≡ length lines + 1 = omega (arith, log_rows_length rows) in
    let both : log_rows_of (rows ++ e ∷ []) ≡ lines ++ line ∷ [] = log_rows_more rows e in
    let follow = follows format lines k e more small i (sym (allowed lines index e l.indexed)
    ∙ a) in
    record {
      moves = moves_both first now next l.moves m;
      takes = subst (λ b. Takes first next b)
          (sym (ap (file_bytes format) both ∙ file_more format lines line k more))
          (takes_both first now next (file_bytes format lines) (kept_bytes k e) l.takes t);
      start = l.start;
      kept_rows = kept_rows_more format 1 rows e k (omega arith) l.kept_rows i;
      good = subst (AreRows format) (sym both) (rows_follow format lines line l.good follow);
      indexed = subst (λ (z : List LogRow). IsIndexOf z after) (sym both)
          (adds_indexed lines line index after k more d l.indexed);
    }

pub loading_ended : (first now : Ahead) (format : Format) (rows : List KeptRow) (index : Index)
    → IsReadTo first now format rows index → now.place ≡ now.end
    → AreLoaded first format rows index
loading_ended first now format rows index l e =
    let file : List ℕ = file_bytes format (log_rows_of rows) in
    let some = some_left now.left now.place now.end l.moves.within l.moves.known in
    record {
      bytes = file;
      agrees = subst (λ b. Agrees first.left b)
          (nothing_more file some.0 (omega (arith, some.2)))
          (agrees_behind first.left now.left file some.0 l.takes.consumed some.1);
      length = omega (arith, l.takes.place, l.start, l.moves.end);
      file = (l.good, inr refl);
      kept_rows = l.kept_rows;
      indexed = l.indexed;
    }

pub nothing_loaded : (first : Ahead) (index : Index) → Moves false first first → first.place ≡ 0
    → first.place ≡ first.end → IsIndexOf [] index → AreLoaded first Two [] index
nothing_loaded first index m s e i =
    let some = some_left first.left first.place first.end m.within m.known in
    record {
      bytes = [];
      agrees = subst (λ b. Agrees first.left b)
          (nothing_more [] some.0 (omega (arith, some.2))) some.1;
      length = omega arith;
      file = (tt, inl (refl, refl, refl));
      kept_rows = tt;
      indexed = i;
    }

rows_before : (first now : Ahead) (format : Format) (rows : List KeptRow) (index : Index)
    → IsReadTo first now format rows index → length rows + 8 ≤ now.place
rows_before first now format rows index l = omega (
  arith,
  l.takes.place,
  l.start,
  length-append (magic format) (rows_bytes 1 (log_rows_of rows)),
  rows_long 1 (log_rows_of rows),
  log_rows_length rows,
)

-- the number of the next row fits where its place does
pub next_small : (first now : Ahead) (format : Format) (rows : List KeptRow) (index : Index)
    (k at : ℕ) → IsReadTo first now format rows index → k ≡ length rows + 1 → at ≡ now.place
    → at < 2 ^ 64 → k < 2 ^ 64
next_small first now format rows index k at l is place fits =
    omega (arith, is, place, fits, rows_before first now format rows index l)

-- bytes that may be all there are break at this place
abbrev BreaksIn : Ahead → ℕ → Cause → Type 0
BreaksIn first at cause =
    (bytes : List ℕ) × Agrees first.left bytes × (length bytes ≤ first.end)
    × BreaksFileAt bytes at cause

-- what breaks at the next row breaks the file there
broken : (first now : Ahead) (format : Format) (rows : List KeptRow) (index : Index)
    (cause : Cause) (rest : List ℕ) → IsReadTo first now format rows index
    → Agrees now.left rest → now.place + length rest ≤ now.end → (rest ≡ [] → ⊥)
    → next_row format (log_rows_of rows) rest ≡ Err cause → (at : ℕ) → at ≡ now.place
    → BreaksIn first at cause
broken first now format rows index cause rest l a w n b at p =
    let lines : List LogRow = log_rows_of rows in
    let file : List ℕ = file_bytes format lines in (
      file ++ rest,
      agrees_behind first.left now.left file rest l.takes.consumed a,
      omega (arith, length-append file rest, l.takes.place, l.start, l.moves.end),
      record {
        format = format;
        rows = lines;
        rest = rest;
        good = l.good;
        split = refl;
        more = n;
        breaks = b;
        place = omega (arith, l.takes.place, l.start);
      },
    )

as_breach : (first : Ahead) (cause : Cause) (at : ℕ) → BreaksIn first at cause
    → MayBreak first (load_refusal (Breach cause) at)
as_breach first Torn at b =
    record { bytes = b.0; agrees = b.1; within = b.2; breach = inr b.3 }
as_breach first BadRow at b =
    record { bytes = b.0; agrees = b.1; within = b.2; breach = b.3 }
as_breach first Order at b =
    record { bytes = b.0; agrees = b.1; within = b.2; breach = b.3 }

-- the next row's bytes break
reads_none : (format : Format) (k : ℕ) (cause : Cause) → row_part format k [] ≡ Err cause
    → cause ≡ Torn
reads_none format k cause e = cc

abbrev if_allowed : List LogRow → LogRow → List ℕ → Read LogRow
if_allowed rows line rest = kept_if (may_change rows line.path line.change) BadRow line rest

next_breaks : (format : Format) (rows : List LogRow) (k : ℕ) (rest : List ℕ) (cause : Cause)
    → k ≡ length rows + 1 → row_part format k rest ≡ Err cause
    → next_row format rows rest ≡ Err cause
next_breaks format rows k rest cause is b =
    ap (λ r. behind r (if_allowed rows)) (subst (λ n. row_part format n rest ≡ Err cause) is b)

-- nothing is left of what is told
told_out : (now : Ahead) (held : List ℕ) → now.left ≡ Some held → held ≡ []
    → IfSome now.left (λ bytes. now.place + length bytes ≡ now.end) → now.place ≡ now.end
told_out now held e a known =
    let k : now.place + length held ≡ now.end =
    subst (λ o. IfSome o (λ bytes. now.place + length bytes ≡ now.end)) e known in
    omega (arith, ap length a)

-- where nothing is told, one byte may have been left
untold_breaks : (first now : Ahead) (format : Format) (rows : List KeptRow) (index : Index)
    (k : ℕ) (cause : Cause) (at : ℕ) → IsReadTo first now format rows index
    → k ≡ length rows + 1 → (now.place ≡ now.end → ⊥) → at ≡ now.place → now.left ≡ None
    → cause ≡ Torn → MayBreak first (load_refusal (Breach cause) at)
untold_breaks first now format rows index k cause at l is more p e t =
    let lines : List LogRow = log_rows_of rows in
    let breaks : next_row format lines (1 ∷ []) ≡ Err Torn =
    next_breaks format lines k (1 ∷ []) Torn (omega (arith, log_rows_length rows)) refl in
    subst (λ (c : Cause). MayBreak first (load_refusal (Breach c) at)) (sym t)
    (as_breach first Torn at
    (broken first now format rows index Torn (1 ∷ []) l
    (subst (λ o. Agrees o (1 ∷ [])) (sym e) tt) (omega (arith, l.moves.within)) (λ e. cc)
    breaks at p))

row_breaks : (first now : Ahead) (format : Format) (rows : List KeptRow) (index : Index)
    (k : ℕ) (cause : Cause) (at : ℕ) (rest : List ℕ) → IsReadTo first now format rows index
    → k ≡ length rows + 1 → (now.place ≡ now.end → ⊥) → at ≡ now.place
    → Agrees now.left rest → now.place + length rest ≤ now.end
    → row_part format k rest ≡ Err cause → MayBreak first (load_refusal (Breach cause) at)
row_breaks first now format rows index k cause at (x ∷ rest) l is more p a w b =
    as_breach first cause at
    (broken first now format rows index cause (x ∷ rest) l a w (λ e. cc)
    (next_breaks format (log_rows_of rows) k (x ∷ rest) cause
    (omega (arith, log_rows_length rows)) b) at p)
row_breaks first now format rows index k cause at [] l is more p a w b = by_left now.left refl a
  where
    by_left : (left : Option (List ℕ)) → now.left ≡ left → Agrees left []
        → MayBreak first (load_refusal (Breach cause) at)
    by_left None e a =
        untold_breaks first now format rows index k cause at l is more p e
        (reads_none format k cause b)
    by_left (Some held) e a = absurd (more (told_out now held e a l.moves.known))

-- the tape failed exactly where the row's reading stopped since it failed
pub refusal_failed : (stop : LoadStop) (at : ℕ) → load_failed (load_refusal stop at)
    ≡ stop_failed stop
refusal_failed (Breach Torn) at = refl
refusal_failed (Breach BadRow) at = refl
refusal_failed (Breach Order) at = refl
refusal_failed Failed at = refl
refusal_failed NoMemory at = refl

pub row_stops : {A : Type 0} (first now next : Ahead) (format : Format) (rows : List KeptRow)
    (index : Index) (k : ℕ) (w : A → List ℕ) (stop : LoadStop) (at : ℕ)
    → IsReadTo first now format rows index → k ≡ length rows + 1
    → (now.place ≡ now.end → ⊥) → at ≡ now.place
    → Gives {A = A} now next w (row_part format k) (Err stop)
    → LoadsRows first (Err (load_refusal stop at))
row_stops first now next format rows index k w (Breach Torn) at l is more p b =
    row_breaks first now format rows index k Torn at b.bytes l is more p b.agrees b.within b.breaks
row_stops first now next format rows index k w (Breach BadRow) at l is more p b =
    row_breaks first now format rows index k BadRow at b.bytes l is more p b.agrees b.within
    b.breaks
row_stops first now next format rows index k w (Breach Order) at l is more p b =
    row_breaks first now format rows index k Order at b.bytes l is more p b.agrees b.within b.breaks
row_stops first now next format rows index k w Failed at l is more p b = tt
row_stops first now next format rows index k w NoMemory at l is more p b = tt

-- a row that may not stand there
pub row_refused : (first now next : Ahead) (format : Format) (rows : List KeptRow)
    (index : Index) (e : KeptRow) (k at : ℕ) → IsReadTo first now format rows index
    → k ≡ length rows + 1 → k < 2 ^ 64 → at ≡ now.place → Takes now next (kept_bytes k e)
    → Moves false now next → IsKeptRow format k e → allows index e ≡ false
    → MayBreak first (no.BadRow at)
row_refused first now next format rows index e k at l is small p t m i a =
    let some = some_left next.left next.place next.end m.within m.known in
    let lines : List LogRow = log_rows_of rows in
    let bytes : List ℕ = kept_bytes k e ++ some.0 in
    let read : row_part format (length lines + 1) bytes ≡ Ok (log_row_of e, some.0) =
    subst (λ n. row_part format n bytes ≡ Ok (log_row_of e, some.0))
    (omega (arith, log_rows_length rows)) (reads_kept format k e some.0 small i) in
    as_breach first BadRow at
    (broken first now format rows index BadRow bytes l
    (agrees_behind now.left next.left (kept_bytes k e) some.0 t.consumed some.1)
    (omega (arith, length-append (kept_bytes k e) some.0, t.place, m.end, some.2))
    (λ e. cc)
    (ap (λ r. behind r (if_allowed lines)) read
    ∙ ap (λ b. kept_if b BadRow (log_row_of e) some.0)
    (sym (allowed lines index e l.indexed) ∙ a))
    at p)
