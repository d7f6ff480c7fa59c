-- Bytes that are refused are the file of no rows.
use Rattle.std.proofs.Common.{◌≡◌, ℕ, ◌+◌, ◌<◌, ◌≤◌, List, [], ◌∷◌, ◌++◌, length, take, drop, get_or, replicate, Option, None, Some, Ok, Err, IfSome, refl, sym, ◌∙◌, ap, subst, arith, length-append, append_assoc, inl, inr}
use Rattle.std.proofs.lemmas.List.{take_all, append-nil, length-replicate}
use Rattle.std.proofs.Math.Seq.{take-append_seam}
use Rattle.kr_base.specs.Told.{Agrees}
use Rattle.kr_store.specs.declared.format.Format.{Format}
use Rattle.kr_store.specs.declared.format.Format.TheVariants.{One, Two}
use Rattle.kr_store.specs.declared.rows.LogRow.{LogRow}
use Rattle.kr_store.specs.Rows.{MayFollow, AllFollow}
use Rattle.kr_store.specs.File.{digit_of, magic, row_bytes, rows_bytes, file_bytes, IsFile}
use Rattle.kr_store.specs.Breaches.{Read, behind, row_part, next_row, may_change, kept_if, BreaksFileAt, IsTornMagic, IsOther, IsBreach}
use Rattle.kr_store.specs.Stores.{Loads, HasBreach}
use Rattle.kr_store.specs.inner.Reading.{Ahead, MayBreak, LoadsRows}
use Rattle.kr_store.specs.declared.answers.Cause.{Cause}
use Rattle.kr_store.specs.declared.answers.Cause.TheVariants.{Torn, BadRow, Order}
use Rattle.kr_store.specs.declared.answers.StoreNo.{StoreNo}
use Rattle.kr_store.specs.declared.answers.StoreNo.TheVariants as no
use Rattle.kr_store.proofs.Parts.{reads_row}
use Rattle.kr_store.proofs.Indexes.{change_permitted}

abbrev pub ok_of : {A : Type 0} → A × List ℕ → Read A
ok_of x = Ok x

abbrev pub found_or : {A : Type 0} → A × List ℕ → Read A → A × List ℕ
found_or d (Ok x) = x
found_or d (Err cause) = d

pub same_found : {A : Type 0} (a b : A) (xs ys : List ℕ) (r : Read A) → r ≡ Ok (a, xs)
    → r ≡ Ok (b, ys) → (a ≡ b) × (xs ≡ ys)
same_found {A} a b xs ys r p q =
    let e : ok_of (a, xs) ≡ ok_of (b, ys) = sym p ∙ q in
    let f : (a, xs) ≡ (b, ys) = ap (found_or (a, xs)) e in
    (ap (λ (x : A × List ℕ). x.0) f, ap (λ (x : A × List ℕ). x.1) f)

-- the first 8 bytes tell the format

digit_once : (format other : Format) → digit_of format ≡ digit_of other → format ≡ other
digit_once One One e = refl
digit_once Two Two e = refl
digit_once other another e = absurd (omega (arith, e))

pub magic_once : (format other : Format) (a b : List ℕ)
    → magic format ++ a ≡ magic other ++ b → (format ≡ other) × (a ≡ b)
magic_once format other a b e =
    (digit_once format other (ap (λ l. get_or l 7 0) e), ap (drop 8) e)

pub row_read : (format : Format) (k : ℕ) (before : List LogRow) (line : LogRow) (rest : List ℕ)
    → k ≡ length before + 1 → MayFollow format before line
    → row_part format k (row_bytes k line ++ rest) ≡ Ok (line, rest)
row_read format k before line rest is m =
    reads_row format k line before rest (omega (arith, m.revision)) m.path m.change

pub found_next : (format : Format) (k : ℕ) (before : List LogRow) (line : LogRow)
    (rest : List ℕ) → k ≡ length before + 1 → MayFollow format before line
    → next_row format before (row_bytes k line ++ rest) ≡ Ok (line, rest)
found_next format k before line rest is m =
    subst (λ n. next_row format before (row_bytes n line ++ rest) ≡ Ok (line, rest)) (sym is)
    (ap (λ r. behind r (λ line rest. kept_if (may_change before line.path line.change) BadRow line
    rest))
    (row_read format (length before + 1) before line rest refl m)
    ∙ ap (λ b. kept_if b BadRow line rest)
    (change_permitted format before line.path line.change m.change))

ok_not_err : (read : Read LogRow) (found : LogRow × List ℕ) (cause : Cause) → read ≡ Ok found
    → read ≡ Err cause → ⊥
ok_not_err read found cause e f = cc

-- where rows end and something breaks
pub stop_once : (format : Format) (k : ℕ) (before rows others : List LogRow) (rest more : List ℕ)
    (cause other : Cause) → k ≡ length before + 1 → AllFollow format before rows
    → AllFollow format before others
    → next_row format (before ++ rows) rest ≡ Err cause → next_row format (before ++ others) more
    ≡ Err other → rows_bytes k rows ++ rest ≡ rows_bytes k others ++ more → (rows ≡ others)
    × (rest ≡ more)
stop_once format k before [] [] rest more cause other is f g b d e = (refl, e)
stop_once format k before [] (o ∷ others) rest more cause other is f g b d e =
    let split : rest ≡ row_bytes k o ++ (rows_bytes (k + 1) others ++ more) = e ∙ append_assoc
    (row_bytes k o) (rows_bytes (k + 1) others) more in
    absurd (ok_not_err (next_row format before rest) (o, rows_bytes (k + 1) others ++ more) cause
    (subst (λ l. next_row format before l ≡ Ok (o, rows_bytes (k + 1) others ++ more)) (sym split)
    (found_next format k before o (rows_bytes (k + 1) others ++ more) is g.0))
    (subst (λ (l : List LogRow). next_row format l rest ≡ Err cause) (append-nil before) b))
stop_once format k before (r ∷ rows) [] rest more cause other is f g b d e =
    let split : more ≡ row_bytes k r ++ (rows_bytes (k + 1) rows ++ rest) = sym e ∙ append_assoc
    (row_bytes k r) (rows_bytes (k + 1) rows) rest in
    absurd (ok_not_err (next_row format before more) (r, rows_bytes (k + 1) rows ++ rest) other
    (subst (λ l. next_row format before l ≡ Ok (r, rows_bytes (k + 1) rows ++ rest)) (sym split)
    (found_next format k before r (rows_bytes (k + 1) rows ++ rest) is f.0))
    (subst (λ (l : List LogRow). next_row format l more ≡ Err other) (append-nil before) d))
stop_once format k before (r ∷ rows) (o ∷ others) rest more cause other is f g b d e =
    let ends : row_bytes k r ++ (rows_bytes (k + 1) rows ++ rest) ≡ row_bytes k o ++
    (rows_bytes (k + 1) others ++ more) = sym (append_assoc (row_bytes k r)
    (rows_bytes (k + 1) rows) rest) ∙ e ∙ append_assoc (row_bytes k o)
    (rows_bytes (k + 1) others) more in
    let mine : row_part format k (row_bytes k r ++ (rows_bytes (k + 1) rows ++ rest)) ≡ Ok
    (r, rows_bytes (k + 1) rows ++ rest) = row_read format k before r
    (rows_bytes (k + 1) rows ++ rest) is f.0 in
    let theirs : row_part format k (row_bytes k r ++ (rows_bytes (k + 1) rows ++ rest)) ≡ Ok
    (o, rows_bytes (k + 1) others ++ more) =
    subst (λ l. row_part format k l ≡ Ok (o, rows_bytes (k + 1) others ++ more)) (sym ends)
    (row_read format k before o (rows_bytes (k + 1) others ++ more) is g.0) in
    let same = same_found r o (rows_bytes (k + 1) rows ++ rest) (rows_bytes (k + 1) others ++ more)
    _ mine theirs in
    let first : r ≡ o = same.0 in
    let tail = stop_once format (k + 1) (before ++ r ∷ []) rows others rest more cause other
    (omega (arith, length-append before (r ∷ []))) f.1
    (subst (λ (l : LogRow). AllFollow format (before ++ l ∷ []) others) (sym first) g.1)
    (subst (λ (l : List LogRow). next_row format l rest ≡ Err cause)
    (sym (append_assoc before (r ∷ []) rows)) b)
    (subst (λ (l : List LogRow). next_row format l more ≡ Err other)
    (ap (λ (l : LogRow). before ++ (l ∷ others)) (sym first)
    ∙ sym (append_assoc before (r ∷ []) others)) d) same.1 in
    let rows_same : rows ≡ others = tail.0 in
    (cc, tail.1)

breaks_no_file : (bytes : List ℕ) (at : ℕ) (cause : Cause) → BreaksFileAt bytes at cause
    → (format : Format) (rows : List LogRow) → IsFile format rows bytes → ⊥
breaks_no_file bytes at cause b format rows f = elim f.1 [
  | inl none ↦ absurd (omega (
    arith,
    ap length (sym b.split ∙ none.2),
    length-append (file_bytes b.format b.rows) b.rest,
    length-append (magic b.format) (rows_bytes 1 b.rows),
  ))
  | inr same ↦
      let once = magic_once format b.format (rows_bytes 1 rows) (rows_bytes 1 b.rows ++ b.rest)
      (sym same ∙ b.split ∙ append_assoc (magic b.format) (rows_bytes 1 b.rows) b.rest) in
      b.more
      (stop_once b.format 1 [] b.rows rows b.rest [] cause Torn refl b.good
      (subst (λ (z : Format). AllFollow z [] rows) once.0 f.0) b.breaks refl
      (sym once.1 ∙ sym (append-nil (rows_bytes 1 rows)))).1
]

torn_no_file : (bytes : List ℕ) → IsTornMagic bytes → (format : Format) (rows : List LogRow)
    → IsFile format rows bytes → ⊥
torn_no_file bytes t format rows f = elim f.1 [
  | inl none ↦ absurd (omega (arith, t.0, ap length none.2))
  | inr same ↦ absurd (omega (
    arith,
    t.1,
    ap length same,
    length-append (magic format) (rows_bytes 1 rows),
  ))
]

other_no_file : (bytes : List ℕ) (format : Format) → IsOther format bytes
    → (rows : List LogRow) → IsFile format rows bytes → ⊥
other_no_file bytes format d rows f = elim f.1 [
  | inl none ↦
      d (subst (λ b. take (length (magic format)) b ≡ take (length b) (magic format))
      (sym none.2) refl)
  | inr same ↦
      let long : length (magic format) ≤ length bytes =
      omega (arith, ap length same, length-append (magic format) (rows_bytes 1 rows)) in
      d (ap (take (length (magic format))) same
      ∙ take-append_seam (magic format) (rows_bytes 1 rows)
      ∙ sym (take_all (length bytes) (magic format) long))
]

pub no_file : (bytes : List ℕ) (why : StoreNo) → IsBreach bytes why
    → (format : Format) (rows : List LogRow) → IsFile format rows bytes → ⊥
no_file bytes no.Magic b format rows f = other_no_file bytes format (b format) rows f
no_file bytes (no.Torn at) (inl t) format rows f = torn_no_file bytes t.1 format rows f
no_file bytes (no.Torn at) (inr t) format rows f = breaks_no_file bytes at Torn t format rows f
no_file bytes (no.BadRow at) b format rows f = breaks_no_file bytes at BadRow b format rows f
no_file bytes (no.Order at) b format rows f = breaks_no_file bytes at Order b format rows f
no_file bytes other b format rows f = b

refused : (first : Ahead) (limit : ℕ) (why : StoreNo) → first.end ≤ limit
    → MayBreak first why → HasBreach first.left limit why
refused first limit why l b =
    (b.bytes, b.agrees, omega (arith, b.within), b.breach)

-- what was found in the rows is what loading answers
pub load_refused : {T : Type 0} (first : Ahead) (limit : ℕ) (why : StoreNo) (tape : T)
    → first.end ≤ limit → LoadsRows first (Err why) → Loads first.left limit (Err (why, tape))
load_refused first limit no.Magic tape l b = refused first limit no.Magic l b
load_refused first limit (no.Torn at) tape l b = refused first limit (no.Torn at) l b
load_refused first limit (no.BadRow at) tape l b = refused first limit (no.BadRow at) l b
load_refused first limit (no.Order at) tape l b = refused first limit (no.Order at) l b
load_refused first limit no.TooLong tape l b = absurd b
load_refused first limit no.Failed tape l b = tt
load_refused first limit no.NoMemory tape l b = tt

-- a tape that is longer than the limit
pub too_long : (told : Option (List ℕ)) (limit n : ℕ) → IfSome told (λ bytes. n ≡ length bytes)
    → limit < n → (bytes : List ℕ) × Agrees told bytes × (limit < length bytes)
too_long None limit n e l = (replicate n 0, tt, omega (arith, length-replicate {A = ℕ} n 0))
too_long (Some held) limit n e l = (held, refl, omega arith)
