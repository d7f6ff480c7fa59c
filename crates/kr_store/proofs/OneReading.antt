-- Bytes are the file of one list of rows, or have one breach.
use Rattle.std.proofs.Common.{◌≡◌, ℕ, ◌≤◌, ◌⊎◌, List, [], ◌++◌, length, take, Err, refl, sym, ◌∙◌, ap, subst, arith, length-append, append_assoc, inl, inr}
use Rattle.std.proofs.lemmas.List.{take_all}
use Rattle.std.proofs.Math.Seq.{take-append_seam}
use Rattle.kr_store.specs.declared.format.Format.{Format}
use Rattle.kr_store.specs.declared.format.Format.TheVariants.{One}
use Rattle.kr_store.specs.declared.rows.LogRow.{LogRow}
use Rattle.kr_store.specs.declared.answers.Cause.{Cause}
use Rattle.kr_store.specs.declared.answers.Cause.TheVariants.{Torn, BadRow, Order}
use Rattle.kr_store.specs.declared.answers.LoadStop.TheVariants.{Breach}
use Rattle.kr_store.specs.declared.answers.StoreNo.{StoreNo}
use Rattle.kr_store.specs.declared.answers.StoreNo.TheVariants as no
use Rattle.kr_store.specs.Rows.{AllFollow}
use Rattle.kr_store.specs.File.{magic, rows_bytes, file_bytes, IsFile}
use Rattle.kr_store.specs.Breaches.{Read, next_row, BreaksFileAt, IsTornMagic, IsOther, IsBreach}
use Rattle.kr_store.specs.inner.Reading.{load_refusal}
use Rattle.kr_store.proofs.Refusals.{stop_once, magic_once}
use Rattle.kr_store.proofs.Steps.{begins_name}

nothing_long : (format : Format) (rows : List LogRow) (bytes : List ℕ)
    → bytes ≡ [] → bytes ≡ file_bytes format rows → ⊥
nothing_long format rows bytes e f =
    omega (arith, ap length (sym e ∙ f), length-append (magic format) (rows_bytes 1 rows))

pub file_once : (bytes : List ℕ) (format other : Format) (rows others : List LogRow)
    → IsFile format rows bytes → IsFile other others bytes
    → (format ≡ other) × (rows ≡ others)
file_once bytes format other rows others f g = elim f.1 [
  | inl none ↦ elim g.1 [
    | inl nothing ↦ (none.0 ∙ sym nothing.0, none.1 ∙ sym nothing.1)
    | inr same ↦ absurd (nothing_long other others bytes none.2 same)
  ]
  | inr same ↦ elim g.1 [
    | inl nothing ↦ absurd (nothing_long format rows bytes nothing.2 same)
    | inr also ↦
        let once = magic_once format other (rows_bytes 1 rows) (rows_bytes 1 others)
        (sym same ∙ also) in (
          once.0,
          (stop_once format 1 [] rows others [] [] Torn Torn refl f.0
              (subst (λ (z : Format). AllFollow z [] others) (sym once.0) g.0) refl refl
              (ap (λ l. l ++ []) once.1)).0,
        )
  ]
]

err_once : (read : Read LogRow) (cause other : Cause) → read ≡ Err cause → read ≡ Err other
    → cause ≡ other
err_once read cause other e f = cc

breaks_once : (bytes : List ℕ) (at to : ℕ) (cause other : Cause) → BreaksFileAt bytes at cause
    → BreaksFileAt bytes to other → (at ≡ to) × (cause ≡ other)
breaks_once bytes at to cause other b d =
    let once = magic_once b.format d.format (rows_bytes 1 b.rows ++ b.rest)
    (rows_bytes 1 d.rows ++ d.rest)
    (sym (append_assoc (magic b.format) (rows_bytes 1 b.rows) b.rest)
    ∙ sym b.split ∙ d.split ∙ append_assoc (magic d.format) (rows_bytes 1 d.rows) d.rest) in
    let format : d.format ≡ b.format = sym once.0 in
    let breaks : next_row b.format d.rows d.rest ≡ Err other =
    subst (λ (z : Format). next_row z d.rows d.rest ≡ Err other) format d.breaks in
    let same = stop_once b.format 1 [] b.rows d.rows b.rest d.rest cause other refl b.good
    (subst (λ (z : Format). AllFollow z [] d.rows) format d.good) b.breaks breaks once.1 in (
      b.place ∙ ap (λ (r : List LogRow). length (file_bytes b.format r)) same.0
          ∙ ap (λ (z : Format). length (file_bytes z d.rows)) once.0 ∙ sym d.place,
      err_once (next_row b.format b.rows b.rest) cause other b.breaks
          (subst (λ l. next_row b.format b.rows l ≡ Err other) (sym same.1)
          (subst (λ (r : List LogRow). next_row b.format r d.rest ≡ Err other)
          (sym same.0) breaks)),
    )

long_before : (bytes : List ℕ) (at : ℕ) (cause : Cause) → BreaksFileAt bytes at cause
    → 8 ≤ length bytes
long_before bytes at cause b = omega (
  arith,
  ap length b.split,
  length-append (file_bytes b.format b.rows) b.rest,
  length-append (magic b.format) (rows_bytes 1 b.rows),
)

-- bytes that break at a row, or end inside a magic, begin a magic

begins : (bytes : List ℕ) (at : ℕ) (cause : Cause) (b : BreaksFileAt bytes at cause)
    → IsOther b.format bytes → ⊥
begins bytes at cause b o =
    let named : List ℕ = magic b.format in
    let rows : List ℕ = rows_bytes 1 b.rows in
    o (ap (take (length named)) (b.split ∙ append_assoc named rows b.rest)
    ∙ take-append_seam named (rows ++ b.rest)
    ∙ sym (take_all (length bytes) named (long_before bytes at cause b)))

torn_begins : (bytes : List ℕ) → IsTornMagic bytes → IsOther One bytes → ⊥
torn_begins bytes t o =
    o (take_all (length (magic One)) bytes (omega (arith, t.1)) ∙ t.2
    ∙ begins_name One (length bytes) t.1)

-- a breach: another magic, a torn one, or a row
abbrev BreachKind : List ℕ → StoreNo → Type 0
BreachKind bytes why =
    ((why ≡ no.Magic) × ((format : Format) → IsOther format bytes))
    ⊎ (((why ≡ no.Torn 0) × IsTornMagic bytes)
    ⊎ ((at : ℕ) × (cause : Cause) × (why ≡ load_refusal (Breach cause) at) × BreaksFileAt bytes at cause))

kind_of_breach : (bytes : List ℕ) (why : StoreNo) → IsBreach bytes why → BreachKind bytes why
kind_of_breach bytes no.Magic b = inl (refl, b)
kind_of_breach bytes (no.Torn at) (inl t) = inr (inl (ap (λ (n : ℕ). no.Torn n) t.0, t.1))
kind_of_breach bytes (no.Torn at) (inr t) = inr (inr (at, Torn, refl, t))
kind_of_breach bytes (no.BadRow at) b = inr (inr (at, BadRow, refl, b))
kind_of_breach bytes (no.Order at) b = inr (inr (at, Order, refl, b))
kind_of_breach bytes other b = absurd b

kind_once : (bytes : List ℕ) (why other : StoreNo) → BreachKind bytes why
    → BreachKind bytes other → why ≡ other
kind_once bytes why other (inl m) (inl n) = m.0 ∙ sym n.0
kind_once bytes why other (inl m) (inr (inl t)) = absurd (torn_begins bytes t.1 (m.1 One))
kind_once bytes why other (inl m) (inr (inr r)) = absurd (begins bytes r.0 r.1 r.3 (m.1 r.3.format))
kind_once bytes why other (inr (inl t)) (inl n) = absurd (torn_begins bytes t.1 (n.1 One))
kind_once bytes why other (inr (inl t)) (inr (inl u)) = t.0 ∙ sym u.0
kind_once bytes why other (inr (inl t)) (inr (inr r)) =
    absurd (omega (arith, t.1.1, long_before bytes r.0 r.1 r.3))
kind_once bytes why other (inr (inr r)) (inl n) = absurd (begins bytes r.0 r.1 r.3 (n.1 r.3.format))
kind_once bytes why other (inr (inr r)) (inr (inl u)) =
    absurd (omega (arith, u.1.1, long_before bytes r.0 r.1 r.3))
kind_once bytes why other (inr (inr r)) (inr (inr s)) =
    let same = breaks_once bytes r.0 s.0 r.1 s.1 r.3 s.3 in
    r.2 ∙ ap (λ (n : ℕ). load_refusal (Breach r.1) n) same.0
    ∙ ap (λ (c : Cause). load_refusal (Breach c) s.0) same.1 ∙ sym s.2

pub breach_once : (bytes : List ℕ) (why other : StoreNo) → IsBreach bytes why
    → IsBreach bytes other → why ≡ other
breach_once bytes why other b d =
    kind_once bytes why other (kind_of_breach bytes why b) (kind_of_breach bytes other d)
