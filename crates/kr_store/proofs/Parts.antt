-- What each part of a row reads from the bytes that are written for it.
use Rattle.std.proofs.Common.{◌≡◌, ℕ, suc, zero, ◌^◌, ◌<◌, ◌≤◌, Bool, true, false, if◌then◌else◌, List, [], ◌∷◌, ◌++◌, length, get_or, Option, None, Some, Ok, Err, refl, sym, ◌∙◌, ap, subst, arith, nat_lt, nat_le, append_assoc, inl, inr, eq-eqb}
use Rattle.std.specs.Int.{w16, w32, w64, to_be_bytes}
use Rattle.std.proofs.lemmas.Nat.{from_be_bytes-to_be_bytes_2, from_be_bytes-to_be_bytes_4, from_be_bytes-to_be_bytes_8}
use Rattle.std.proofs.lemmas.Bool.{ne_eqb, cases_lt}
use Rattle.std.proofs.lemmas.List.{length-append, get_or_past}
use Rattle.std.proofs.Math.Seq.{take-append_seam, drop-append_seam}
use Rattle.std.specs.Str.{IsUtf8, IsAscii}
use Rattle.std.proofs.lemmas.Str.{IsUtf8-from_ascii}
use Rattle.kr_base.specs.Rules.{IsPath, IsResource, IsLabelByte, is_path, is_resource}
use Rattle.kr_base.proofs.RuleTests.{path as kr_path, resource as kr_resource}
use Rattle.kr_base.proofs.Labels.{Parted, labels_parted}
use Rattle.kr_store.specs.Breaches.{Read, behind, part, number_16, number_32, number_64, sized_part, value_part, path_part, resource_part, kind_part, kind_by, revision_part, head_part, check_part, put_part, row_part}
use Rattle.kr_store.specs.declared.format.Check.{Check}
use Rattle.kr_store.specs.declared.format.Format.{Format}
use Rattle.kr_store.specs.declared.rows.Change.{Change}
use Rattle.kr_store.specs.declared.rows.Change.TheVariants.{Put, Delete}
use Rattle.kr_store.specs.declared.rows.LogRow.{LogRow}
use Rattle.kr_store.specs.Rows.{longest_value, HasCheck, MayChange}
use Rattle.kr_store.specs.inner.KeptRows.{IsKeptRow, log_row_of}
use Rattle.kr_store.specs.declared.kept_row.KeptRow.{KeptRow}
use Rattle.kr_store.specs.declared.kept_row.KeptRow.TheVariants as kept
use Rattle.kr_store.specs.inner.Reading.{head_bytes, put_bytes, kept_bytes}
use Rattle.kr_store.specs.declared.kept_row.RowKind.{RowKind}
use Rattle.kr_store.specs.declared.kept_row.RowKind.TheVariants as kind
use Rattle.kr_store.specs.File.{text_bytes, value_bytes, check_bytes, kind_byte, row_bytes}
use Rattle.kr_store.specs.declared.answers.Cause.TheVariants.{Torn, BadRow, Order}

not_below : (m n : ℕ) → n ≤ m → nat_lt m n ≡ false
not_below m n h = grind arith

below : (m n : ℕ) → m < n → nat_lt m n ≡ true
below m n h = grind arith

pub at_most : (m n : ℕ) → m ≤ n → nat_le m n ≡ true
at_most m n h = grind arith

pub above_most : (m n : ℕ) → n < m → nat_le m n ≡ false
above_most m n h = grind arith

pub part_reads : (front rest : List ℕ) (n : ℕ) → length front ≡ n → part n (front ++ rest) ≡ Ok
    (front, rest)
part_reads front rest n e =
    subst (λ m. part m (front ++ rest) ≡ Ok (front, rest)) e
    (rw (not_below (length (front ++ rest)) (length front)
    (omega (arith, length-append front rest)))
    (ap Ok (λ i. (take-append_seam front rest i, drop-append_seam front rest i))))

pub part_torn : (bytes : List ℕ) (n : ℕ) → length bytes < n → part n bytes ≡ Err Torn
part_torn bytes n l = rw (below (length bytes) n l) refl

-- the part behind what was read
pub behind_read : {A B : Type 0} (first : Read A) (next : A → List ℕ → Read B) (x : A)
    (rest : List ℕ) → first ≡ Ok (x, rest) → behind first next ≡ next x rest
behind_read first next x rest e = ap (λ r. behind r next) e

pub reads_16 : (n : ℕ) (rest : List ℕ) → n < 2 ^ 16 → number_16 (to_be_bytes w16 n ++ rest) ≡ Ok
    (n, rest)
reads_16 n rest h = behind_read _ _ _ _ (part_reads (to_be_bytes w16 n) rest 2 refl)
    ∙ ap (λ m. Ok (m, rest)) (from_be_bytes-to_be_bytes_2 n h)

pub reads_32 : (n : ℕ) (rest : List ℕ) → n < 2 ^ 32 → number_32 (to_be_bytes w32 n ++ rest) ≡ Ok
    (n, rest)
reads_32 n rest h = behind_read _ _ _ _ (part_reads (to_be_bytes w32 n) rest 4 refl)
    ∙ ap (λ m. Ok (m, rest)) (from_be_bytes-to_be_bytes_4 n h)

pub reads_64 : (n : ℕ) (rest : List ℕ) → n < 2 ^ 64 → number_64 (to_be_bytes w64 n ++ rest) ≡ Ok
    (n, rest)
reads_64 n rest h = behind_read _ _ _ _ (part_reads (to_be_bytes w64 n) rest 8 refl)
    ∙ ap (λ m. Ok (m, rest)) (from_be_bytes-to_be_bytes_8 n h)

pub reads_sized : (most : ℕ) (text rest : List ℕ) → length text ≤ most → length text < 2 ^ 16
    → sized_part most (text_bytes text ++ rest) ≡ Ok (text, rest)
reads_sized most text rest h small =
    ap (λ l. sized_part most l) (append_assoc (to_be_bytes w16 (length text)) text rest)
    ∙ behind_read _ _ _ _ (reads_16 (length text) (text ++ rest) small)
    ∙ ap (λ b. if b then part (length text) (text ++ rest) else Err BadRow)
    (at_most (length text) most h)
    ∙ part_reads text rest (length text) refl

pub reads_value : (value rest : List ℕ) → length value ≤ longest_value
    → value_part (value_bytes value ++ rest) ≡ Ok (value, rest)
reads_value value rest h =
    ap value_part (append_assoc (to_be_bytes w32 (length value)) value rest)
    ∙ behind_read _ _ _ _ (reads_32 (length value) (value ++ rest) (omega arith))
    ∙ ap (λ b. if b then part (length value) (value ++ rest) else Err BadRow)
    (at_most (length value) longest_value h)
    ∙ part_reads value rest (length value) refl

pub bad_kind : (byte rest : List ℕ) → length byte ≡ 1 → (get_or byte 0 0 ≡ 1 → ⊥)
    → (get_or byte 0 0 ≡ 2 → ⊥) → kind_part (byte ++ rest) ≡ Err BadRow
bad_kind byte rest l one two = behind_read _ _ _ _ (part_reads byte rest 1 l)
    ∙ by (get_or byte 0 0) one two
  where
    by : (k : ℕ) → (k ≡ 1 → ⊥) → (k ≡ 2 → ⊥) → kind_by k rest ≡ Err BadRow
    by k one two = rw (ne_eqb k 1 one, ne_eqb k 2 two) refl

pub bad_revision : (k number : ℕ) (rest : List ℕ) → number < 2 ^ 64 → (number ≡ k → ⊥)
    → revision_part k (to_be_bytes w64 number ++ rest) ≡ Err Order
bad_revision k number rest h n = behind_read _ _ _ _ (reads_64 number rest h)
    ∙ rw (ne_eqb number k n) refl

pub bad_size : (most n : ℕ) (rest : List ℕ) → n < 2 ^ 16 → most < n → sized_part most
    (to_be_bytes w16 n ++ rest) ≡ Err BadRow
bad_size most n rest h l = behind_read _ _ _ _ (reads_16 n rest h) ∙ rw (above_most n most l) refl

pub bad_value : (n : ℕ) (rest : List ℕ) → n < 2 ^ 32 → longest_value < n
    → value_part (to_be_bytes w32 n ++ rest) ≡ Err BadRow
bad_value n rest h l = behind_read _ _ _ _ (reads_32 n rest h)
    ∙ rw (above_most n longest_value l) refl

pub bad_path : (path rest : List ℕ) → length path ≤ 1024 → is_path path ≡ false
    → path_part (text_bytes path ++ rest) ≡ Err BadRow
bad_path path rest l n = behind_read _ _ _ _ (reads_sized 1024 path rest l (omega arith))
    ∙ rw n refl

pub bad_resource : (resource rest : List ℕ) → length resource ≤ 253 → is_resource resource ≡ false
    → resource_part (text_bytes resource ++ rest) ≡ Err BadRow
bad_resource resource rest l n = behind_read _ _ _ _ (reads_sized 253 resource rest l
    (omega arith)) ∙ rw n refl

to_false : (b : Bool) → (b ≡ true → ⊥) → b ≡ false
to_false true h = absurd (h refl)
to_false false h = refl

-- a path and a resource are ASCII, so they are UTF-8

path_ascii : (path : List ℕ) → IsPath path → IsAscii path
path_ascii path p i = elim (cases_lt i (length path))
    [ inl l ↦ omega (arith, (p.2 i 0 l).1) | inr g ↦ omega (arith, get_or_past path i 0 g) ]

pub not_path : (path : List ℕ) → (IsUtf8 path → ⊥) → is_path path ≡ false
not_path path h = to_false (is_path path)
    (λ t. h (IsUtf8-from_ascii path (path_ascii path ((kr_path path).0 t))))

label_ascii : (byte : ℕ) → IsLabelByte byte → byte < 128
label_ascii byte (inl p) = omega (arith, p.1)
label_ascii byte (inr (inl p)) = omega (arith, p.1)
label_ascii byte (inr (inr p)) = omega (arith, p)

parted_ascii : (begun : Bool) (bytes : List ℕ) → Parted begun bytes → IsAscii bytes
parted_ascii begun [] p i = omega arith
parted_ascii begun (byte ∷ bytes) (inl p) zero = omega (arith, p.0)
parted_ascii begun (byte ∷ bytes) (inl p) (suc i) = parted_ascii false bytes p.2 i
parted_ascii begun (byte ∷ bytes) (inr p) zero = label_ascii byte p.0
parted_ascii begun (byte ∷ bytes) (inr p) (suc i) = parted_ascii true bytes p.1 i

pub not_resource : (resource : List ℕ) → (IsUtf8 resource → ⊥) → is_resource resource ≡ false
not_resource resource h = to_false (is_resource resource)
    (λ t. h (IsUtf8-from_ascii resource (parted_ascii false resource (labels_parted resource
    ((kr_resource resource).0 t).1))))

-- what is written for each part is read back

pub reads_kind : (kind : RowKind) (rest : List ℕ) → kind_part ((kind_byte kind ∷ []) ++ rest) ≡ Ok
    (kind, rest)
reads_kind kind.Put rest = behind_read _ _ _ _ (part_reads (1 ∷ []) rest 1 refl)
reads_kind kind.Delete rest = behind_read _ _ _ _ (part_reads (2 ∷ []) rest 1 refl)

pub reads_revision : (k : ℕ) (rest : List ℕ) → k < 2 ^ 64 → revision_part k
    (to_be_bytes w64 k ++ rest) ≡ Ok (k, rest)
reads_revision k rest h = behind_read _ _ _ _ (reads_64 k rest h) ∙ rw (eq-eqb k k refl) refl

pub reads_path : (path rest : List ℕ) → IsPath path → path_part (text_bytes path ++ rest) ≡ Ok
    (path, rest)
reads_path path rest p = behind_read _ _ _ _ (reads_sized 1024 path rest p.1 (omega (arith, p.1)))
    ∙ rw ((kr_path path).1 p) refl

pub reads_resource : (resource rest : List ℕ) → IsResource resource → resource_part
    (text_bytes resource ++ rest) ≡ Ok (resource, rest)
reads_resource resource rest p = behind_read _ _ _ _ (reads_sized 253 resource rest p.0
    (omega (arith, p.0))) ∙ rw ((kr_resource resource).1 p) refl

pub reads_head : (k : ℕ) (kind : RowKind) (path rest : List ℕ) → k < 2 ^ 64 → IsPath path
    → head_part k (head_bytes k (kind, path) ++ rest) ≡ Ok ((kind, path), rest)
reads_head k kind path rest h p =
    ap (head_part k) (ap (λ l. kind_byte kind ∷ l) (append_assoc (to_be_bytes w64 k)
    (text_bytes path) rest))
    ∙ behind_read _ _ _ _ (reads_kind kind (to_be_bytes w64 k ++ (text_bytes path ++ rest)))
    ∙ behind_read _ _ _ _ (reads_revision k (text_bytes path ++ rest) h)
    ∙ behind_read _ _ _ _ (reads_path path rest p)

pub reads_check : (format : Format) (check : Option Check) (rest : List ℕ)
    → HasCheck format check → check_part format (check_bytes check ++ rest) ≡ Ok (check, rest)
reads_check format None rest h = ap (λ (f : Format). check_part f rest) h
reads_check format (Some check) rest h =
    ap (λ (f : Format). check_part f (to_be_bytes w64 check.value ++ rest)) h.0
    ∙ behind_read _ _ _ _ (reads_64 check.value rest h.1)

-- the parts of a put one after another
pub put_parts : (resource : List ℕ) (check : Option Check) (stored rest : List ℕ)
    → put_bytes (resource, check, stored) ++ rest
    ≡ text_bytes resource ++ (check_bytes check ++ (value_bytes stored ++ rest))
put_parts resource check stored rest =
    append_assoc (text_bytes resource) (check_bytes check ++ value_bytes stored) rest
    ∙ ap (λ l. text_bytes resource ++ l)
    (append_assoc (check_bytes check) (value_bytes stored) rest)

pub reads_put : (format : Format) (resource : List ℕ) (check : Option Check)
    (stored rest : List ℕ) → IsResource resource → length stored ≤ longest_value
    → HasCheck format check
    → put_part format (put_bytes (resource, check, stored) ++ rest)
    ≡ Ok (Put resource stored check, rest)
reads_put format resource check stored rest r l h =
    ap (put_part format) (put_parts resource check stored rest)
    ∙ behind_read _ _ _ _
    (reads_resource resource (check_bytes check ++ (value_bytes stored ++ rest)) r)
    ∙ behind_read _ _ _ _ (reads_check format check (value_bytes stored ++ rest) h)
    ∙ behind_read _ _ _ _ (reads_value stored rest l)

-- a row is its head and what it does
regroup : (k : ℕ) (kd : RowKind) (path more rest : List ℕ)
    → (kind_byte kd ∷ (to_be_bytes w64 k ++ (text_bytes path ++ more))) ++ rest ≡ head_bytes k
    (kd, path) ++ (more ++ rest)
regroup k kd path more rest =
    ap (λ l. kind_byte kd ∷ (l ++ rest))
    (sym (append_assoc (to_be_bytes w64 k) (text_bytes path) more))
    ∙ ap (λ l. kind_byte kd ∷ l) (append_assoc (to_be_bytes w64 k ++ text_bytes path) more rest)

pub reads_kept : (format : Format) (k : ℕ) (e : KeptRow) (rest : List ℕ)
    → k < 2 ^ 64 → IsKeptRow format k e
    → row_part format k (kept_bytes k e ++ rest) ≡ Ok (log_row_of e, rest)
reads_kept format k (kept.Put row) rest h i =
    let path = row.path in
    let put : List ℕ = put_bytes (row.resource, row.check, row.stored) in
    ap (row_part format k) (regroup k kind.Put path put rest)
    ∙ behind_read _ _ _ _ (reads_head k kind.Put path (put ++ rest) h i.0.0)
    ∙ behind_read _ _ _ _
    (reads_put format row.resource row.check row.stored rest i.0.1.0 i.0.1.1 i.0.1.2)
reads_kept format k (kept.Delete path) rest h i =
    ap (row_part format k) (regroup k kind.Delete path [] rest)
    ∙ behind_read _ _ _ _ (reads_head k kind.Delete path rest h i)

abbrev row_with : List ℕ → Change → LogRow
row_with path change = record { path = path; change = change }

pub reads_row : (format : Format) (k : ℕ) (line : LogRow) (before : List LogRow)
    (rest : List ℕ) → k < 2 ^ 64 → IsPath line.path
    → MayChange format before line.path line.change
    → row_part format k (row_bytes k line ++ rest) ≡ Ok (line, rest)
reads_row format k line before rest h p m = by line.change m
  where
    by : (change : Change) → MayChange format before line.path change
        → row_part format k (row_bytes k (row_with line.path change) ++ rest)
        ≡ Ok (row_with line.path change, rest)
    by (Put resource stored check) m =
        let put : List ℕ = put_bytes (resource, check, stored) in
        ap (row_part format k) (regroup k kind.Put line.path put rest)
        ∙ behind_read _ _ _ _ (reads_head k kind.Put line.path (put ++ rest) h p)
        ∙ behind_read _ _ _ _ (reads_put format resource check stored rest m.0 m.1 m.2)
    by Delete m =
        ap (row_part format k) (regroup k kind.Delete line.path [] rest)
        ∙ behind_read _ _ _ _ (reads_head k kind.Delete line.path rest h p)
