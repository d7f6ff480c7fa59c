-- Labels parted by dots, read from left to right.
use Rattle.std.proofs.Common.{◌≡◌, ℕ, ◌≤◌, ◌⊎◌, List, [], ◌∷◌, length, Bool, true, false, IsTrue, refl, sym, ap, inl, inr, arith, subst, All, ◌↔◌, ◌<◌, ◌+◌, drop, suc, get_or, add-one}
use Rattle.std.proofs.Math.Seq.{drop-cons}
use Rattle.std.proofs.lemmas.List.{drop_all}
use Rattle.std.proofs.lemmas.List.Elements.{All-nil, All-cons, All-head, All-tail}
use Rattle.std.specs.List.{join_with_byte}
use Rattle.kr_base.specs.Rules.{IsLabelByte, IsLabel, AreLabels}

-- labels parted by dots, of which the first has begun
abbrev pub Parted : Bool → List ℕ → Type 0
Parted begun [] = IsTrue begun
Parted begun (byte ∷ bytes) = ((byte ≡ 0x2E) × IsTrue begun × Parted false bytes) ⊎ (IsLabelByte byte × Parted true bytes)

-- a label's rest and the labels behind it
abbrev Rest : List ℕ → Type 0
Rest bytes = (head : List ℕ) × (tail : List (List ℕ)) × All IsLabelByte head × All IsLabel tail × (bytes ≡ join_with_byte 0x2E (head ∷ tail))

abbrev Whole : List ℕ → Type 0
Whole bytes = (label : List ℕ) × (tail : List (List ℕ)) × IsLabel label × All IsLabel tail × (bytes ≡ join_with_byte 0x2E (label ∷ tail))

abbrev Read : Bool → List ℕ → Type 0
Read true bytes = Rest bytes
Read false bytes = Whole bytes

longer : (byte : ℕ) (bytes head : List ℕ) (tail : List (List ℕ)) → bytes ≡ join_with_byte 0x2E (head ∷ tail) → byte ∷ bytes ≡ join_with_byte 0x2E ((byte ∷ head) ∷ tail)
longer byte bytes head [] e = ap (λ l. byte ∷ l) e
longer byte bytes head (label ∷ tail) e = ap (λ l. byte ∷ l) e

label-cons : (byte : ℕ) (head : List ℕ) → IsLabelByte byte → All IsLabelByte head → IsLabel (byte ∷ head)
label-cons byte head h all = (omega arith, All-cons IsLabelByte byte head h all)

read : (begun : Bool) (bytes : List ℕ) → Parted begun bytes → Read begun bytes
read true [] p = ([], [], All-nil IsLabelByte, All-nil IsLabel, refl)
read false [] p = cc
read true (byte ∷ bytes) (inl p) = let w = read false bytes p.2 in
    ([], w.0 ∷ w.1, All-nil IsLabelByte, All-cons IsLabel w.0 w.1 w.2 w.3, subst (λ b. b ∷ bytes ≡ 0x2E ∷ join_with_byte 0x2E (w.0 ∷ w.1)) (sym p.0) (ap (λ l. 0x2E ∷ l) w.4))
read false (byte ∷ bytes) (inl p) = let e = p.1 in cc
read true (byte ∷ bytes) (inr p) = let w = read true bytes p.1 in
    (byte ∷ w.0, w.1, All-cons IsLabelByte byte w.0 p.0 w.2, w.3, longer byte bytes w.0 w.1 w.4)
read false (byte ∷ bytes) (inr p) = let w = read true bytes p.1 in
    (byte ∷ w.0, w.1, label-cons byte w.0 p.0 w.2, w.3, longer byte bytes w.0 w.1 w.4)

-- what has been read to the end of a label is parted where its head is label bytes
headed : (tail : List (List ℕ)) → Parted true (join_with_byte 0x2E ([] ∷ tail)) → (head : List ℕ) → All IsLabelByte head → Parted true (join_with_byte 0x2E (head ∷ tail))
headed tail p [] all = p
headed [] p (byte ∷ head) all = inr (All-head IsLabelByte byte head all, headed [] p head (All-tail IsLabelByte byte head all))
headed (label ∷ tail) p (byte ∷ head) all = inr (All-head IsLabelByte byte head all, headed (label ∷ tail) p head (All-tail IsLabelByte byte head all))

begun_by : (label : List ℕ) (tail : List (List ℕ)) → IsLabel label → Parted true (join_with_byte 0x2E ([] ∷ tail)) → Parted false (join_with_byte 0x2E (label ∷ tail))
begun_by [] tail l p = absurd (omega (arith, l.0))
begun_by (byte ∷ head) [] l p = inr (All-head IsLabelByte byte head l.1, headed [] p head (All-tail IsLabelByte byte head l.1))
begun_by (byte ∷ head) (label ∷ tail) l p = inr (All-head IsLabelByte byte head l.1, headed (label ∷ tail) p head (All-tail IsLabelByte byte head l.1))

ended : (tail : List (List ℕ)) → All IsLabel tail → Parted true (join_with_byte 0x2E ([] ∷ tail))
ended [] all = refl
ended (label ∷ tail) all = inl (refl, refl, begun_by label tail (All-head IsLabel label tail all) (ended tail (All-tail IsLabel label tail all)))

pub parted_labels : (bytes : List ℕ) → Parted false bytes → AreLabels bytes
parted_labels bytes p = let w = read false bytes p in
    record { labels = w.0 ∷ w.1; some = omega arith; each = All-cons IsLabel w.0 w.1 w.2 w.3; parted = w.4 }

unjoined : (labels : List (List ℕ)) (bytes : List ℕ) → 1 ≤ length labels → All IsLabel labels → bytes ≡ join_with_byte 0x2E labels → Parted false bytes
unjoined [] bytes some each e = absurd (omega arith)
unjoined (label ∷ tail) bytes some each e = subst (Parted false) (sym e) (begun_by label tail (All-head IsLabel label tail each) (ended tail (All-tail IsLabel label tail each)))

pub labels_parted : (bytes : List ℕ) → AreLabels bytes → Parted false bytes
labels_parted bytes r = unjoined r.labels bytes r.some r.each r.parted

-- a byte is read where the label has begun and it is the dot, or it is a label's
pub after_dot : (byte : ℕ) (bytes : List ℕ) → byte ≡ 0x2E → Parted true (byte ∷ bytes) ↔ Parted false bytes
after_dot byte bytes e = (elim [ inl p ↦ p.2 | inr p ↦ absurd (omega (arith, p.0)) ], λ p. inl (e, refl, p))

pub after_label : (begun : Bool) (byte : ℕ) (bytes : List ℕ) → IsLabelByte byte → Parted begun (byte ∷ bytes) ↔ Parted true bytes
after_label begun byte bytes l = (elim [ inl p ↦ absurd (omega (arith, p.0, l)) | inr p ↦ p.1 ], λ p. inr (l, p))

pub refused_byte : (begun : Bool) (byte : ℕ) (bytes : List ℕ) → (IsTrue begun → byte ≡ 0x2E → ⊥) → (IsLabelByte byte → ⊥) → Parted begun (byte ∷ bytes) → ⊥
refused_byte begun byte bytes dot label (inl p) = dot p.1 p.0
refused_byte begun byte bytes dot label (inr p) = label p.0

-- what one byte does to all that is left
pub moved : (begun now : Bool) (bytes : List ℕ) (i : ℕ) (P : Type 0) → i < length bytes → Parted begun (get_or bytes i 0 ∷ drop (suc i) bytes) ↔ Parted now (drop (suc i) bytes)
    → Parted begun (drop i bytes) ↔ P → Parted now (drop (i + 1) bytes) ↔ P
moved begun now bytes i P h step before =
    let same : drop i bytes ≡ get_or bytes i 0 ∷ drop (suc i) bytes = drop-cons bytes i 0 h in
    let next : Parted begun (get_or bytes i 0 ∷ drop (suc i) bytes) ↔ P = subst (λ l. Parted begun l ↔ P) same before in
    rw add-one (λ p. next.0 (step.1 p), λ p. step.0 (next.1 p))

pub stopped : (begun : Bool) (bytes : List ℕ) (i : ℕ) → i < length bytes → (Parted begun (get_or bytes i 0 ∷ drop (suc i) bytes) → ⊥) → Parted begun (drop i bytes) → ⊥
stopped begun bytes i h none p = none (subst (Parted begun) (drop-cons bytes i 0 h) p)

pub at_end : (begun : Bool) (bytes : List ℕ) (i : ℕ) → length bytes ≤ i → Parted begun (drop i bytes) ↔ Parted false bytes → IsTrue begun ↔ AreLabels bytes
at_end begun bytes i h before =
    let none : drop i bytes ≡ [] = drop_all i bytes h in
    let last : Parted begun [] ↔ Parted false bytes = subst (λ l. Parted begun l ↔ Parted false bytes) none before in
    (λ t. parted_labels bytes (last.0 t), λ r. last.1 (labels_parted bytes r))
