-- Bytes are read as one thing: two answers agree, unless one of them is want of memory.
use Rattle.std.proofs.Common.{◌≡◌, ℕ, ◌-◌, List, [], ◌∷◌, ◌++◌, length, Some, None, Result, Ok, Err, refl, sym, ◌∙◌, ap, subst, arith, append_assoc, inl, inr}
use Rattle.std.specs.Prelude.{◌⊎◌}
use Rattle.std.proofs.lemmas.List.{append-nil, length-append}
use Rattle.kr_envelope.specs.declared.object.ObjectNo.{ObjectNo}
use Rattle.kr_envelope.specs.declared.object.ObjectNo.TheVariants.{Wire, KeyId, Source, Annotations, SourceType, NoData, NotUtf8, NoMemory}
use Rattle.kr_envelope.specs.declared.object.EncryptedObject.{EncryptedObject}
use Rattle.kr_envelope.specs.Wire.{BeginsSpelled}
use Rattle.kr_envelope.specs.Messages.{WireItem, IsItem, IsText, IsMessage, Raw, raw_of}
use Rattle.kr_envelope.specs.Limits.{breach_of, raw_in, BreaksAt, IsNoItem, IsNoText, ReadsMessage, AreOne}
use Rattle.kr_envelope.proofs.Items.{items_code}
use Rattle.kr_envelope.proofs.RoundTrip.{same_object}

-- no item of text begins there
abbrev Stuck : List ℕ → Type 0
Stuck rest = (item : WireItem) (tail : List ℕ) → BeginsSpelled IsItem rest item tail → IsText item → ⊥

stuck_at_end : (rest : List ℕ) → rest ≡ [] → Stuck rest
stuck_at_end rest e item tail s u = absurd (omega (arith, items_code.some s.0 item s.1, ap length s.2, length-append s.0 tail, ap length e))

stuck_at_no_item : (rest : List ℕ) → IsNoItem rest → Stuck rest
stuck_at_no_item rest n item tail s u = n.1 item tail s

stuck_at_no_text : (rest : List ℕ) → IsNoText rest → Stuck rest
stuck_at_no_text rest n item tail s u = let one = items_code.one rest item n.0 tail n.1 s n.2 in n.3 (subst IsText one.0 u)

-- the items before a place where none begins are the only ones, and so is the place
one_run : (front : List ℕ) (items : List WireItem) (rest : List ℕ) (start : List ℕ) (others : List WireItem) (tail : List ℕ) → IsMessage front items → IsMessage start others → front ++ rest ≡ start ++ tail → Stuck rest → Stuck tail
    → (items ≡ others) × (rest ≡ tail)
one_run front [] rest start [] tail m n e s t = (refl, ap (λ l. l ++ rest) (sym m.0) ∙ e ∙ ap (λ l. l ++ tail) n.0)
one_run front [] rest start (y ∷ ys) tail m n e s t =
    absurd (s y (n.0.1 ++ tail) (n.0.0, n.0.2, ap (λ l. l ++ rest) (sym m.0) ∙ e ∙ ap (λ l. l ++ tail) n.0.4 ∙ append_assoc n.0.0 n.0.1 tail) n.1.0)
one_run front (x ∷ xs) rest start [] tail m n e s t =
    absurd (t x (m.0.1 ++ rest) (m.0.0, m.0.2, ap (λ l. l ++ tail) (sym n.0) ∙ sym e ∙ ap (λ l. l ++ rest) m.0.4 ∙ append_assoc m.0.0 m.0.1 rest) m.1.0)
one_run front (x ∷ xs) rest start (y ∷ ys) tail m n e s t =
    let one = items_code.one (front ++ rest) x y (m.0.1 ++ rest) (n.0.1 ++ tail) (m.0.0, m.0.2, ap (λ l. l ++ rest) m.0.4 ∙ append_assoc m.0.0 m.0.1 rest)
    (n.0.0, n.0.2, e ∙ ap (λ l. l ++ tail) n.0.4 ∙ append_assoc n.0.0 n.0.1 tail) in
    let more = one_run m.0.1 xs rest n.0.1 ys tail (m.0.3, m.1.1) (n.0.3, n.1.1) one.1 s t in
    (ap (λ z. z ∷ xs) one.0 ∙ ap (λ l. y ∷ l) more.0, more.1)

-- what was judged
abbrev IsJudged : Raw → Result EncryptedObject ObjectNo → Type 0
IsJudged raw (Ok object) = (breach_of raw ≡ None) × (raw ≡ raw_in object)
IsJudged raw (Err why) = breach_of raw ≡ Some why

one_judged : (raw : Raw) (a b : Result EncryptedObject ObjectNo) → IsJudged raw a → IsJudged raw b → a ≡ b
one_judged raw (Ok x) (Ok y) j k = ap Ok (same_object x y (sym j.1 ∙ k.1))
one_judged raw (Ok x) (Err y) j k = let none = j.0 in cc
one_judged raw (Err x) (Ok y) j k = let none = k.0 in cc
one_judged raw (Err x) (Err y) j k = ap Err (some_one x y (sym j ∙ k))
  where
    some_one : (x y : ObjectNo) → Some x ≡ Some y → x ≡ y
    some_one x y e = cc

-- how a reading ended
record Whole (text : List ℕ) (rest : List ℕ) (items : List WireItem) (answer : Result EncryptedObject ObjectNo) : Type 0 where
  end : rest ≡ []
  judged : IsJudged (raw_of items) answer

record Unread (Breach : List ℕ → Type 0) (name : ℕ → ObjectNo) (text rest : List ℕ) (answer : Result EncryptedObject ObjectNo) : Type 0 where
  is : answer ≡ Err (name (length text - length rest))
  breach : Breach rest

record Run (text : List ℕ) (answer : Result EncryptedObject ObjectNo) : Type 0 where
  front : List ℕ
  rest : List ℕ
  items : List WireItem
  parts : text ≡ front ++ rest
  message : IsMessage front items
  stuck : Stuck rest
  ending : Whole text rest items answer ⊎ Unread IsNoItem Wire text rest answer ⊎ Unread IsNoText NotUtf8 text rest answer

whole : (text : List ℕ) (items : List WireItem) (answer : Result EncryptedObject ObjectNo) → IsMessage text items → IsJudged (raw_of items) answer → Run text answer
whole text items answer m j = record {
  front = text;
  rest = [];
  items = items;
  parts = sym (append-nil text);
  message = m;
  stuck = stuck_at_end [] refl;
  ending = inl (record { end = refl; judged = j });
}

place : (text front rest : List ℕ) (at : ℕ) → text ≡ front ++ rest → at ≡ length front → at ≡ length text - length rest
place text front rest at e l = omega (arith, ap length e, length-append front rest)

unread : {Breach : List ℕ → Type 0} {text : List ℕ} {at : ℕ} (name : ℕ → ObjectNo) (b : BreaksAt Breach text at) → Unread Breach name text b.rest (Err (name at))
unread {Breach} {text} {at} name b = record {
  is = ap (λ n. Err (name n)) (place text b.front b.rest at b.parts b.place);
  breach = b.breach;
}

broken : {Breach : List ℕ → Type 0} {text : List ℕ} {at : ℕ} {answer : Result EncryptedObject ObjectNo} (b : BreaksAt Breach text at) → Stuck b.rest
    → Whole text b.rest b.items answer ⊎ Unread IsNoItem Wire text b.rest answer ⊎ Unread IsNoText NotUtf8 text b.rest answer → Run text answer
broken b stuck ending = record {
  front = b.front;
  rest = b.rest;
  items = b.items;
  parts = b.parts;
  message = b.message;
  stuck = stuck;
  ending = ending;
}

run : (text : List ℕ) (answer : Result EncryptedObject ObjectNo) → ReadsMessage text answer → (answer ≡ Err NoMemory) ⊎ Run text answer
run text (Ok object) (items, m, j) = inr (whole text items (Ok object) m j)
run text (Err (Wire at)) b = inr (broken b (stuck_at_no_item b.rest b.breach) (inr (inl (unread Wire b))))
run text (Err KeyId) (items, m, j) = inr (whole text items (Err KeyId) m j)
run text (Err Source) (items, m, j) = inr (whole text items (Err Source) m j)
run text (Err Annotations) (items, m, j) = inr (whole text items (Err Annotations) m j)
run text (Err SourceType) (items, m, j) = inr (whole text items (Err SourceType) m j)
run text (Err NoData) (items, m, j) = inr (whole text items (Err NoData) m j)
run text (Err (NotUtf8 at)) b = inr (broken b (stuck_at_no_text b.rest b.breach) (inr (inr (unread NotUtf8 b))))
run text (Err NoMemory) j = inl refl

not_both : (rest : List ℕ) → IsNoItem rest → IsNoText rest → ⊥
not_both rest n t = n.1 t.0 t.1 t.2

not_end : (rest : List ℕ) → rest ≡ [] → IsNoText rest → ⊥
not_end rest e t = absurd (omega (arith, items_code.some t.2.0 t.0 t.2.1, ap length t.2.2, length-append t.2.0 t.1, ap length e))

one_run_ends : (text : List ℕ) (a b : Result EncryptedObject ObjectNo) → Run text a → Run text b → a ≡ b
one_run_ends text a b r s =
    let one = one_run r.front r.items r.rest s.front s.items s.rest r.message s.message (sym r.parts ∙ s.parts) r.stuck s.stuck in
    elim r.ending [
      | inl w ↦ elim s.ending [
        | inl v ↦ one_judged (raw_of s.items) a b (subst (λ l. IsJudged (raw_of l) a) one.0 w.judged) v.judged
        | inr u ↦ elim u [ inl v ↦ absurd (v.breach.0 (sym one.1 ∙ w.end)) | inr v ↦ absurd (not_end s.rest (sym one.1 ∙ w.end) v.breach) ]
      ]
      | inr o ↦ elim o [
        | inl w ↦ elim s.ending [
          | inl v ↦ absurd (w.breach.0 (one.1 ∙ v.end))
          | inr u ↦ elim u [ inl v ↦ w.is ∙ ap (λ l. Err (Wire (length text - length l))) one.1 ∙ sym v.is | inr v ↦ absurd (not_both s.rest (subst IsNoItem one.1 w.breach) v.breach) ]
        ]
        | inr w ↦ elim s.ending [
          | inl v ↦ absurd (not_end r.rest (one.1 ∙ v.end) w.breach)
          | inr u ↦ elim u [ inl v ↦ absurd (not_both s.rest v.breach (subst IsNoText one.1 w.breach)) | inr v ↦ w.is ∙ ap (λ l. Err (NotUtf8 (length text - length l))) one.1 ∙ sym v.is ]
        ]
      ]
    ]

pub one_reading : (text : List ℕ) (a b : Result EncryptedObject ObjectNo) → ReadsMessage text a → ReadsMessage text b → AreOne a b
one_reading text a b r s = elim (run text a r) [
  | inl short ↦ inl short
  | inr p ↦ elim (run text b s) [ inl short ↦ inr (inl short) | inr q ↦ inr (inr (one_run_ends text a b p q)) ]
]
