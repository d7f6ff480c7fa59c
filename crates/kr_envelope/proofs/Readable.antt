-- Every text has a reading: an object, or a first breach.
use Rattle.std.proofs.Common.{◌≡◌, ◌≢◌, ℕ, zero, suc, ◌+◌, ◌/◌, ◌%◌, ◌^◌, ◌<◌, ◌≤◌, List, [], ◌∷◌, ◌++◌, length, take, drop, Bool, true, false, Option, Some, None, Result, Ok, Err, refl, sym, ◌∙◌, ap, subst, arith, append_assoc, inl, inr}
use Rattle.std.specs.Prelude.{◌⊎◌, ◌==◌, ◌&&◌, position, nat_lt, nat_le, nat_eq, if◌then◌else◌}
use Rattle.std.specs.Str.{IsUtf8, is_utf8}
use Rattle.std.proofs.lemmas.Str.{IsUtf8-from_is_utf8, is_utf8-from_IsUtf8}
use Rattle.std.proofs.lemmas.Bool.Decides.{nat_tests}
use Rattle.std.proofs.lemmas.List.{append-nil, length-append, length-take-le, take-append-drop}
use Rattle.kr_base.specs.Limits.{is_short, are_few}
use Rattle.kr_envelope.specs.declared.object.SourceKind.{SourceKind}
use Rattle.kr_envelope.specs.declared.object.SourceKind.TheVariants.{Key, Seed}
use Rattle.kr_envelope.specs.declared.object.ObjectNo.{ObjectNo}
use Rattle.kr_envelope.specs.declared.object.ObjectNo.TheVariants.{Wire, KeyId, Source, Annotations, SourceType, NoData, NotUtf8, NoMemory}
use Rattle.kr_envelope.specs.declared.object.EncryptedObject.{EncryptedObject}
use Rattle.kr_envelope.specs.Wire.{Spells, BeginsSpelled, number, IsVarint, Payload, varint, fixed64, bytes, fixed32, wire_type, IsPayload, WireField, IsField}
use Rattle.kr_envelope.specs.Messages.{of_bytes, last_bytes, WireItem, encrypted, key_id, source, annotation, kind, other, MeansItem, IsItem, IsText, IsMessage, Raw, raw_of}
use Rattle.kr_envelope.specs.Limits.{breach_of, number_of, raw_in, ReadsMessage, HaveReadings}
use Rattle.kr_envelope.proofs.Varints.{varint_end, varint_groups, varint_found}
use Rattle.kr_envelope.proofs.Fields.{no_varint, no_size, too_long, with_bytes, no_key, bad_number, no_payload, with_payload}
use Rattle.kr_envelope.proofs.Spellings.{fields_code, spells_more, all_more}
use Rattle.kr_envelope.proofs.Items.{one_content, items_code, no_field, no_meaning, with_meaning}

-- a value begins a text, or none does
abbrev Begun : {T : Type 0} → (List ℕ → T → Type 0) → List ℕ → Type 0
Begun {T} Spelling text = (x : T) × ((rest : List ℕ) × BeginsSpelled Spelling text x rest)

abbrev Unbegun : {T : Type 0} → (List ℕ → T → Type 0) → List ℕ → Type 0
Unbegun {T} Spelling text = (x : T) (rest : List ℕ) → BeginsSpelled Spelling text x rest → ⊥

below : (a b : ℕ) → nat_lt a b ≡ true → a < b
below a b e = grind (arith, nat_tests)

not_below : (a b : ℕ) → nat_lt a b ≡ false → b ≤ a
not_below a b e = grind (arith, nat_tests)

same : (a b : ℕ) → nat_eq a b ≡ true → a ≡ b
same a b e = grind (arith, nat_tests)

differ : (a b : ℕ) → nat_eq a b ≡ false → a ≢ b
differ a b e = grind (arith, nat_tests)

-- fields

some_varint : (text : List ℕ) → Begun IsVarint text ⊎ Unbegun IsVarint text
some_varint text = by (position (λ byte. nat_lt byte 128) text) refl
  where
    valued : (last : ℕ) → position (λ byte. nat_lt byte 128) text ≡ Some last → last < 10 → (b : Bool) → nat_lt (number (take (last + 1) text)) (2 ^ 64) ≡ b → Begun IsVarint text ⊎ Unbegun IsVarint text
    valued last e l true v = inl (number (take (last + 1) text), (drop (last + 1) text, varint_found text (take (last + 1) text) (drop (last + 1) text) last (number (take (last + 1) text)) e l refl refl refl (below _ _ v)))
    valued last e l false v = inr (λ n rest s.
        let groups = varint_groups text n rest last s e in
        let value : n ≡ number (take (last + 1) text) = s.1.value ∙ ap number groups.1 in
        absurd (omega (arith, value, s.1.fits, not_below _ _ v)))

    short : (last : ℕ) → position (λ byte. nat_lt byte 128) text ≡ Some last → (b : Bool) → nat_lt last 10 ≡ b → Begun IsVarint text ⊎ Unbegun IsVarint text
    short last e true l = valued last e (below _ _ l) (nat_lt (number (take (last + 1) text)) (2 ^ 64)) refl
    short last e false l = inr (λ n rest s. let groups = varint_groups text n rest last s e in absurd (omega (arith, groups.0, s.1.short, not_below _ _ l)))

    by : (o : Option ℕ) → position (λ byte. nat_lt byte 128) text ≡ o → Begun IsVarint text ⊎ Unbegun IsVarint text
    by None e = inr (λ n rest s. let end = varint_end text n rest s in absurd (cc))
    by (Some last) e = short last e (nat_lt last 10) refl

abbrev Carried : ℕ → List ℕ → Type 0
Carried k text = (p : Payload) × ((rest : List ℕ) × ((wire_type p ≡ k) × BeginsSpelled IsPayload text p rest))

abbrev Uncarried : ℕ → List ℕ → Type 0
Uncarried k text = (p : Payload) (rest : List ℕ) → wire_type p ≡ k → BeginsSpelled IsPayload text p rest → ⊥

no_eight : (text : List ℕ) → length text < 8 → Uncarried 1 text
no_eight text h (fixed64 content) rest w s = absurd (omega (arith, h, s.1.1, ap length s.1.0, ap length s.2, length-append s.0 rest))
no_eight text h payload rest w s = absurd (omega arith)

no_four : (text : List ℕ) → length text < 4 → Uncarried 5 text
no_four text h (fixed32 content) rest w s = absurd (omega (arith, h, s.1.1, ap length s.1.0, ap length s.2, length-append s.0 rest))
no_four text h payload rest w s = absurd (omega arith)

no_type : (k : ℕ) (text : List ℕ) → k ≢ 0 → k ≢ 1 → k ≢ 2 → k ≢ 5 → Uncarried k text
no_type k text a b c d (varint n) rest w s = absurd (a (sym w))
no_type k text a b c d (fixed64 content) rest w s = absurd (b (sym w))
no_type k text a b c d (bytes content) rest w s = absurd (c (sym w))
no_type k text a b c d (fixed32 content) rest w s = absurd (d (sym w))

number_carried : (text : List ℕ) → Carried 0 text ⊎ Uncarried 0 text
number_carried text = elim (some_varint text) [
  | inl v ↦ inl (varint v.0, (v.1.0, (refl, v.1.1)))
  | inr n ↦ inr (no_varint text 0 refl n)
]

-- a payload of a fixed size
sized_carried : (k size : ℕ) (make : List ℕ → Payload) (text : List ℕ) → (length text < size → Uncarried k text)
    → ((content : List ℕ) → length content ≡ size → (wire_type (make content) ≡ k) × IsPayload content (make content))
    → Carried k text ⊎ Uncarried k text
sized_carried k size make text short long = by (nat_lt (length text) size) refl
  where
    by : (b : Bool) → nat_lt (length text) size ≡ b → Carried k text ⊎ Uncarried k text
    by true e = inr (short (below _ _ e))
    by false e =
        let is = long (take size text) (length-take-le size text (not_below _ _ e)) in
        inl (make (take size text), (drop size text, (is.0, (take size text, is.1, sym (take-append-drop size text)))))

eight_carried : (text : List ℕ) → Carried 1 text ⊎ Uncarried 1 text
eight_carried text = sized_carried 1 8 fixed64 text (no_eight text) (λ content h. (refl, (refl, h)))

bytes_carried : (text : List ℕ) → Carried 2 text ⊎ Uncarried 2 text
bytes_carried text = elim (some_varint text) [
  | inl v ↦ sized v.0 v.1.0 v.1.1 (nat_lt (length v.1.0) v.0) refl
  | inr n ↦ inr (no_size text 2 refl n)
]
  where
    sized : (n : ℕ) (behind : List ℕ) → BeginsSpelled IsVarint text n behind → (b : Bool) → nat_lt (length behind) n ≡ b → Carried 2 text ⊎ Uncarried 2 text
    sized n behind v true e = inr (too_long text 2 n behind refl v (below _ _ e))
    sized n behind v false e = inl (bytes (take n behind), (drop n behind, (refl, with_bytes text n behind (take n behind) (drop n behind) v (not_below _ _ e) refl refl)))

four_carried : (text : List ℕ) → Carried 5 text ⊎ Uncarried 5 text
four_carried text = sized_carried 5 4 fixed32 text (no_four text) (λ content h. (refl, (refl, h)))

some_payload : (k : ℕ) (text : List ℕ) → Carried k text ⊎ Uncarried k text
some_payload k text = zeroth (nat_eq k 0) refl
  where
    fifth : k ≢ 0 → k ≢ 1 → k ≢ 2 → (b : Bool) → nat_eq k 5 ≡ b → Carried k text ⊎ Uncarried k text
    fifth a b c true e = subst (λ n. Carried n text ⊎ Uncarried n text) (sym (same k 5 e)) (four_carried text)
    fifth a b c false e = inr (no_type k text a b c (differ k 5 e))

    second : k ≢ 0 → k ≢ 1 → (b : Bool) → nat_eq k 2 ≡ b → Carried k text ⊎ Uncarried k text
    second a b true e = subst (λ n. Carried n text ⊎ Uncarried n text) (sym (same k 2 e)) (bytes_carried text)
    second a b false e = fifth a b (differ k 2 e) (nat_eq k 5) refl

    first : k ≢ 0 → (b : Bool) → nat_eq k 1 ≡ b → Carried k text ⊎ Uncarried k text
    first a true e = subst (λ n. Carried n text ⊎ Uncarried n text) (sym (same k 1 e)) (eight_carried text)
    first a false e = second a (differ k 1 e) (nat_eq k 2) refl

    zeroth : (b : Bool) → nat_eq k 0 ≡ b → Carried k text ⊎ Uncarried k text
    zeroth true e = subst (λ n. Carried n text ⊎ Uncarried n text) (sym (same k 0 e)) (number_carried text)
    zeroth false e = first (differ k 0 e) (nat_eq k 1) refl

in_range : (n : ℕ) → ((1 ≤ n) × (n ≤ 536870911)) ⊎ ((1 ≤ n) × (n ≤ 536870911) → ⊥)
in_range n = low (nat_lt n 1) refl
  where
    high : 1 ≤ n → (b : Bool) → nat_lt 536870911 n ≡ b → ((1 ≤ n) × (n ≤ 536870911)) ⊎ ((1 ≤ n) × (n ≤ 536870911) → ⊥)
    high l true e = let above = below _ _ e in inr (λ h. absurd (omega (arith, h.1, above)))
    high l false e = inl (l, not_below _ _ e)

    low : (b : Bool) → nat_lt n 1 ≡ b → ((1 ≤ n) × (n ≤ 536870911)) ⊎ ((1 ≤ n) × (n ≤ 536870911) → ⊥)
    low true e = let under = below _ _ e in inr (λ h. absurd (omega (arith, h.0, under)))
    low false e = high (not_below _ _ e) (nat_lt 536870911 n) refl

some_field : (text : List ℕ) → Begun IsField text ⊎ Unbegun IsField text
some_field text = elim (some_varint text) [
  | inl v ↦ elim (in_range (v.0 / 8)) [
    | inl range ↦ elim (some_payload (v.0 % 8) v.1.0) [
      | inl p ↦ inl (record { number = v.0 / 8; payload = p.0 }, (p.1.0, with_payload text v.0 v.1.0 (v.0 / 8) p.0 p.1.0 v.1.1 refl range p.1.1.0 p.1.1.1))
      | inr n ↦ inr (no_payload text v.0 v.1.0 v.1.1 n)
    ]
    | inr out ↦ inr (bad_number text v.0 v.1.0 v.1.1 out)
  ]
  | inr n ↦ inr (no_key text n)
]

-- lists of values

abbrev Listed : {T : Type 0} → (List ℕ → T → Type 0) → List ℕ → Type 0
Listed {T} Spelling text = (xs : List T) × Spells Spelling text xs

abbrev Unlisted : {T : Type 0} → (List ℕ → T → Type 0) → List ℕ → Type 0
Unlisted {T} Spelling text = (xs : List T) → Spells Spelling text xs → ⊥

fields_in : (fuel : ℕ) (text : List ℕ) → length text ≤ fuel → Listed IsField text ⊎ Unlisted IsField text
fields_in fuel [] h = inl ([], refl)
fields_in zero (byte ∷ text) h = absurd (omega arith)
fields_in (suc fuel) (byte ∷ text) h = elim (some_field (byte ∷ text)) [
  | inl f ↦ elim (fields_in fuel f.1.0 (shorter f.0 f.1.0 f.1.1)) [
    | inl more ↦ inl (f.0 ∷ more.0, (f.1.1.0, f.1.0, f.1.1.1, more.1, f.1.1.2))
    | inr none ↦ inr (λ xs m. not_so f.0 f.1.0 f.1.1 none xs m)
  ]
  | inr none ↦ inr (λ xs m. not_begun none xs m)
]
  where
    shorter : (field : WireField) (rest : List ℕ) → (s : BeginsSpelled IsField (byte ∷ text) field rest) → length rest ≤ fuel
    shorter field rest s = omega (arith, h, fields_code.some s.0 field s.1, ap length s.2, length-append s.0 rest)

    not_begun : Unbegun IsField (byte ∷ text) → (xs : List WireField) → Spells IsField (byte ∷ text) xs → ⊥
    not_begun none [] m = cc
    not_begun none (x ∷ xs) m = none x m.1 (m.0, m.2, m.4)

    not_so : (field : WireField) (rest : List ℕ) → BeginsSpelled IsField (byte ∷ text) field rest → Unlisted IsField rest → (xs : List WireField) → Spells IsField (byte ∷ text) xs → ⊥
    not_so field rest s none [] m = cc
    not_so field rest s none (x ∷ xs) m =
        let one = fields_code.one (byte ∷ text) field x rest m.1 s (m.0, m.2, m.4) in
        none xs (subst (λ l. Spells IsField l xs) (sym one.1) m.3)

-- items

abbrev Meant : WireField → Type 0
Meant field = (item : WireItem) × MeansItem field item

abbrev Unmeant : WireField → Type 0
Unmeant field = (item : WireItem) → MeansItem field item → ⊥

no_entry : (text : List ℕ) → Unlisted IsField text → Unmeant (of_bytes 4 text)
no_entry text none (annotation k v) m =
    let same : text ≡ m.0 = one_content (of_bytes 4 text) 4 4 text m.0 refl m.1 in
    none m.2.0 (subst (λ l. Spells IsField l m.2.0) (sym same) m.2.1)
no_entry text none (kind n) m = absurd (omega (arith, ap (λ (f : WireField). f.number) m.1))
no_entry text none other m = cc
no_entry text none item m = absurd (omega (arith, ap (λ (f : WireField). f.number) m))

not_own : (n : ℕ) → n ≢ 1 → n ≢ 2 → n ≢ 3 → n ≢ 4 → (nat_le 1 n && nat_le n 4) ≡ false
not_own n a b c d = grind (arith, nat_tests)

some_bytes : (n : ℕ) (content : List ℕ) → Meant (of_bytes n content) ⊎ Unmeant (of_bytes n content)
some_bytes n content = first (nat_eq n 1) refl
  where
    fourth : n ≢ 1 → n ≢ 2 → n ≢ 3 → (b : Bool) → nat_eq n 4 ≡ b → Meant (of_bytes n content) ⊎ Unmeant (of_bytes n content)
    fourth a b c true e = subst (λ k. Meant (of_bytes k content) ⊎ Unmeant (of_bytes k content)) (sym (same n 4 e)) (elim (fields_in (length content) content (omega arith)) [
      | inl l ↦ inl (annotation (last_bytes 1 l.0) (last_bytes 2 l.0), (content, refl, (l.0, l.1, refl, refl)))
      | inr none ↦ inr (no_entry content none)
    ])
    fourth a b c false e = inl (other, not_own n a b c (differ n 4 e))

    third : n ≢ 1 → n ≢ 2 → (b : Bool) → nat_eq n 3 ≡ b → Meant (of_bytes n content) ⊎ Unmeant (of_bytes n content)
    third a b true e = inl (source content, ap (λ k. of_bytes k content) (same n 3 e))
    third a b false e = fourth a b (differ n 3 e) (nat_eq n 4) refl

    second : n ≢ 1 → (b : Bool) → nat_eq n 2 ≡ b → Meant (of_bytes n content) ⊎ Unmeant (of_bytes n content)
    second a true e = inl (key_id content, ap (λ k. of_bytes k content) (same n 2 e))
    second a false e = third a (differ n 2 e) (nat_eq n 3) refl

    first : (b : Bool) → nat_eq n 1 ≡ b → Meant (of_bytes n content) ⊎ Unmeant (of_bytes n content)
    first true e = inl (encrypted content, ap (λ k. of_bytes k content) (same n 1 e))
    first false e = second (differ n 1 e) (nat_eq n 2) refl

some_meaning : (n : ℕ) (p : Payload) → Meant (record { number = n; payload = p }) ⊎ Unmeant (record { number = n; payload = p })
some_meaning n (varint m) = by (n == 5) refl
  where
    by : (b : Bool) → (n == 5) ≡ b → Meant (record { number = n; payload = varint m }) ⊎ Unmeant (record { number = n; payload = varint m })
    by true e = inl (kind (m % 2 ^ 32), (m, ap (λ k. let field : WireField = record { number = k; payload = varint m } in field) (same n 5 e), refl))
    by false e = inl (other, e)
some_meaning n (fixed64 content) = inl (other, refl)
some_meaning n (bytes content) = some_bytes n content
some_meaning n (fixed32 content) = inl (other, refl)

some_item : (text : List ℕ) → Begun IsItem text ⊎ Unbegun IsItem text
some_item text = elim (some_field text) [
  | inl f ↦ elim (some_meaning f.0.number f.0.payload) [
    | inl m ↦ inl (m.0, (f.1.0, with_meaning text f.0 f.1.0 m.0 f.1.1 m.1))
    | inr none ↦ inr (no_meaning text f.0 f.1.0 f.1.1 none)
  ]
  | inr none ↦ inr (no_field text none)
]

is_text : (content : List ℕ) → IsUtf8 content ⊎ (IsUtf8 content → ⊥)
is_text content = by (is_utf8 content) refl
  where
    by : (b : Bool) → is_utf8 content ≡ b → IsUtf8 content ⊎ (IsUtf8 content → ⊥)
    by true e = inl (IsUtf8-from_is_utf8 content e)
    by false e = inr (λ u. let t = is_utf8-from_IsUtf8 content u in cc)

texts : (item : WireItem) → IsText item ⊎ (IsText item → ⊥)
texts (key_id content) = is_text content
texts (annotation key value) = is_text key
texts item = inl tt

-- messages

abbrev Answered : List ℕ → Type 0
Answered text = (answer : Result EncryptedObject ObjectNo) × ReadsMessage text answer × (answer ≢ Err NoMemory)

kind_of : ℕ → SourceKind
kind_of zero = Key
kind_of (suc n) = Seed

kind_number : (n : ℕ) → n ≤ 1 → n ≡ number_of (kind_of n)
unfolding kind_of
kind_number zero h = refl
kind_number (suc zero) h = refl
kind_number (suc (suc n)) h = absurd (omega arith)

at_most : (a b : ℕ) → nat_le a b ≡ true → a ≤ b
at_most a b e = grind (arith, nat_tests)

object_in : Raw → EncryptedObject
object_in raw = record { encrypted = raw.encrypted; key_id = raw.key_id; source = raw.source; annotations = raw.annotations; kind = kind_of raw.kind }

raw_again : (raw : Raw) → raw.kind ≤ 1 → raw ≡ raw_in (object_in raw)
unfolding object_in
raw_again raw h = ap (λ k. let r : Raw = record { encrypted = raw.encrypted; key_id = raw.key_id; source = raw.source; annotations = raw.annotations; kind = k } in r) (kind_number raw.kind h)

judged : (text : List ℕ) (items : List WireItem) → IsMessage text items
    → (b c d f g : Bool) → nat_le (raw_of items).kind 1 ≡ g
    → breach_of (raw_of items) ≡ (if b
    then (if c
    then (if d
    then (if f
    then (if g then None else Some SourceType)
    else Some Annotations)
    else Some Source)
    else Some KeyId)
    else Some NoData)
    → Answered text
judged text items m false c d f g k e = (Err NoData, (items, m, e), (λ q. cc))
judged text items m true false d f g k e = (Err KeyId, (items, m, e), (λ q. cc))
judged text items m true true false f g k e = (Err Source, (items, m, e), (λ q. cc))
judged text items m true true true false g k e = (Err Annotations, (items, m, e), (λ q. cc))
judged text items m true true true true false k e = (Err SourceType, (items, m, e), (λ q. cc))
judged text items m true true true true true k e = (Ok (object_in (raw_of items)), (items, m, (e, raw_again (raw_of items) (at_most _ _ k))), (λ q. cc))

walk : (fuel : ℕ) (text front rest : List ℕ) (items : List WireItem) → text ≡ front ++ rest → IsMessage front items → length rest ≤ fuel → Answered text
walk fuel text front [] items e m h =
    let raw : Raw = raw_of items in
    judged text items (subst (λ l. IsMessage l items) (sym (e ∙ append-nil front)) m)
    (nat_le 1 (length raw.encrypted)) (is_short raw.key_id) (is_short raw.source) (are_few raw.annotations) (nat_le raw.kind 1) refl refl
walk zero text front (byte ∷ rest) items e m h = absurd (omega arith)
walk (suc fuel) text front (byte ∷ rest) items e m h = elim (some_item (byte ∷ rest)) [
  | inl s ↦ elim (texts s.0) [
    | inl t ↦ walk fuel text (front ++ s.1.1.0) s.1.0 (items ++ s.0 ∷ []) (further s.0 s.1.0 s.1.1) (spells_more IsItem front items (byte ∷ rest) s.0 s.1.0 m.0 s.1.1, all_more IsText items s.0 m.1 t) (shorter s.0 s.1.0 s.1.1)
    | inr strange ↦ (Err (NotUtf8 (length front)), record { front = front; rest = byte ∷ rest; items = items; parts = e; message = m; place = refl; breach = (s.0, s.1.0, s.1.1, strange) }, (λ q. cc))
  ]
  | inr none ↦ (Err (Wire (length front)), record { front = front; rest = byte ∷ rest; items = items; parts = e; message = m; place = refl; breach = ((λ q. cc), none) }, (λ q. cc))
]
  where
    further : (item : WireItem) (tail : List ℕ) → (s : BeginsSpelled IsItem (byte ∷ rest) item tail) → text ≡ (front ++ s.0) ++ tail
    further item tail s = e ∙ ap (λ l. front ++ l) s.2 ∙ sym (append_assoc front s.0 tail)

    shorter : (item : WireItem) (tail : List ℕ) → (s : BeginsSpelled IsItem (byte ∷ rest) item tail) → length tail ≤ fuel
    shorter item tail s = omega (arith, h, items_code.some s.0 item s.1, ap length s.2, length-append s.0 tail)

pub have_readings : HaveReadings
have_readings text = walk (length text) text [] text [] refl (refl, tt) (omega arith)
