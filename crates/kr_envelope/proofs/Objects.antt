-- The object of items, one more item at a time, and of a whole text.
use Rattle.std.proofs.Common.{◌≡◌, ◌≢◌, ℕ, ◌+◌, ◌-◌, ◌<◌, ◌≤◌, List, [], ◌∷◌, ◌++◌, length, drop, get_or, suc, Bool, true, false, Option, Some, None, Result, Ok, Err, refl, sym, ◌∙◌, ap, subst, arith, append_assoc}
use Rattle.std.specs.List.{filter_map, cons_option}
use Rattle.std.specs.declared.cmp.Ordering.{Ordering}
use Rattle.std.specs.declared.cmp.Ordering.TheVariants.{Less, Equal, Greater}
use Rattle.std.specs.Ordering.{nat_cmp, match_ordering}
use Rattle.std.specs.Cmp.Lexicographic.{slice_cmp}
use Rattle.std.proofs.lemmas.List.{append-nil, length-append}
use Rattle.std.proofs.lemmas.List.Elements.{filter_map-append}
use Rattle.std.proofs.Math.Seq.{drop-cons}
use Rattle.kr_base.specs.Limits.{pairs_size}
use Rattle.kr_base.specs.Pairs.{Pairs, with_pair}
use Rattle.kr_envelope.specs.Wire.{Spells, BeginsSpelled, WireField, IsField}
use Rattle.kr_envelope.specs.Messages.{last_or, bytes_at, of_bytes, MeansItem, WireItem, encrypted, key_id, source, annotation, kind, other, IsItem, IsText, IsMessage, encrypted_in, key_id_in, source_in, annotation_in, kind_in, put_all, Raw, raw_of}
use Rattle.kr_envelope.specs.Limits.{Judges, BreaksAt, ReadsMessage}
use Rattle.kr_envelope.specs.inner.Reading.{with_item, later, Keeps, Sees, SeesEntry, Walks}
use Rattle.kr_envelope.specs.declared.partial.PartialObject.{PartialObject}
use Rattle.kr_envelope.specs.declared.object.ObjectNo.{ObjectNo}
use Rattle.kr_envelope.specs.declared.object.ObjectNo.TheVariants.{Wire, KeyId, Source, Annotations, SourceType, NoData, NotUtf8, NoMemory}
use Rattle.kr_envelope.specs.declared.object.EncryptedObject.{EncryptedObject}
use Rattle.kr_envelope.proofs.Items.{one_content}
use Rattle.kr_envelope.proofs.Spellings.{spells_more, spells_none, fields_code, all_more}

last_more : {T : Type 0} (d : T) (xs : List T) (y : T) → last_or d (xs ++ y ∷ []) ≡ y
last_more d [] y = refl
last_more d (x ∷ xs) y = last_more x xs y

put_more : (pairs : Pairs) (xs : List (List ℕ × List ℕ)) (y : List ℕ × List ℕ) → put_all pairs (xs ++ y ∷ []) ≡ with_pair (put_all pairs xs) y.0 y.1
put_more pairs [] y = refl
put_more pairs (x ∷ xs) y = put_more (with_pair pairs x.0 x.1) xs y

-- a part of the object where the item has a value for it, and where it has none
has : {T : Type 0} (f : WireItem → Option T) (d : T) (items : List WireItem) (item : WireItem) (x : T) → f item ≡ Some x → last_or d (filter_map f (items ++ item ∷ [])) ≡ x
has f d items item x e = ap (last_or d) (filter_map-append f items (item ∷ []) ∙ ap (λ o. filter_map f items ++ cons_option o []) e) ∙ last_more d (filter_map f items) x

keeps : {T : Type 0} (f : WireItem → Option T) (items : List WireItem) (item : WireItem) → f item ≡ None → filter_map f (items ++ item ∷ []) ≡ filter_map f items
keeps f items item e = filter_map-append f items (item ∷ []) ∙ ap (λ o. filter_map f items ++ cons_option o []) e ∙ append-nil (filter_map f items)

raw : List ℕ → List ℕ → List ℕ → Pairs → ℕ → Raw
raw e k s a n = record { encrypted = e; key_id = k; source = s; annotations = a; kind = n }

same_raw : (a b : Raw) → a.encrypted ≡ b.encrypted → a.key_id ≡ b.key_id → a.source ≡ b.source → a.annotations ≡ b.annotations → a.kind ≡ b.kind → a ≡ b
unfolding raw
same_raw a b e k s n m =
    ap (λ x. raw x a.key_id a.source a.annotations a.kind) e ∙ ap (λ x. raw b.encrypted x a.source a.annotations a.kind) k
    ∙ ap (λ x. raw b.encrypted b.key_id x a.annotations a.kind) s ∙ ap (λ x. raw b.encrypted b.key_id b.source x a.kind) n
    ∙ ap (λ x. raw b.encrypted b.key_id b.source b.annotations x) m

-- one more item goes over those before it
pub raw_more : (items : List WireItem) (item : WireItem) → raw_of (items ++ item ∷ []) ≡ with_item (raw_of items) item
raw_more items (encrypted content) = let item = encrypted content in same_raw _ _
    (has encrypted_in [] items item content refl) (ap (last_or []) (keeps key_id_in items item refl)) (ap (last_or []) (keeps source_in items item refl)) (ap (put_all []) (keeps annotation_in items item refl)) (ap (last_or 0) (keeps kind_in items item refl))
raw_more items (key_id content) = let item = key_id content in same_raw _ _
    (ap (last_or []) (keeps encrypted_in items item refl)) (has key_id_in [] items item content refl) (ap (last_or []) (keeps source_in items item refl)) (ap (put_all []) (keeps annotation_in items item refl)) (ap (last_or 0) (keeps kind_in items item refl))
raw_more items (source content) = let item = source content in same_raw _ _
    (ap (last_or []) (keeps encrypted_in items item refl)) (ap (last_or []) (keeps key_id_in items item refl)) (has source_in [] items item content refl) (ap (put_all []) (keeps annotation_in items item refl)) (ap (last_or 0) (keeps kind_in items item refl))
raw_more items (annotation key value) = let item = annotation key value in same_raw _ _
    (ap (last_or []) (keeps encrypted_in items item refl)) (ap (last_or []) (keeps key_id_in items item refl)) (ap (last_or []) (keeps source_in items item refl))
    (ap (put_all []) (filter_map-append annotation_in items (item ∷ [])) ∙ put_more [] (filter_map annotation_in items) (key, value)) (ap (last_or 0) (keeps kind_in items item refl))
raw_more items (kind n) = let item = kind n in same_raw _ _
    (ap (last_or []) (keeps encrypted_in items item refl)) (ap (last_or []) (keeps key_id_in items item refl)) (ap (last_or []) (keeps source_in items item refl)) (ap (put_all []) (keeps annotation_in items item refl)) (has kind_in 0 items item n refl)
raw_more items other = same_raw _ _
    (ap (last_or []) (keeps encrypted_in items other refl)) (ap (last_or []) (keeps key_id_in items other refl)) (ap (last_or []) (keeps source_in items other refl)) (ap (put_all []) (keeps annotation_in items other refl)) (ap (last_or 0) (keeps kind_in items other refl))

-- annotations never become fewer
longer : (pairs : Pairs) (key value : List ℕ) → length pairs ≤ length (with_pair pairs key value)
longer [] key value = omega arith
longer (e ∷ es) key value = by (slice_cmp nat_cmp key e.0) (longer es key value)
  where
    by : (r : Ordering) → length es ≤ length (with_pair es key value) → length (e ∷ es) ≤ length (match_ordering r ((key, value) ∷ e ∷ es) ((e.0, value) ∷ es) (e ∷ with_pair es key value))
    by Less h = omega arith
    by Equal h = omega arith
    by Greater h = omega arith

still : (crowded : Bool) (kept pairs : Pairs) (key value : List ℕ) → crowded ≡ true → Keeps crowded kept pairs → Keeps crowded kept (with_pair pairs key value)
still true kept pairs key value t h = omega (arith, h, longer pairs key value)
still false kept pairs key value t h = cc

pub still_crowded : (partial : PartialObject) (raw : Raw) (key value : List ℕ) → partial.crowded ≡ true → Sees partial raw → Sees partial (record raw { annotations = with_pair raw.annotations key value })
still_crowded partial raw key value t s = record { encrypted = s.encrypted; key_id = s.key_id; source = s.source; kind = s.kind; annotations = still partial.crowded partial.annotations raw.annotations key value t s.annotations }

-- the bytes of annotations, from a pair on
pub size_drop : (pairs : Pairs) (i : ℕ) (d : List ℕ × List ℕ) → i < length pairs → pairs_size (drop i pairs) ≡ length (get_or pairs i d).0 + length (get_or pairs i d).1 + pairs_size (drop (suc i) pairs)
size_drop pairs i d h = ap pairs_size (drop-cons pairs i d h)

-- an entry, one more field at a time
last_field : (d : List ℕ) (n : ℕ) (fields : List WireField) (field : WireField) → last_or d (filter_map (bytes_at n) (fields ++ field ∷ [])) ≡ later (last_or d (filter_map (bytes_at n) fields)) (bytes_at n field)
last_field d n fields field = ap (last_or d) (filter_map-append (bytes_at n) fields (field ∷ [])) ∙ by (bytes_at n field) (filter_map (bytes_at n) fields)
  where
    by : (o : Option (List ℕ)) (xs : List (List ℕ)) → last_or d (xs ++ cons_option o []) ≡ later (last_or d xs) o
    by None xs = ap (last_or d) (append-nil xs)
    by (Some x) xs = last_more d xs x

pub entry_more : (text rest key value key_after value_after behind : List ℕ) (field : WireField) → SeesEntry text rest key value → BeginsSpelled IsField rest field behind → key_after ≡ later key (bytes_at 1 field) → value_after ≡ later value (bytes_at 2 field)
    → SeesEntry text behind key_after value_after
entry_more text rest key value key_after value_after behind field s f k v = record {
  front = s.front ++ f.0;
  fields = s.fields ++ field ∷ [];
  parts = s.parts ∙ ap (λ l. s.front ++ l) f.2 ∙ sym (append_assoc s.front f.0 behind);
  spelled = spells_more IsField s.front s.fields rest field behind s.spelled f;
  key_is = k ∙ ap (λ x. later x (bytes_at 1 field)) s.key_is ∙ sym (last_field [] 1 s.fields field);
  value_is = v ∙ ap (λ x. later x (bytes_at 2 field)) s.value_is ∙ sym (last_field [] 2 s.fields field);
}

pub entry_begun : (text : List ℕ) → SeesEntry text text [] []
entry_begun text = record { front = []; fields = []; parts = refl; spelled = refl; key_is = refl; value_is = refl }

-- an entry whose fields end where none begins says nothing
pub no_entry : (text rest key value : List ℕ) → SeesEntry text rest key value → rest ≢ [] → ((field : WireField) (tail : List ℕ) → BeginsSpelled IsField rest field tail → ⊥) → (item : WireItem) → MeansItem (of_bytes 4 text) item → ⊥
no_entry text rest key value s some none (annotation k v) m =
    let same : text ≡ m.0 = one_content (of_bytes 4 text) 4 4 text m.0 refl m.1 in
    spells_none IsField fields_code text s.front rest s.fields s.spelled s.parts some none m.2.0 (subst (λ l. Spells IsField l m.2.0) (sym same) m.2.1)
no_entry text rest key value s some none (kind n) m = absurd (omega (arith, ap (λ (f : WireField). f.number) m.1))
no_entry text rest key value s some none other m = cc
no_entry text rest key value s some none item m = absurd (omega (arith, ap (λ (f : WireField). f.number) m))

-- a whole entry is an annotation
pub whole_entry : (text rest key value : List ℕ) → SeesEntry text rest key value → rest ≡ [] → MeansItem (of_bytes 4 text) (annotation key value)
whole_entry text rest key value s e =
    let whole : s.front ≡ text = sym (s.parts ∙ ap (λ l. s.front ++ l) e ∙ append-nil s.front) in
    (text, refl, (s.fields, subst (λ l. Spells IsField l s.fields) whole s.spelled, s.key_is, s.value_is))

-- a message, one more item at a time
pub walk_more : (text rest behind : List ℕ) (partial after : PartialObject) (item : WireItem) → Walks text rest partial → BeginsSpelled IsItem rest item behind → IsText item → ((raw : Raw) → Sees partial raw → Sees after (with_item raw item)) → Walks text behind after
walk_more text rest behind partial after item w s t p = record {
  front = w.front ++ s.0;
  items = w.items ++ item ∷ [];
  parts = w.parts ∙ ap (λ l. w.front ++ l) s.2 ∙ sym (append_assoc w.front s.0 behind);
  message = (spells_more IsItem w.front w.items rest item behind w.message.0 s, all_more IsText w.items item w.message.1 t);
  sees = subst (Sees after) (sym (raw_more w.items item)) (p (raw_of w.items) w.sees);
}

pub walk_begun : (text : List ℕ) (partial : PartialObject) → Sees partial (raw_of []) → Walks text text partial
walk_begun text partial s = record { front = []; items = []; parts = refl; message = (refl, tt); sees = s }

pub walk_broken : (Breach : List ℕ → Type 0) (text rest : List ℕ) (partial : PartialObject) (at : ℕ) → Walks text rest partial → at ≡ length text - length rest → Breach rest → BreaksAt Breach text at
walk_broken Breach text rest partial at w e b = record {
  front = w.front;
  rest = rest;
  items = w.items;
  parts = w.parts;
  message = w.message;
  place = omega (arith, e, ap length w.parts, length-append w.front rest);
  breach = b;
}

judged : (text : List ℕ) (items : List WireItem) → IsMessage text items → (result : Result EncryptedObject ObjectNo) → Judges (raw_of items) result → ReadsMessage text result
judged text items m (Err NoMemory) j = tt
judged text items m (Err (Wire at)) j = absurd j
judged text items m (Err (NotUtf8 at)) j = absurd j
judged text items m result j = (items, m, j)

-- and the whole
pub walk_ended : (text rest : List ℕ) (partial : PartialObject) (result : Result EncryptedObject ObjectNo) → Walks text rest partial → rest ≡ [] → ((raw : Raw) → Sees partial raw → Judges raw result) → ReadsMessage text result
walk_ended text rest partial result w e j =
    let whole : w.front ≡ text = sym (w.parts ∙ ap (λ l. w.front ++ l) e ∙ append-nil w.front) in
    judged text w.items (subst (λ l. IsMessage l w.items) whole w.message) result (j (raw_of w.items) w.sees)
