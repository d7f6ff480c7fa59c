-- What is written is a message of the object, and bytes are read as one thing.
use Rattle.std.proofs.Common.{Result, ◌≡◌, ℕ, ◌+◌, ◌*◌, ◌^◌, ◌<◌, ◌≤◌, List, [], ◌∷◌, ◌++◌, length, Bool, true, false, Option, Some, None, Ok, Err, refl, sym, ◌∙◌, ap, subst, arith, append_assoc, inl, inr}
use Rattle.std.specs.Prelude.{◌⊎◌, nat_le, ◌&&◌, map, cond}
use Rattle.std.specs.List.{filter_map, cons_option, flat_map, AllByRecursion, All}
use Rattle.std.specs.Str.{IsUtf8}
use Rattle.std.specs.declared.cmp.Ordering.TheVariants.{Less}
use Rattle.std.specs.Ordering.{nat_cmp, match_ordering, ordering_reverse}
use Rattle.std.specs.Cmp.Lexicographic.{slice_cmp, nat_list_cmp_total}
use Rattle.std.specs.List.Sorted.{IsStrictlySortedBy}
use Rattle.std.specs.Map.{keys_of}
use Rattle.std.proofs.lemmas.List.{append-nil, length-append}
use Rattle.std.proofs.lemmas.List.Elements.{recursion_from_All}
use Rattle.std.proofs.lemmas.Bool.Decides.{nat_tests}
use Rattle.kr_base.specs.Limits.{IsShort, AreFew, pairs_size, is_short, are_few}
use Rattle.kr_base.specs.Pairs.{Pairs, with_pair, IsSortedByKey}
use Rattle.kr_envelope.specs.declared.object.SourceKind.{SourceKind}
use Rattle.kr_envelope.specs.declared.object.SourceKind.TheVariants.{Key, Seed}
use Rattle.kr_envelope.specs.declared.object.ObjectNo.{ObjectNo}
use Rattle.kr_envelope.specs.declared.object.ObjectNo.TheVariants.{Wire, KeyId, Source, Annotations, SourceType, NoData, NotUtf8, NoMemory}
use Rattle.kr_envelope.specs.declared.object.EncryptedObject.{EncryptedObject}
use Rattle.kr_envelope.specs.Wire.{Spells, BeginsSpelled, IsVarint, varint, WireField, IsField}
use Rattle.kr_envelope.specs.Messages.{last_or, last_bytes, of_bytes, WireItem, encrypted, key_id, source, annotation, kind, IsItem, IsText, IsMessage, encrypted_in, key_id_in, source_in, annotation_in, kind_in, put_all, Raw, raw_of}
use Rattle.kr_envelope.specs.Limits.{ReadsMessage, breach_of, number_of, raw_in}
use Rattle.kr_envelope.specs.Canonical.{shortest, with_length, content_field, pair_field, kind_field, canonical, IsWritable, IsKept, IsReadBack}
use Rattle.kr_envelope.proofs.Spellings.{spells_rest, spells_one, spells_none}
use Rattle.kr_envelope.proofs.Items.{items_code}
use Rattle.kr_envelope.proofs.Numbers.{shortest_is}

-- a whole message is read as its object, and as nothing else

same_kind : (a b : SourceKind) → number_of a ≡ number_of b → a ≡ b
same_kind Key Key e = refl
same_kind Seed Seed e = refl
same_kind other another e = absurd (omega arith)

object : List ℕ → List ℕ → List ℕ → Pairs → SourceKind → EncryptedObject
object e k s a n = record { encrypted = e; key_id = k; source = s; annotations = a; kind = n }

pub same_object : (a b : EncryptedObject) → raw_in a ≡ raw_in b → a ≡ b
unfolding object
same_object a b e =
    ap (λ x. object x a.key_id a.source a.annotations a.kind) (ap (λ (r : Raw). r.encrypted) e) ∙ ap (λ x. object b.encrypted x a.source a.annotations a.kind) (ap (λ (r : Raw). r.key_id) e)
    ∙ ap (λ x. object b.encrypted b.key_id x a.annotations a.kind) (ap (λ (r : Raw). r.source) e) ∙ ap (λ x. object b.encrypted b.key_id b.source x a.kind) (ap (λ (r : Raw). r.annotations) e)
    ∙ ap (λ x. object b.encrypted b.key_id b.source b.annotations x) (same_kind a.kind b.kind (ap (λ (r : Raw). r.kind) e))

suffix_texts : (xs zs : List WireItem) → AllByRecursion IsText (xs ++ zs) → AllByRecursion IsText zs
suffix_texts [] zs all = all
suffix_texts (x ∷ xs) zs all = suffix_texts xs zs all.1

first_is : (rest : List ℕ) (zs : List WireItem) → Spells IsItem rest zs → AllByRecursion IsText zs → (item : WireItem) (tail : List ℕ) → BeginsSpelled IsItem rest item tail → IsText item
first_is rest [] m all item tail s = absurd (omega (arith, items_code.some s.0 item s.1, ap length s.2, length-append s.0 tail, ap length m))
first_is rest (z ∷ zs) m all item tail s =
    let one = items_code.one rest item z tail m.1 s (m.0, m.2, m.4) in
    subst IsText (sym one.0) all.0

no_breach : (text : List ℕ) (items : List WireItem) → IsMessage text items → (object : EncryptedObject) → raw_of items ≡ raw_in object → IsWritable object → (others : List WireItem) → IsMessage text others → (why : ObjectNo) → breach_of (raw_of others) ≡ Some why → ⊥
no_breach text items m object r w others n why j =
    let same : others ≡ items = spells_one IsItem items_code text others items n.0 m.0 in
    let none : breach_of (raw_of others) ≡ None = ap (λ l. breach_of (raw_of l)) same ∙ ap breach_of r ∙ w in
    cc

pub whole_is : (text : List ℕ) (items : List WireItem) → IsMessage text items → (object : EncryptedObject) → raw_of items ≡ raw_in object → IsWritable object → (answer : Result EncryptedObject ObjectNo) → ReadsMessage text answer → (answer ≡ Ok object) ⊎ (answer ≡ Err NoMemory)
whole_is text items m object r w (Ok found) (others, n, j) =
    let same : items ≡ others = spells_one IsItem items_code text items others m.0 n.0 in
    inl (ap Ok (same_object found object (sym j.1 ∙ ap raw_of (sym same) ∙ r)))
whole_is text items m object r w (Err (Wire at)) b =
    absurd (spells_none IsItem items_code text b.front b.rest b.items b.message.0 b.parts b.breach.0 b.breach.1 items m.0)
whole_is text items m object r w (Err KeyId) (others, n, j) = absurd (no_breach text items m object r w others n KeyId j)
whole_is text items m object r w (Err Source) (others, n, j) = absurd (no_breach text items m object r w others n Source j)
whole_is text items m object r w (Err Annotations) (others, n, j) = absurd (no_breach text items m object r w others n Annotations j)
whole_is text items m object r w (Err SourceType) (others, n, j) = absurd (no_breach text items m object r w others n SourceType j)
whole_is text items m object r w (Err NoData) (others, n, j) = absurd (no_breach text items m object r w others n NoData j)
whole_is text items m object r w (Err (NotUtf8 at)) b =
    let rest = spells_rest IsItem items_code b.front b.items b.message.0 b.rest items (subst (λ l. Spells IsItem l items) b.parts m.0) in
    absurd (b.breach.3 (first_is b.rest rest.0 rest.1 (suffix_texts b.items rest.0 (subst (AllByRecursion IsText) rest.2 m.1)) b.breach.0 b.breach.1 b.breach.2))
whole_is text items m object r w (Err NoMemory) j = inr refl

-- the items that are written

abbrev pair_item : List ℕ × List ℕ → WireItem
pair_item pair = annotation pair.0 pair.1

abbrev kind_items : SourceKind → List WireItem
kind_items Key = []
kind_items Seed = kind 1 ∷ []

abbrev items_of : EncryptedObject → List WireItem
items_of o = encrypted o.encrypted ∷ key_id o.key_id ∷ source o.source ∷ (map pair_item o.annotations ++ kind_items o.kind)

spells_append : {T : Type 0} (Spelling : List ℕ → T → Type 0) (front : List ℕ) (xs : List T) (rest : List ℕ) (ys : List T) → Spells Spelling front xs → Spells Spelling rest ys → Spells Spelling (front ++ rest) (xs ++ ys)
spells_append Spelling front [] rest ys m n = subst (λ l. Spells Spelling (l ++ rest) ys) (sym m) n
spells_append Spelling front (x ∷ xs) rest ys m n = (m.0, m.1 ++ rest, m.2, spells_append Spelling m.1 xs rest ys m.3 n, ap (λ l. l ++ rest) m.4 ∙ append_assoc m.0 m.1 rest)

one_byte : (n : ℕ) → n < 128 → IsVarint (n ∷ []) n
one_byte n h = record { groups = h; short = omega arith; value = omega arith; fits = omega arith }

content_is : (n : ℕ) (content : List ℕ) → 1 ≤ n → n < 15 → 1 ≤ length content → length content < 2 ^ 64 → IsField (content_field n content) (of_bytes n content)
content_is n [] l h s f = absurd (omega arith)
content_is n (byte ∷ tail) l h s f = record {
  key = (n * 8 + 2) ∷ [];
  content = with_length (byte ∷ tail);
  parts = refl;
  key_is = one_byte (n * 8 + 2) (omega arith);
  content_is = (shortest (length (byte ∷ tail)), shortest_is (length (byte ∷ tail)) f, refl);
  numbered = (l, omega arith);
}

-- a key and a value, each where it isn't empty
some_field : ℕ → List ℕ → List WireField
some_field n [] = []
some_field n (byte ∷ tail) = of_bytes n (byte ∷ tail) ∷ []

some_spelled : (n : ℕ) (content : List ℕ) → 1 ≤ n → n < 15 → length content < 2 ^ 64 → Spells IsField (content_field n content) (some_field n content)
unfolding some_field
some_spelled n [] l h f = refl
some_spelled n (byte ∷ tail) l h f = (content_field n (byte ∷ tail), [], content_is n (byte ∷ tail) l h (omega arith) f, refl, sym (append-nil (content_field n (byte ∷ tail))))

last_key : (key value : List ℕ) → key ≡ last_bytes 1 (some_field 1 key ++ some_field 2 value)
unfolding some_field
last_key [] [] = refl
last_key (byte ∷ key) [] = refl
last_key other another = refl

last_value : (key value : List ℕ) → value ≡ last_bytes 2 (some_field 1 key ++ some_field 2 value)
unfolding some_field
last_value [] [] = refl
last_value (byte ∷ key) [] = refl
last_value other another = refl

pub content_length : (n : ℕ) (content : List ℕ) → length content < 2 ^ 64 → length (content_field n content) ≤ 11 + length content
content_length n [] h = omega arith
content_length n (byte ∷ tail) h =
    let size = shortest_is (length (byte ∷ tail)) h in
    omega (arith, length-append (shortest (length (byte ∷ tail))) (byte ∷ tail), size.short)

pair_is : (pair : List ℕ × List ℕ) → length pair.0 + length pair.1 ≤ 32768 → IsItem (pair_field pair) (pair_item pair)
pair_is pair h =
    let text : List ℕ = content_field 1 pair.0 ++ content_field 2 pair.1 in
    let long : length text < 2 ^ 64 = omega (arith, length-append (content_field 1 pair.0) (content_field 2 pair.1), content_length 1 pair.0 (omega arith), content_length 2 pair.1 (omega arith)) in (
      of_bytes 4 text,
      record { key = 34 ∷ []; content = with_length text; parts = refl; key_is = one_byte 34 (omega arith); content_is = (shortest (length text), shortest_is (length text) long, refl); numbered = (omega arith, omega arith) },
      (
        text,
        refl,
        (
          some_field 1 pair.0 ++ some_field 2 pair.1,
          spells_append IsField (content_field 1 pair.0) (some_field 1 pair.0) (content_field 2 pair.1) (some_field 2 pair.1)
              (some_spelled 1 pair.0 (omega arith) (omega arith) (omega arith)) (some_spelled 2 pair.1 (omega arith) (omega arith) (omega arith)),
          last_key pair.0 pair.1,
          last_value pair.0 pair.1,
        ),
      ),
    )

pairs_spelled : (pairs : Pairs) → pairs_size pairs ≤ 32768 → Spells IsItem (flat_map pair_field pairs) (map pair_item pairs)
pairs_spelled [] h = refl
pairs_spelled (pair ∷ pairs) h = (pair_field pair, flat_map pair_field pairs, pair_is pair (omega arith), pairs_spelled pairs (omega arith), refl)

kind_spelled : (n : SourceKind) → Spells IsItem (kind_field n) (kind_items n)
kind_spelled Key = refl
kind_spelled Seed = (
  40 ∷ 1 ∷ [],
  [],
  (
    record { number = 5; payload = varint 1 },
    record { key = 40 ∷ []; content = 1 ∷ []; parts = refl; key_is = one_byte 40 (omega arith); content_is = one_byte 1 (omega arith); numbered = (omega arith, omega arith) },
    (1, refl, refl),
  ),
  refl,
  refl,
)

-- the object that these items make

quiet : {T : Type 0} (f : WireItem → Option T) → ((key value : List ℕ) → f (annotation key value) ≡ None) → f (kind 1) ≡ None → (pairs : Pairs) (n : SourceKind) → filter_map f (map pair_item pairs ++ kind_items n) ≡ []
quiet f a k [] Key = refl
quiet f a k [] Seed = ap (λ o. cons_option o []) k
quiet f a k (pair ∷ pairs) n = ap (λ o. cons_option o (filter_map f (map pair_item pairs ++ kind_items n))) (a pair.0 pair.1) ∙ quiet f a k pairs n

pairs_in : (pairs : Pairs) (n : SourceKind) → filter_map annotation_in (map pair_item pairs ++ kind_items n) ≡ pairs
pairs_in [] Key = refl
pairs_in [] Seed = refl
pairs_in (pair ∷ pairs) n = ap (λ l. pair ∷ l) (pairs_in pairs n)

kinds_in : (pairs : Pairs) (n : SourceKind) → last_or 0 (filter_map kind_in (map pair_item pairs ++ kind_items n)) ≡ number_of n
kinds_in [] Key = refl
kinds_in [] Seed = refl
kinds_in (pair ∷ pairs) n = kinds_in pairs n

abbrev Below : List ℕ → List ℕ → Type 0
Below a b = slice_cmp nat_cmp a b ≡ Less

put_last : (pairs : Pairs) (key value : List ℕ) → AllByRecursion (λ k. Below k key) (keys_of pairs) → with_pair pairs key value ≡ pairs ++ (key, value) ∷ []
put_last [] key value all = refl
put_last (e ∷ es) key value all =
    ap (λ o. match_ordering o ((key, value) ∷ e ∷ es) ((e.0, value) ∷ es) (e ∷ with_pair es key value)) (nat_list_cmp_total.antisymm key e.0 ∙ ap ordering_reverse all.0)
    ∙ ap (λ l. e ∷ l) (put_last es key value all.1)

keys_push : (pairs : Pairs) (key value : List ℕ) (P : List ℕ → Type 0) → AllByRecursion P (keys_of pairs) → P key → AllByRecursion P (keys_of (pairs ++ (key, value) ∷ []))
keys_push [] key value P all p = (p, tt)
keys_push (e ∷ es) key value P all p = (all.0, keys_push es key value P all.1 p)

-- each of these keys is below each of those
abbrev Under : Pairs → Pairs → Type 0
Under pairs more = AllByRecursion (λ k. AllByRecursion (λ l. Below k l) (keys_of more)) (keys_of pairs)

heads : (keys : List (List ℕ)) (key : List ℕ) (rest : List (List ℕ)) → AllByRecursion (λ k. AllByRecursion (λ l. Below k l) (key ∷ rest)) keys → AllByRecursion (λ k. Below k key) keys
heads [] key rest all = tt
heads (k ∷ keys) key rest all = (all.0.0, heads keys key rest all.1)

tails : (keys : List (List ℕ)) (key : List ℕ) (rest : List (List ℕ)) → AllByRecursion (λ k. AllByRecursion (λ l. Below k l) (key ∷ rest)) keys → AllByRecursion (λ k. AllByRecursion (λ l. Below k l) rest) keys
tails [] key rest all = tt
tails (k ∷ keys) key rest all = (all.0.1, tails keys key rest all.1)

put_sorted : (pairs more : Pairs) → IsSortedByKey more → Under pairs more → put_all pairs more ≡ pairs ++ more
unfolding IsStrictlySortedBy
put_sorted pairs [] s u = sym (append-nil pairs)
put_sorted pairs (pair ∷ more) s u =
    ap (λ l. put_all l more) (put_last pairs pair.0 pair.1 (heads (keys_of pairs) pair.0 (keys_of more) u))
    ∙ put_sorted (pairs ++ pair ∷ []) more s.1 (keys_push pairs pair.0 pair.1 (λ k. AllByRecursion (λ l. Below k l) (keys_of more)) (tails (keys_of pairs) pair.0 (keys_of more) u) s.0)
    ∙ append_assoc pairs (pair ∷ []) more

raw : List ℕ → List ℕ → List ℕ → Pairs → ℕ → Raw
raw e k s a n = record { encrypted = e; key_id = k; source = s; annotations = a; kind = n }

raw_is : (o : EncryptedObject) → IsSortedByKey o.annotations → raw_of (items_of o) ≡ raw_in o
unfolding raw
raw_is o s =
    let rest : List WireItem = map pair_item o.annotations ++ kind_items o.kind in
    ap (λ x. raw (last_or o.encrypted x) (last_or o.key_id (filter_map key_id_in rest)) (last_or o.source (filter_map source_in rest)) (put_all [] (filter_map annotation_in rest)) (last_or 0 (filter_map kind_in rest))) (quiet encrypted_in (λ k v. refl) refl o.annotations o.kind)
    ∙ ap (λ x. raw o.encrypted (last_or o.key_id x) (last_or o.source (filter_map source_in rest)) (put_all [] (filter_map annotation_in rest)) (last_or 0 (filter_map kind_in rest))) (quiet key_id_in (λ k v. refl) refl o.annotations o.kind)
    ∙ ap (λ x. raw o.encrypted o.key_id (last_or o.source x) (put_all [] (filter_map annotation_in rest)) (last_or 0 (filter_map kind_in rest))) (quiet source_in (λ k v. refl) refl o.annotations o.kind)
    ∙ ap (λ x. raw o.encrypted o.key_id o.source x (last_or 0 (filter_map kind_in rest))) (ap (put_all []) (pairs_in o.annotations o.kind) ∙ put_sorted [] o.annotations s tt)
    ∙ ap (λ x. raw o.encrypted o.key_id o.source o.annotations x) (kinds_in o.annotations o.kind)

-- what the limits say

guarded : (b : Bool) (x : Option ObjectNo) (why : ObjectNo) → cond b x (Some why) ≡ None → (b ≡ true) × (x ≡ None)
guarded true x why e = (refl, e)
guarded false x why e = cc

both : (a b : Bool) → (a && b) ≡ true → (a ≡ true) × (b ≡ true)
both true true e = (refl, refl)
both true false e = cc
both false b e = cc

at_most : (a b : ℕ) → nat_le a b ≡ true → a ≤ b
at_most a b e = grind (arith, nat_tests)

pub limits : (o : EncryptedObject) → IsWritable o → (1 ≤ length o.encrypted) × IsShort o.key_id × IsShort o.source × AreFew o.annotations
limits o w =
    let data_ok = guarded _ _ NoData w in
    let key_ok = guarded _ _ KeyId data_ok.1 in
    let source_ok = guarded _ _ Source key_ok.1 in
    let few_ok = guarded _ _ Annotations source_ok.1 in
    let key_limits = both _ _ key_ok.0 in
    let source_limits = both _ _ source_ok.0 in
    (at_most _ _ data_ok.0, (at_most _ _ key_limits.0, at_most _ _ key_limits.1), (at_most _ _ source_limits.0, at_most _ _ source_limits.1), (at_most _ _ (both _ _ few_ok.0).0, at_most _ _ (both _ _ few_ok.0).1))

pair_texts : (pairs : Pairs) (n : SourceKind) → AllByRecursion (λ pair. IsUtf8 pair.0) pairs → AllByRecursion IsText (map pair_item pairs ++ kind_items n)
pair_texts [] Key all = tt
pair_texts [] Seed all = (tt, tt)
pair_texts (pair ∷ pairs) n all = (all.0, pair_texts pairs n all.1)

-- the canonical form is a message of these items
message_is : (o : EncryptedObject) → IsWritable o → length o.encrypted < 2 ^ 64 → IsUtf8 o.key_id → All (λ pair. IsUtf8 pair.0) o.annotations → IsMessage (canonical o) (items_of o)
message_is o w f u all =
    let l = limits o w in
    let pairs : List ℕ = flat_map pair_field o.annotations ++ kind_field o.kind in (
      (
        content_field 1 o.encrypted,
        content_field 2 o.key_id ++ (content_field 3 o.source ++ pairs),
        (of_bytes 1 o.encrypted, content_is 1 o.encrypted (omega arith) (omega arith) l.0 f, refl),
        (
          content_field 2 o.key_id,
          content_field 3 o.source ++ pairs,
          (of_bytes 2 o.key_id, content_is 2 o.key_id (omega arith) (omega arith) l.1.0 (omega (arith, l.1.1)), refl),
          (
            content_field 3 o.source,
            pairs,
            (of_bytes 3 o.source, content_is 3 o.source (omega arith) (omega arith) l.2.0 (omega (arith, l.2.1)), refl),
            spells_append IsItem (flat_map pair_field o.annotations) (map pair_item o.annotations) (kind_field o.kind) (kind_items o.kind) (pairs_spelled o.annotations l.3.1) (kind_spelled o.kind),
            refl,
          ),
          refl,
        ),
        refl,
      ),
      (tt, (u, (tt, pair_texts o.annotations o.kind (recursion_from_All (λ pair. IsUtf8 pair.0) o.annotations all)))),
    )

-- and so it is read back
pub read_back : (text : List ℕ) (o : EncryptedObject) → text ≡ canonical o → IsWritable o → IsKept o → IsReadBack text o
read_back text o e w k =
    let message : IsMessage text (items_of o) = subst (λ l. IsMessage l (items_of o)) (sym e) (message_is o w k.fits k.key_id k.keys) in
    let raw : raw_of (items_of o) ≡ raw_in o = raw_is o k.sorted in
    ((items_of o, message, (ap breach_of raw ∙ w, raw)), whole_is text (items_of o) message o raw w)

kept_limit : (content : List ℕ) → 1 ≤ length content → length content ≤ 1024 → is_short content ≡ true
kept_limit content l h = grind (arith, nat_tests)

kept_few : (pairs : Pairs) → length pairs ≤ 256 → pairs_size pairs ≤ 32768 → are_few pairs ≡ true
kept_few pairs l h = grind (arith, nat_tests)

kept_data : (content : List ℕ) → 1 ≤ length content → nat_le 1 (length content) ≡ true
kept_data content l = grind (arith, nat_tests)

kept_kind : (n : SourceKind) → cond (nat_le (number_of n) 1) None (Some SourceType) ≡ None
kept_kind Key = refl
kept_kind Seed = refl

-- what a caller knows of the parts of an object that it writes
pub within_limits : (o : EncryptedObject) → 1 ≤ length o.encrypted → IsShort o.key_id → IsShort o.source → AreFew o.annotations → IsWritable o
within_limits o d k s a =
    pass NoData (kept_data o.encrypted d) (pass KeyId (kept_limit o.key_id k.0 k.1) (pass Source (kept_limit o.source s.0 s.1) (pass Annotations (kept_few o.annotations a.0 a.1) (kept_kind o.kind))))
  where
    pass : {b : Bool} {x : Option ObjectNo} (why : ObjectNo) → b ≡ true → x ≡ None → cond b x (Some why) ≡ None
    pass {b} {x} why t e = ap (λ c. cond c x (Some why)) t ∙ e
