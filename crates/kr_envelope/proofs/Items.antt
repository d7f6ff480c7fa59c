-- What a field says is one thing, and a text spells at most one list of items.
use Rattle.std.proofs.Common.{◌≡◌, ◌≢◌, ℕ, ◌%◌, ◌^◌, List, [], ◌∷◌, length, Bool, true, false, Some, refl, sym, ◌∙◌, ap, subst, arith}
use Rattle.std.specs.Prelude.{◌==◌, Err}
use Rattle.std.proofs.lemmas.Bool.Decides.{nat_tests}
use Rattle.kr_envelope.specs.inner.Reading.{Says, TakesItem}
use Rattle.kr_envelope.specs.declared.item.ItemNo.{ItemNo}
use Rattle.kr_envelope.specs.declared.item.ItemNo.TheVariants as no
use Rattle.kr_envelope.specs.Wire.{Spells, BeginsSpelled, Payload, varint, fixed64, bytes, fixed32, WireField, IsField}
use Rattle.kr_envelope.specs.Messages.{of_bytes, content_of, last_bytes, WireItem, encrypted, key_id, source, annotation, kind, other, is_own, MeansItem, IsItem}
use Rattle.kr_envelope.proofs.Fields.{one_field, some_field}
use Rattle.kr_envelope.proofs.Spellings.{IsCode, fields_code, spells_one}

-- each item by the number of its field
tag : WireItem → ℕ
tag (encrypted content) = 1
tag (key_id content) = 2
tag (source content) = 3
tag (annotation key value) = 4
tag (kind n) = 5
tag other = 0

own_number : Bool → ℕ → ℕ
own_number true n = n
own_number false n = 0

tagged : (field : WireField) (item : WireItem) → MeansItem field item → tag item ≡ own_number (is_own field) field.number
unfolding tag own_number
tagged field (annotation key value) m = sym (ap (λ (f : WireField). own_number (is_own f) f.number) m.1)
tagged field (kind n) m = sym (ap (λ (f : WireField). own_number (is_own f) f.number) m.1)
tagged field other m = sym (ap (λ b. own_number b field.number) m)
tagged field content m = sym (ap (λ (f : WireField). own_number (is_own f) f.number) m)

some_one : {T : Type 0} (x y : T) → Some x ≡ Some y → x ≡ y
some_one x y e = cc

pub one_content : (field : WireField) (n m : ℕ) (a b : List ℕ) → field ≡ of_bytes n a → field ≡ of_bytes m b → a ≡ b
one_content field n m a b e f = some_one a b (sym (ap (λ (g : WireField). content_of g.payload) e) ∙ ap (λ (g : WireField). content_of g.payload) f)

varint_in : Payload → ℕ
varint_in (varint n) = n
varint_in payload = 0

one_number : (field : WireField) (n m : ℕ) → field ≡ record { number = 5; payload = varint n } → field ≡ record { number = 5; payload = varint m } → n ≡ m
unfolding varint_in
one_number field n m e f = sym (ap (λ (g : WireField). varint_in g.payload) e) ∙ ap (λ (g : WireField). varint_in g.payload) f

same_tag : (field : WireField) (a b : WireItem) → MeansItem field a → MeansItem field b → tag a ≡ tag b → a ≡ b
unfolding tag
same_tag field (encrypted a) (encrypted b) m n t = ap encrypted (one_content field 1 1 a b m n)
same_tag field (key_id a) (key_id b) m n t = ap key_id (one_content field 2 2 a b m n)
same_tag field (source a) (source b) m n t = ap source (one_content field 3 3 a b m n)
same_tag field (annotation k v) (annotation l w) m n t =
    let text : m.0 ≡ n.0 = one_content field 4 4 m.0 n.0 m.1 n.1 in
    let fields : m.2.0 ≡ n.2.0 = spells_one IsField fields_code n.0 m.2.0 n.2.0 (subst (λ x. Spells IsField x m.2.0) text m.2.1) n.2.1 in
    ap (λ x. annotation x v) (m.2.2 ∙ ap (last_bytes 1) fields ∙ sym n.2.2) ∙ ap (annotation l) (m.2.3 ∙ ap (last_bytes 2) fields ∙ sym n.2.3)
same_tag field (kind a) (kind b) m n t = ap kind (m.2 ∙ ap (λ x. x % 2 ^ 32) (one_number field m.0 n.0 m.1 n.1) ∙ sym n.2)
same_tag field other other m n t = refl
same_tag field a b m n t = absurd (omega arith)

pub one_meaning : (field : WireField) (a b : WireItem) → MeansItem field a → MeansItem field b → a ≡ b
one_meaning field a b m n = same_tag field a b m n (tagged field a m ∙ sym (tagged field b n))

-- an item begins with its field
pub field_there : (text : List ℕ) (item : WireItem) (rest : List ℕ) → (s : BeginsSpelled IsItem text item rest) → BeginsSpelled IsField text s.1.0 rest
field_there text item rest s = (s.0, s.1.1, s.2)

one_item : (text : List ℕ) (a b : WireItem) (rest tail : List ℕ) → BeginsSpelled IsItem text a rest → BeginsSpelled IsItem text b tail → (a ≡ b) × (rest ≡ tail)
one_item text a b rest tail s t =
    let one = one_field text s.1.0 t.1.0 rest tail (field_there text a rest s) (field_there text b tail t) in
    (one_meaning t.1.0 a b (subst (λ f. MeansItem f a) one.0 s.1.2) t.1.2, one.1)

pub items_code : IsCode IsItem
items_code = record { one = one_item; some = λ front item s. some_field front s.0 s.1 }

-- what there is by the field that is there

pub no_field : (text : List ℕ) → ((field : WireField) (rest : List ℕ) → BeginsSpelled IsField text field rest → ⊥) → (item : WireItem) (tail : List ℕ) → BeginsSpelled IsItem text item tail → ⊥
no_field text h item tail s = h s.1.0 tail (field_there text item tail s)

pub no_meaning : (text : List ℕ) (field : WireField) (rest : List ℕ) → BeginsSpelled IsField text field rest → ((item : WireItem) → MeansItem field item → ⊥) → (item : WireItem) (tail : List ℕ) → BeginsSpelled IsItem text item tail → ⊥
no_meaning text field rest f h item tail s =
    let one = one_field text field s.1.0 rest tail f (field_there text item tail s) in
    h item (subst (λ g. MeansItem g item) (sym one.0) s.1.2)

pub with_meaning : (text : List ℕ) (field : WireField) (rest : List ℕ) (item : WireItem) → BeginsSpelled IsField text field rest → MeansItem field item → BeginsSpelled IsItem text item rest
with_meaning text field rest item f m = (f.0, (field, f.1, m), f.2)

pub refused : (text : List ℕ) (field : WireField) (rest : List ℕ) → BeginsSpelled IsField text field rest → (why : ItemNo) → Says field (Err why) → TakesItem text (Err why)
refused text field rest f no.Wire h = no_meaning text field rest f h
refused text field rest f no.NotUtf8 h = (h.0, rest, with_meaning text field rest h.0 f h.1, h.2)

-- the test of a loop that goes on while there are bytes
pub is_nothing : (xs : List ℕ) → true ≡ (length xs == 0) → xs ≡ []
is_nothing [] e = refl
is_nothing (x ∷ xs) e = absurd (grind (arith, nat_tests))

pub is_something : (xs : List ℕ) → false ≡ (length xs == 0) → xs ≢ []
is_something [] e n = cc
is_something (x ∷ xs) e n = cc
