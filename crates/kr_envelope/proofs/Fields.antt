-- The payload and the field that bytes begin with: there is at most one of each.
use Rattle.std.proofs.Common.{◌≡◌, ℕ, ◌+◌, ◌*◌, ◌%◌, ◌/◌, ◌<◌, ◌≤◌, List, [], ◌∷◌, ◌++◌, length, take, drop, refl, sym, ◌∙◌, ap, subst, arith, append_assoc}
use Rattle.std.proofs.lemmas.List.{length-append, length-take, take-append-drop}
use Rattle.kr_envelope.specs.Wire.{BeginsSpelled, IsVarint, Payload, varint, fixed64, bytes, fixed32, wire_type, IsPayload, WireField, IsField}
use Rattle.kr_envelope.proofs.Varints.{one_varint, some_groups}

-- two fronts of one length
pub same_front : (a b rest tail : List ℕ) → length a ≡ length b → a ++ rest ≡ b ++ tail → (a ≡ b) × (rest ≡ tail)
same_front [] [] rest tail l e = (refl, e)
same_front (x ∷ a) (y ∷ b) rest tail l e =
    let tails : a ++ rest ≡ b ++ tail = cc in
    let more = same_front a b rest tail (omega arith) tails in
    (cc, more.1)
same_front other another rest tail l e = absurd (omega arith)

-- behind the size of bytes stand these and the rest
sized : (text content rest : List ℕ) → (s : BeginsSpelled IsPayload text (bytes content) rest) → BeginsSpelled IsVarint text (length content) (content ++ rest)
sized text content rest s = (s.1.0, s.1.1, s.2 ∙ ap (λ l. l ++ rest) s.1.2 ∙ append_assoc s.1.0 content rest)

pub no_varint : (text : List ℕ) (kind : ℕ) → 0 ≡ kind → ((n : ℕ) (rest : List ℕ) → BeginsSpelled IsVarint text n rest → ⊥)
    → (payload : Payload) (rest : List ℕ) → wire_type payload ≡ kind → BeginsSpelled IsPayload text payload rest → ⊥
no_varint text kind k h (varint n) rest w s = h n rest s
no_varint text kind k h other rest w s = absurd (omega arith)

pub no_size : (text : List ℕ) (kind : ℕ) → 2 ≡ kind → ((n : ℕ) (rest : List ℕ) → BeginsSpelled IsVarint text n rest → ⊥)
    → (payload : Payload) (rest : List ℕ) → wire_type payload ≡ kind → BeginsSpelled IsPayload text payload rest → ⊥
no_size text kind k h (bytes content) rest w s = h (length content) (content ++ rest) (sized text content rest s)
no_size text kind k h other rest w s = absurd (omega arith)

pub too_long : (text : List ℕ) (kind n : ℕ) (behind : List ℕ) → 2 ≡ kind → BeginsSpelled IsVarint text n behind → length behind < n
    → (payload : Payload) (rest : List ℕ) → wire_type payload ≡ kind → BeginsSpelled IsPayload text payload rest → ⊥
too_long text kind n behind k v h (bytes content) rest w s =
    let one = one_varint text n (length content) behind (content ++ rest) v (sized text content rest s) in
    let size : length behind ≡ length content + length rest = ap length one.1 ∙ length-append content rest in
    absurd (omega (arith, one.0, size))
too_long text kind n behind k v h other rest w s = absurd (omega arith)

pub with_bytes : (text : List ℕ) (n : ℕ) (behind content rest : List ℕ) → BeginsSpelled IsVarint text n behind → n ≤ length behind → content ≡ take n behind → rest ≡ drop n behind → BeginsSpelled IsPayload text (bytes content) rest
with_bytes text n behind content rest v h c r =
    let size : n ≡ length content = omega (arith, ap length c, length-take n behind) in (
      v.0 ++ content,
      (v.0, subst (IsVarint v.0) size v.1, refl),
      v.2 ∙ ap (λ l. v.0 ++ l) (sym (take-append-drop n behind) ∙ ap (λ l. l ++ drop n behind) (sym c) ∙ ap (λ l. content ++ l) (sym r)) ∙ sym (append_assoc v.0 content rest),
    )

small_type : (payload : Payload) → wire_type payload < 8
small_type (varint n) = omega arith
small_type other = omega arith

-- a field begins with its key
keyed : (text : List ℕ) (field : WireField) (rest : List ℕ) → (s : BeginsSpelled IsField text field rest) → BeginsSpelled IsVarint text (field.number * 8 + wire_type field.payload) (s.1.content ++ rest)
keyed text field rest s = (s.1.key, s.1.key_is, s.2 ∙ ap (λ l. l ++ rest) s.1.parts ∙ append_assoc s.1.key s.1.content rest)

pub no_key : (text : List ℕ) → ((n : ℕ) (rest : List ℕ) → BeginsSpelled IsVarint text n rest → ⊥) → (field : WireField) (rest : List ℕ) → BeginsSpelled IsField text field rest → ⊥
no_key text h field rest s = h (field.number * 8 + wire_type field.payload) (s.1.content ++ rest) (keyed text field rest s)

-- the key and what stands behind it, of any field there
same_key : (text : List ℕ) (key : ℕ) (behind : List ℕ) → BeginsSpelled IsVarint text key behind → (field : WireField) (rest : List ℕ) → (s : BeginsSpelled IsField text field rest)
    → (key / 8 ≡ field.number) × (wire_type field.payload ≡ key % 8) × (behind ≡ s.1.content ++ rest)
same_key text key behind v field rest s =
    let one = one_varint text key (field.number * 8 + wire_type field.payload) behind (s.1.content ++ rest) v (keyed text field rest s) in
    (omega (arith, one.0, small_type field.payload), omega (arith, one.0, small_type field.payload), one.1)

pub bad_number : (text : List ℕ) (key : ℕ) (behind : List ℕ) → BeginsSpelled IsVarint text key behind → ((1 ≤ key / 8) × (key / 8 ≤ 536870911) → ⊥) → (field : WireField) (rest : List ℕ) → BeginsSpelled IsField text field rest → ⊥
bad_number text key behind v h field rest s =
    let same = same_key text key behind v field rest s in
    h (omega (arith, same.0, s.1.numbered.0), omega (arith, same.0, s.1.numbered.1))

pub no_payload : (text : List ℕ) (key : ℕ) (behind : List ℕ) → BeginsSpelled IsVarint text key behind → ((payload : Payload) (rest : List ℕ) → wire_type payload ≡ key % 8 → BeginsSpelled IsPayload behind payload rest → ⊥)
    → (field : WireField) (rest : List ℕ) → BeginsSpelled IsField text field rest → ⊥
no_payload text key behind v h field rest s =
    let same = same_key text key behind v field rest s in
    h field.payload rest same.1 (s.1.content, s.1.content_is, same.2)

pub with_payload : (text : List ℕ) (key : ℕ) (behind : List ℕ) (number : ℕ) (payload : Payload) (rest : List ℕ) → BeginsSpelled IsVarint text key behind → number ≡ key / 8 → (1 ≤ number) × (number ≤ 536870911) → wire_type payload ≡ key % 8 → BeginsSpelled IsPayload behind payload rest
    → BeginsSpelled IsField text (record { number = number; payload = payload }) rest
with_payload text key behind number payload rest v n h w p =
    let key_is : key ≡ number * 8 + wire_type payload = omega (arith, n, w) in (
      v.0 ++ p.0,
      record { key = v.0; content = p.0; parts = refl; key_is = subst (IsVarint v.0) key_is v.1; content_is = p.1; numbered = h },
      v.2 ∙ ap (λ l. v.0 ++ l) p.2 ∙ sym (append_assoc v.0 p.0 rest),
    )

-- of one wire type, there is one payload at the front
one_fixed : (text a b rest tail : List ℕ) (n : ℕ) → length a ≡ n → length b ≡ n → text ≡ a ++ rest → text ≡ b ++ tail → (a ≡ b) × (rest ≡ tail)
one_fixed text a b rest tail n l m e f = same_front a b rest tail (l ∙ sym m) (sym e ∙ f)

pub one_payload : (text : List ℕ) (p q : Payload) (rest tail : List ℕ) → wire_type p ≡ wire_type q → BeginsSpelled IsPayload text p rest → BeginsSpelled IsPayload text q tail → (p ≡ q) × (rest ≡ tail)
one_payload text (varint n) (varint m) rest tail w s t = let one = one_varint text n m rest tail s t in (ap varint one.0, one.1)
one_payload text (fixed64 a) (fixed64 b) rest tail w s t =
    let one = one_fixed text a b rest tail 8 s.1.1 t.1.1 (s.2 ∙ ap (λ l. l ++ rest) s.1.0) (t.2 ∙ ap (λ l. l ++ tail) t.1.0) in (ap fixed64 one.0, one.1)
one_payload text (bytes a) (bytes b) rest tail w s t =
    let size = one_varint text (length a) (length b) (a ++ rest) (b ++ tail) (sized text a rest s) (sized text b tail t) in
    let one = same_front a b rest tail size.0 size.1 in (ap bytes one.0, one.1)
one_payload text (fixed32 a) (fixed32 b) rest tail w s t =
    let one = one_fixed text a b rest tail 4 s.1.1 t.1.1 (s.2 ∙ ap (λ l. l ++ rest) s.1.0) (t.2 ∙ ap (λ l. l ++ tail) t.1.0) in (ap fixed32 one.0, one.1)
one_payload text other another rest tail w s t = absurd (omega arith)

pub one_field : (text : List ℕ) (f g : WireField) (rest tail : List ℕ) → BeginsSpelled IsField text f rest → BeginsSpelled IsField text g tail → (f ≡ g) × (rest ≡ tail)
one_field text f g rest tail s t =
    let same = same_key text (f.number * 8 + wire_type f.payload) (s.1.content ++ rest) (keyed text f rest s) g tail t in
    let numbers : f.number ≡ g.number = omega (arith, same.0, small_type f.payload) in
    let kinds : wire_type f.payload ≡ wire_type g.payload = omega (arith, same.1, small_type f.payload) in
    let one = one_payload (s.1.content ++ rest) f.payload g.payload rest tail kinds (s.1.content, s.1.content_is, refl) (t.1.content, t.1.content_is, same.2) in
    (let parts : f.number ≡ g.number = numbers in let payloads : f.payload ≡ g.payload = one.0 in ap (λ (p : ℕ × Payload). let field : WireField = record { number = p.0; payload = p.1 } in field) (pair_is f.number g.number f.payload g.payload numbers one.0), one.1)
  where
    pair_is : (a b : ℕ) (p q : Payload) → a ≡ b → p ≡ q → let x : ℕ × Payload = (a, p) in let y : ℕ × Payload = (b, q) in x ≡ y
    pair_is a b p q e h = cc

-- a field takes at least one byte
pub some_field : (spelling : List ℕ) (field : WireField) → IsField spelling field → 1 ≤ length spelling
some_field spelling field s = omega (arith, ap length s.parts, length-append s.key s.content, some_groups s.key s.key_is.groups)
