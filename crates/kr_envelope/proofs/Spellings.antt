-- Spellings of which bytes begin with at most one: a text spells at most one list.
use Rattle.std.proofs.Common.{◌≡◌, ◌≢◌, ℕ, ◌<◌, ◌≤◌, List, [], ◌∷◌, ◌++◌, length, refl, sym, ◌∙◌, ap, subst, arith, append_assoc}
use Rattle.std.proofs.lemmas.List.{append-nil, length-append}
use Rattle.std.specs.List.{AllByRecursion}
use Rattle.kr_envelope.specs.Wire.{Spells, BeginsSpelled, IsField}
use Rattle.kr_envelope.proofs.Fields.{one_field, some_field}

pub record IsCode {T : Type 0} (Spelling : List ℕ → T → Type 0) : Type 0 where
  pub one : (text : List ℕ) (x y : T) (rest tail : List ℕ) → BeginsSpelled Spelling text x rest → BeginsSpelled Spelling text y tail → (x ≡ y) × (rest ≡ tail)
  pub some : (front : List ℕ) (x : T) → Spelling front x → 1 ≤ length front

pub fields_code : IsCode IsField
fields_code = record { one = one_field; some = some_field }

-- one more
pub spells_more : {T : Type 0} (Spelling : List ℕ → T → Type 0) (front : List ℕ) (xs : List T) (rest : List ℕ) (x : T) (tail : List ℕ) → Spells Spelling front xs → (s : BeginsSpelled Spelling rest x tail)
    → Spells Spelling (front ++ s.0) (xs ++ x ∷ [])
spells_more Spelling front [] rest x tail m s = (s.0, [], s.1, refl, ap (λ l. l ++ s.0) m ∙ sym (append-nil s.0))
spells_more Spelling front (y ∷ ys) rest x tail m s = (m.0, m.1 ++ s.0, m.2, spells_more Spelling m.1 ys rest x tail m.3 s, ap (λ l. l ++ s.0) m.4 ∙ append_assoc m.0 m.1 s.0)

-- what spells a front and goes on, goes on with a spelling of the rest
pub spells_rest : {T : Type 0} (Spelling : List ℕ → T → Type 0) → IsCode Spelling → (front : List ℕ) (xs : List T) → Spells Spelling front xs → (rest : List ℕ) (ys : List T) → Spells Spelling (front ++ rest) ys
    → (zs : List T) × Spells Spelling rest zs × (ys ≡ xs ++ zs)
spells_rest Spelling code front [] m rest ys n = (ys, subst (λ l. Spells Spelling l ys) (ap (λ l. l ++ rest) m) n, refl)
spells_rest Spelling code front (x ∷ xs) m rest [] n =
    absurd (omega (arith, code.some m.0 x m.2, ap length m.4, length-append m.0 m.1, ap length n, length-append front rest))
spells_rest Spelling code front (x ∷ xs) m rest (y ∷ ys) n =
    let one = code.one (front ++ rest) x y (m.1 ++ rest) n.1 (m.0, m.2, ap (λ l. l ++ rest) m.4 ∙ append_assoc m.0 m.1 rest) (n.0, n.2, n.4) in
    let more = spells_rest Spelling code m.1 xs m.3 rest ys (subst (λ l. Spells Spelling l ys) (sym one.1) n.3) in
    (more.0, more.1, ap (λ l. y ∷ l) more.2 ∙ ap (λ z. z ∷ (xs ++ more.0)) (sym one.0))

spells_nothing : {T : Type 0} (Spelling : List ℕ → T → Type 0) → IsCode Spelling → (xs : List T) → Spells Spelling [] xs → xs ≡ []
spells_nothing Spelling code [] m = refl
spells_nothing Spelling code (x ∷ xs) m = absurd (omega (arith, code.some m.0 x m.2, ap length m.4, length-append m.0 m.1))

-- one list at most
pub spells_one : {T : Type 0} (Spelling : List ℕ → T → Type 0) → IsCode Spelling → (text : List ℕ) (xs ys : List T) → Spells Spelling text xs → Spells Spelling text ys → xs ≡ ys
spells_one Spelling code text xs ys m n =
    let rest = spells_rest Spelling code text xs m [] ys (subst (λ l. Spells Spelling l ys) (sym (append-nil text)) n) in
    sym (rest.2 ∙ ap (λ l. xs ++ l) (spells_nothing Spelling code rest.0 rest.1) ∙ append-nil xs)

first : {T : Type 0} (Spelling : List ℕ → T → Type 0) (rest : List ℕ) (zs : List T) → Spells Spelling rest zs → rest ≢ [] → (x : T) × ((tail : List ℕ) × BeginsSpelled Spelling rest x tail)
first Spelling rest [] m n = absurd (n m)
first Spelling rest (z ∷ zs) m n = (z, (m.1, (m.0, m.2, m.4)))

-- where no value begins, the whole isn't spelled
pub spells_none : {T : Type 0} (Spelling : List ℕ → T → Type 0) → IsCode Spelling → (text front rest : List ℕ) (xs : List T) → Spells Spelling front xs → text ≡ front ++ rest → rest ≢ [] → ((x : T) (tail : List ℕ) → BeginsSpelled Spelling rest x tail → ⊥)
    → (ys : List T) → Spells Spelling text ys → ⊥
spells_none Spelling code text front rest xs m e some none ys n =
    let more = spells_rest Spelling code front xs m rest ys (subst (λ l. Spells Spelling l ys) e n) in
    let begins = first Spelling rest more.0 more.1 some in
    none begins.0 begins.1.0 begins.1.1

pub all_more : {T : Type 0} (P : T → Type 0) (xs : List T) (x : T) → AllByRecursion P xs → P x → AllByRecursion P (xs ++ x ∷ [])
all_more P [] x all p = (p, tt)
all_more P (y ∷ ys) x all p = (all.0, all_more P ys x all.1 p)

pub shorter : {T : Type 0} (Spelling : List ℕ → T → Type 0) → IsCode Spelling → (text : List ℕ) (x : T) (rest : List ℕ) → BeginsSpelled Spelling text x rest → length rest < length text
shorter Spelling code text x rest s = omega (arith, code.some s.0 x s.1, ap length s.2, length-append s.0 rest)
