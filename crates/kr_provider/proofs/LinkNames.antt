-- Names that stay distinct.
use Rattle.std.proofs.Common.{◌≡◌, ℕ, zero, suc, Bool, true, false, List, [], ◌∷◌, ◌++◌, refl, sym, ap, subst, arith}
use Rattle.std.specs.Prelude.{◌||◌, Contains, IsTrue, ◌↔◌}
use Rattle.std.specs.List.{AllByRecursion, IsDistinct, list_any}
use Rattle.std.specs.Str.{bytes_eq}
use Rattle.std.proofs.lemmas.Slice.Eq.{bytes_eq-Decides}
use Rattle.kr_kms.specs.Calls.{Link}
use Rattle.kr_provider.specs.Names.{AreDistinct, names_of}

differ : (x y : List ℕ) → (x ≡ y → ⊥) → bytes_eq x y ≡ false
differ x y n = refuted (bytes_eq x y) (bytes_eq-Decides x y).0
  where
    refuted : (b : Bool) → (b ≡ true → x ≡ y) → b ≡ false
    refuted true d = absurd (n (d refl))
    refuted false d = refl

all_more : (x : List ℕ) (ys : List (List ℕ)) (y : List ℕ)
    → AllByRecursion (λ z. bytes_eq x z ≡ false) ys → bytes_eq x y ≡ false
    → AllByRecursion (λ z. bytes_eq x z ≡ false) (ys ++ y ∷ [])
all_more x [] y a e = (e, tt)
all_more x (z ∷ ys) y a e = (a.0, all_more x ys y a.1 e)

all_less : (x : List ℕ) (ys : List (List ℕ)) (y : List ℕ)
    → AllByRecursion (λ z. bytes_eq x z ≡ false) (ys ++ y ∷ [])
    → AllByRecursion (λ z. bytes_eq x z ≡ false) ys
all_less x [] y a = tt
all_less x (z ∷ ys) y a = (a.0, all_less x ys y a.1)

distinct_more : (xs : List (List ℕ)) (y : List ℕ) → IsDistinct bytes_eq xs → (Contains xs y → ⊥)
    → IsDistinct bytes_eq (xs ++ y ∷ [])
unfolding IsDistinct
distinct_more [] y d n = (tt, tt)
distinct_more (x ∷ xs) y d n = (
  all_more x xs y d.0 (differ x y (λ e. n (0, omega arith, e))),
  distinct_more xs y d.1 (λ c. n (suc c.0, omega (arith, c.1), c.2)),
)

distinct_less : (xs : List (List ℕ)) (y : List ℕ) → IsDistinct bytes_eq (xs ++ y ∷ [])
    → IsDistinct bytes_eq xs
unfolding IsDistinct
distinct_less [] y d = tt
distinct_less (x ∷ xs) y d = (all_less x xs y d.0, distinct_less xs y d.1)

pub distinct_none : {L : Type 0} (link : L → Link) → AreDistinct link []
unfolding IsDistinct
distinct_none link = tt

names_more : {L : Type 0} (link : L → Link) (links : List L) (l : L)
    → names_of link (links ++ l ∷ []) ≡ names_of link links ++ (link l).name ∷ []
names_more link [] l = refl
names_more link (k ∷ links) l = ap (λ names. (link k).name ∷ names) (names_more link links l)

pub with_one : {L : Type 0} (link : L → Link) (links : List L) (l : L) → AreDistinct link links
    → (Contains (names_of link links) (link l).name → ⊥) → AreDistinct link (links ++ l ∷ [])
with_one link links l d n = subst (IsDistinct bytes_eq) (sym (names_more link links l))
    (distinct_more (names_of link links) (link l).name d n)

pub without_last : {L : Type 0} (link : L → Link) (links : List L) (l : L)
    → AreDistinct link (links ++ l ∷ []) → AreDistinct link links
without_last link links l d = distinct_less (names_of link links) (link l).name
    (subst (IsDistinct bytes_eq) (names_more link links l) d)

-- one of the names is the one that was asked for
any_named : {L : Type 0} (link : L → Link) (links : List L) (name : List ℕ)
    → list_any (λ l. bytes_eq (link l).name name) links ≡ true → Contains (names_of link links) name
any_named link [] name t = absurd (cc)
any_named link (l ∷ links) name t = there (bytes_eq (link l).name name)
    (bytes_eq-Decides (link l).name name).0 (any_named link links name) t
  where
    there : (b : Bool) → (b ≡ true → (link l).name ≡ name)
        → (list_any (λ k. bytes_eq (link k).name name) links ≡ true
        → Contains (names_of link links) name)
        → (b || list_any (λ k. bytes_eq (link k).name name) links) ≡ true
        → Contains (names_of link (l ∷ links)) name
    there true d more t = (0, omega arith, d refl)
    there false d more t = let c = more t in (suc c.0, omega (arith, c.1), c.2)

named_any : {L : Type 0} (link : L → Link) (links : List L) (name : List ℕ)
    → Contains (names_of link links) name → list_any (λ l. bytes_eq (link l).name name) links ≡ true
named_any link [] name c = absurd (omega (arith, c.1))
named_any link (l ∷ links) name (zero, lt, e) =
    ap (λ b. b || list_any (λ k. bytes_eq (link k).name name) links)
    ((bytes_eq-Decides (link l).name name).1 e)
named_any link (l ∷ links) name (suc k, lt, e) =
    either (bytes_eq (link l).name name) (named_any link links name (k, omega (arith, lt), e))
  where
    either : (b : Bool) → list_any (λ k. bytes_eq (link k).name name) links ≡ true
        → (b || list_any (λ k. bytes_eq (link k).name name) links) ≡ true
    either true t = refl
    either false t = t

pub named : {L : Type 0} (link : L → Link) (links : List L) (name : List ℕ)
    → IsTrue (list_any (λ l. bytes_eq (link l).name name) links)
    ↔ Contains (names_of link links) name
named link links name = (any_named link links name, named_any link links name)
