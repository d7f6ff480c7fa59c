-- Names in order, each once: that they ascend, that they are the same names, and that what was made
-- in that order before a name stands in front of it.
use Rattle.std.proofs.Common.{◌≡◌, ℕ, zero, suc, Bool, true, false, List, [], ◌∷◌, ◌++◌, refl, sym, ap, subst, arith, Contains, inl, inr}
use Rattle.std.specs.Prelude.{◌⊎◌, ◌↔◌, if◌then◌else◌}
use Rattle.std.specs.List.{AllByRecursion}
use Rattle.std.specs.List.Sorted.{IsStrictlySortedBy}
use Rattle.std.specs.Ordering.{is_lt}
use Rattle.std.specs.declared.cmp.Ordering.TheVariants.{Less}
use Rattle.std.proofs.lemmas.List.Elements.{Contains-append_right}
use Rattle.kr_config.specs.Nexts.{name_cmp}
use Rattle.kr_provider.specs.PluginOrder.{insert_name, names_in_order}
use Rattle.kr_provider.proofs.NameOrder.{IsStrictlySortedBy-none, comes_earlier, is_less, neither, not_itself, then_before}

abbrev Ascend : List (List ℕ) → Type 0
Ascend names = IsStrictlySortedBy name_cmp names

-- ---- what stands behind the first

at_each : (P : List ℕ → Type 0) (names : List (List ℕ)) (name : List ℕ) → AllByRecursion P names
    → Contains names name → P name
at_each P [] name a c = absurd (omega (arith, c.1))
at_each P (x ∷ xs) name a (zero, lt, e) = subst P e a.0
at_each P (x ∷ xs) name a (suc k, lt, e) = at_each P xs name a.1 (k, omega (arith, lt), e)

of_each : (P : List ℕ → Type 0) (names : List (List ℕ))
    → ((name : List ℕ) → Contains names name → P name) → AllByRecursion P names
of_each P [] f = tt
of_each P (x ∷ xs) f = (
  f x (0, omega arith, refl),
  of_each P xs (λ name c. f name (suc c.0, omega (arith, c.1), c.2)),
)

first_before : (x : List ℕ) (xs : List (List ℕ)) (name : List ℕ) → Ascend (x ∷ xs)
    → Contains xs name → comes_earlier x name ≡ true
unfolding IsStrictlySortedBy
first_before x xs name s c = ap is_lt (at_each (λ y. name_cmp x y ≡ Less) xs name s.0 c)

rest_ascend : (x : List ℕ) (xs : List (List ℕ)) → Ascend (x ∷ xs) → Ascend xs
unfolding IsStrictlySortedBy
rest_ascend x xs s = s.1

ascend_from : (x : List ℕ) (xs : List (List ℕ))
    → ((name : List ℕ) → Contains xs name → comes_earlier x name ≡ true) → Ascend xs → Ascend (x ∷ xs)
unfolding IsStrictlySortedBy
ascend_from x xs b s =
    (of_each (λ y. name_cmp x y ≡ Less) xs (λ name c. is_less x name (b name c)), s)

-- what the first comes before stands behind it
rest_has : (x : List ℕ) (xs : List (List ℕ)) (name : List ℕ) → Contains (x ∷ xs) name
    → comes_earlier x name ≡ true → Contains xs name
rest_has x xs name (zero, lt, e) b =
    absurd (not_itself x (subst (λ z. comes_earlier x z ≡ true) (sym e) b))
rest_has x xs name (suc k, lt, e) b = (k, omega (arith, lt), e)

-- ---- one name is put in

module _ (name : List ℕ) where
  abbrev put : Bool → Bool → List ℕ → List (List ℕ) → List (List ℕ)
  put p q other others = if p then name ∷ (other ∷ others)
      else (if q then other ∷ insert_name name others else other ∷ others)

  put_forth : (p q : Bool) (other : List ℕ) (others : List (List ℕ)) (x : List ℕ)
      → (Contains (insert_name name others) x → (name ≡ x) ⊎ Contains others x)
      → Contains (put p q other others) x → (name ≡ x) ⊎ Contains (other ∷ others) x
  put_forth true q other others x more (zero, lt, e) = inl e
  put_forth true q other others x more (suc k, lt, e) = inr (k, omega (arith, lt), e)
  put_forth false true other others x more (zero, lt, e) = inr (0, omega arith, e)
  put_forth false true other others x more (suc k, lt, e) =
      elim (more (k, omega (arith, lt), e)) [
        | inl d ↦ inl d
        | inr d ↦ inr (suc d.0, omega (arith, d.1), d.2)
      ]
  put_forth false false other others x more c = inr c

  insert_forth : (names : List (List ℕ)) (x : List ℕ) → Contains (insert_name name names) x
      → (name ≡ x) ⊎ Contains names x
  insert_forth [] x (zero, lt, e) = inl e
  insert_forth [] x (suc k, lt, e) = absurd (omega (arith, lt))
  insert_forth (other ∷ others) x c = put_forth (comes_earlier name other) (comes_earlier other name)
      other others x (insert_forth others x) c

  put_itself : (p q : Bool) (other : List ℕ) (others : List (List ℕ)) → comes_earlier name other ≡ p
      → comes_earlier other name ≡ q → Contains (insert_name name others) name
      → Contains (put p q other others) name
  put_itself true q other others e f c = (0, omega arith, refl)
  put_itself false true other others e f c = (suc c.0, omega (arith, c.1), c.2)
  put_itself false false other others e f c = (0, omega arith, sym (neither name other e f))

  insert_itself : (names : List (List ℕ)) → Contains (insert_name name names) name
  insert_itself [] = (0, omega arith, refl)
  insert_itself (other ∷ others) = put_itself (comes_earlier name other) (comes_earlier other name)
      other others refl refl (insert_itself others)

  put_others : (p q : Bool) (other : List ℕ) (others : List (List ℕ)) (x : List ℕ)
      → (Contains others x → Contains (insert_name name others) x) → Contains (other ∷ others) x
      → Contains (put p q other others) x
  put_others true q other others x more (k, lt, e) = (suc k, omega (arith, lt), e)
  put_others false true other others x more (zero, lt, e) = (0, omega arith, e)
  put_others false true other others x more (suc k, lt, e) =
      let d = more (k, omega (arith, lt), e) in (suc d.0, omega (arith, d.1), d.2)
  put_others false false other others x more c = c

  insert_others : (names : List (List ℕ)) (x : List ℕ) → Contains names x
      → Contains (insert_name name names) x
  insert_others [] x c = absurd (omega (arith, c.1))
  insert_others (other ∷ others) x c = put_others (comes_earlier name other) (comes_earlier other name)
      other others x (insert_others others x) c

  ahead : (other : List ℕ) (others : List (List ℕ)) (x : List ℕ) → comes_earlier name other ≡ true
      → Ascend (other ∷ others) → Contains (other ∷ others) x → comes_earlier name x ≡ true
  ahead other others x e s (zero, lt, f) = subst (λ z. comes_earlier name z ≡ true) f e
  ahead other others x e s (suc k, lt, f) =
      then_before name other x e (first_before other others x s (k, omega (arith, lt), f))

  behind : (other : List ℕ) (others : List (List ℕ)) (x : List ℕ) → comes_earlier other name ≡ true
      → Ascend (other ∷ others) → (name ≡ x) ⊎ Contains others x → comes_earlier other x ≡ true
  behind other others x e s (inl d) = subst (λ z. comes_earlier other z ≡ true) d e
  behind other others x e s (inr d) = first_before other others x s d

  put_ascends : (p q : Bool) (other : List ℕ) (others : List (List ℕ)) → comes_earlier name other ≡ p
      → comes_earlier other name ≡ q → Ascend (other ∷ others) → Ascend (insert_name name others)
      → Ascend (put p q other others)
  put_ascends true q other others e f s r =
      ascend_from name (other ∷ others) (λ x c. ahead other others x e s c) s
  put_ascends false true other others e f s r = ascend_from other (insert_name name others)
      (λ x c. behind other others x f s (insert_forth others x c)) r
  put_ascends false false other others e f s r = s

  insert_ascends : (names : List (List ℕ)) → Ascend names → Ascend (insert_name name names)
  insert_ascends [] s = ascend_from name [] (λ x c. absurd (omega (arith, c.1))) s
  insert_ascends (other ∷ others) s = put_ascends (comes_earlier name other) (comes_earlier other name)
      other others refl refl s (insert_ascends others (rest_ascend other others s))

-- ---- all of them

pub order_ascends : (names : List (List ℕ)) → Ascend (names_in_order names)
order_ascends [] = IsStrictlySortedBy-none
order_ascends (name ∷ names) = insert_ascends name (names_in_order names) (order_ascends names)

order_forth : (names : List (List ℕ)) (x : List ℕ) → Contains (names_in_order names) x → Contains names x
order_forth [] x c = c
order_forth (name ∷ names) x c =
    elim (insert_forth name (names_in_order names) x c) [
      | inl d ↦ (0, omega arith, d)
      | inr d ↦ let e = order_forth names x d in (suc e.0, omega (arith, e.1), e.2)
    ]

order_back : (names : List (List ℕ)) (x : List ℕ) → Contains names x → Contains (names_in_order names) x
order_back [] x c = c
order_back (name ∷ names) x (zero, lt, e) =
    subst (Contains (names_in_order (name ∷ names))) e (insert_itself name (names_in_order names))
order_back (name ∷ names) x (suc k, lt, e) =
    insert_others name (names_in_order names) x (order_back names x (k, omega (arith, lt), e))

pub order_has : (names : List (List ℕ)) (x : List ℕ) → Contains (names_in_order names) x
    ↔ Contains names x
order_has names x = (order_forth names x, order_back names x)

-- ---- two lists in order

one_first : (n : List ℕ) (ns : List (List ℕ)) (m : List ℕ) (ms : List (List ℕ)) → Ascend (n ∷ ns)
    → Ascend (m ∷ ms) → Contains (n ∷ ns) m → Contains (m ∷ ms) n → n ≡ m
one_first n ns m ms s t (zero, lt, e) d = e
one_first n ns m ms s t (suc j, lt, e) (zero, less, f) = sym f
one_first n ns m ms s t (suc j, lt, e) (suc k, less, f) =
    absurd (not_itself n (then_before n m n
    (first_before n ns m s (j, omega (arith, lt), e))
    (first_before m ms n t (k, omega (arith, less), f))))

-- what is in the first list is in the second, behind the firsts, which are one
rests : (n : List ℕ) (ns : List (List ℕ)) (m : List ℕ) (ms : List (List ℕ)) (x : List ℕ)
    → Ascend (n ∷ ns) → n ≡ m → Contains ns x → Contains (m ∷ ms) x → Contains ms x
rests n ns m ms x s e c d =
    rest_has m ms x d (subst (λ z. comes_earlier z x ≡ true) e (first_before n ns x s c))

pub one_order : (names made : List (List ℕ)) → Ascend names → Ascend made
    → ((x : List ℕ) → Contains made x → Contains names x)
    → ((x : List ℕ) → Contains names x → Contains made x) → names ≡ made
one_order [] [] s t into out = refl
one_order [] (m ∷ ms) s t into out =
    absurd (let d = into m (0, omega arith, refl) in omega (arith, d.1))
one_order (n ∷ ns) [] s t into out =
    absurd (let d = out n (0, omega arith, refl) in omega (arith, d.1))
one_order (n ∷ ns) (m ∷ ms) s t into out =
    let same : n ≡ m = one_first n ns m ms s t (into m (0, omega arith, refl))
    (out n (0, omega arith, refl)) in
    let rest : ns ≡ ms = one_order ns ms (rest_ascend n ns s) (rest_ascend m ms t)
    (λ x c. rests m ms n ns x t (sym same) c (into x (suc c.0, omega (arith, c.1), c.2)))
    (λ x c. rests n ns m ms x s same c (out x (suc c.0, omega (arith, c.1), c.2))) in
    (λ i. same i ∷ rest i)

is_ahead : (n : List ℕ) (ns : List (List ℕ)) (m name : List ℕ) → Ascend (n ∷ ns)
    → Contains (n ∷ ns) m → comes_earlier m name ≡ true → comes_earlier n name ≡ true
is_ahead n ns m name s (zero, lt, e) b = subst (λ z. comes_earlier z name ≡ true) (sym e) b
is_ahead n ns m name s (suc k, lt, e) b =
    then_before n m name (first_before n ns m s (k, omega (arith, lt), e)) b

-- those before a name stand in front of it
pub order_before : (names made : List (List ℕ)) (name : List ℕ) → Ascend names → Ascend made
    → Contains names name
    → ((x : List ℕ) → Contains made x → Contains names x × (comes_earlier x name ≡ true))
    → ((x : List ℕ) → Contains names x → comes_earlier x name ≡ true → Contains made x)
    → (rest : List (List ℕ)) × (names ≡ made ++ (name ∷ rest))
order_before [] made name s t c into out = absurd (omega (arith, c.1))
order_before (n ∷ ns) [] name s t (zero, lt, e) into out = (ns, ap (λ z. z ∷ ns) e)
order_before (n ∷ ns) [] name s t (suc k, lt, e) into out =
    absurd (let d = out n (0, omega arith, refl)
    (first_before n ns name s (k, omega (arith, lt), e)) in omega (arith, d.1))
order_before (n ∷ ns) (m ∷ ms) name s t c into out =
    let first = into m (0, omega arith, refl) in
    let near : comes_earlier n name ≡ true = is_ahead n ns m name s first.0 first.1 in
    let same : n ≡ m = one_first n ns m ms s t first.0 (out n (0, omega arith, refl) near) in
    let more = order_before ns ms name (rest_ascend n ns s) (rest_ascend m ms t)
    (rest_has n ns name c near)
    (λ x d. let y = into x (suc d.0, omega (arith, d.1), d.2) in
    (rests m ms n ns x t (sym same) d y.0, y.1))
    (λ x d b. rests n ns m ms x s same d (out x (suc d.0, omega (arith, d.1), d.2) b)) in
    (more.0, (λ i. same i ∷ more.1 i))

-- a name stands in an order once
pub order_once : (front : List (List ℕ)) (name : List ℕ) (behind : List (List ℕ))
    → Ascend (front ++ name ∷ behind) → Contains front name → ⊥
order_once [] name behind s c = omega (arith, c.1)
order_once (first ∷ front) name behind s (zero, lt, e) =
    not_itself first (first_before first (front ++ name ∷ behind) first s
    (subst (Contains (front ++ name ∷ behind)) (sym e)
    (Contains-append_right front (name ∷ behind) name (0, omega arith, refl))))
order_once (first ∷ front) name behind s (suc k, lt, e) =
    order_once front name behind (rest_ascend first (front ++ name ∷ behind) s)
    (k, omega (arith, lt), e)
