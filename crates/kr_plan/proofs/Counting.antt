-- Lists merged either way have as many keys, and as many plugins.
use Rattle.std.proofs.Common.{◌≡◌, ℕ, ◌+◌, ◌≤◌, Bool, true, false, cond, List, [], ◌∷◌, refl, sym, ap, ◌∙◌, arith, count_by}
use Rattle.std.specs.Prelude.{◌||◌, not}
use Rattle.std.specs.List.{filter, list_all}
use Rattle.std.proofs.lemmas.Bool.{false≢true}
use Rattle.std.proofs.lemmas.List.Elements.{All-contains}
use Rattle.std.proofs.lemmas.List.Filters.{sum_by-filter_both}
use Rattle.std.proofs.lemmas.List.Sums.{sum_by-append, sum_by-cons, AllPass-from_list_all}
use Rattle.kr_config.specs.declared.who.Who.{Who}
use Rattle.kr_config.specs.Kept.{apart}
use Rattle.kr_config.specs.Providers.{rivals}
use Rattle.kr_config.proofs.Inversions.{left, right}
use Rattle.kr_judge.specs.Providers.{has, same_who}
use Rattle.kr_judge.proofs.Lists.{none_filtered}
use Rattle.kr_judge.proofs.Members.{is_one, has_members}
use Rattle.kr_plan.specs.Merges.{merge}
use Rattle.kr_plan.proofs.Apart.{same_turn, same_rivals}

abbrev one_if : (Who → Bool) → Who → ℕ
one_if p who = cond (p who) 1 0

-- by the two tests together, where none passes both
count_or : (p f g : Who → Bool) (ys : List Who) → ((y : Who) → f y ≡ true → g y ≡ false)
    → count_by p (filter (λ y. f y || g y) ys) ≡ count_by p (filter f ys) + count_by p (filter g ys)
count_or p f g [] apart = refl
count_or p f g (y ∷ ys) apart = by (f y) (g y) refl refl (count_or p f g ys apart)
  where
    by : (v w : Bool) → f y ≡ v → g y ≡ w
        → count_by p (filter (λ z. f z || g z) ys)
        ≡ count_by p (filter f ys) + count_by p (filter g ys)
        → count_by p (cond (v || w) (y ∷ filter (λ z. f z || g z) ys) (filter (λ z. f z || g z) ys))
        ≡ count_by p (cond v (y ∷ filter f ys) (filter f ys))
        + count_by p (cond w (y ∷ filter g ys) (filter g ys))
    by true true e k rest = absurd (false≢true (sym (apart y e) ∙ k))
    by true false e k rest =
        let a = sum_by-cons (λ z. cond (p z) 1 0) y (filter (λ z. f z || g z) ys) in
        let b = sum_by-cons (λ z. cond (p z) 1 0) y (filter f ys) in omega (arith, a, b, rest)
    by false true e k rest =
        let a = sum_by-cons (λ z. cond (p z) 1 0) y (filter (λ z. f z || g z) ys) in
        let b = sum_by-cons (λ z. cond (p z) 1 0) y (filter g ys) in omega (arith, a, b, rest)
    by false false e k rest = rest

-- what is apart from all others of a list isn't among them
not_among : (x : Who) (xs : List Who) (y : Who) → apart rivals (x ∷ xs) ≡ true
    → same_who x y ≡ true → has xs y ≡ false
not_among x xs y a same = by (has xs y) refl
  where
    by : (v : Bool) → has xs y ≡ v → has xs y ≡ false
    by true t =
        let is : x ≡ y = is_one x y same in
        let away : not (rivals x y) ≡ true =
        All-contains (λ z. not (rivals x z) ≡ true) xs y
        (AllPass-from_list_all (λ z. not (rivals x z)) xs
        (left (list_all (λ z. not (rivals x z)) xs) (apart rivals xs) a))
        ((has_members xs y).0 t) in
        absurd (false≢true (sym (ap not (same_rivals x y same)) ∙ away))
    by false t = t

-- a list has a provider at most once
once : (p : Who → Bool) (x : Who) (ys : List Who) → apart rivals ys ≡ true
    → count_by p (filter (same_who x) ys) ≡ cond (has ys x) (cond (p x) 1 0) 0
once p x [] a = refl
once p x (y ∷ ys) a = by (same_who x y) (same_who y x) refl refl
    (once p x ys (right (list_all (λ z. not (rivals y z)) ys) (apart rivals ys) a))
  where
    by : (v w : Bool) → same_who x y ≡ v → same_who y x ≡ w
        → count_by p (filter (same_who x) ys) ≡ cond (has ys x) (cond (p x) 1 0) 0
        → count_by p (cond v (y ∷ filter (same_who x) ys) (filter (same_who x) ys))
        ≡ cond (w || has ys x) (cond (p x) 1 0) 0
    by true true e k rest =
        let away : has ys x ≡ false = not_among y ys x a k in
        let none : count_by p (filter (same_who x) ys) ≡ 0 =
        rest ∙ ap (λ (v : Bool). cond v (cond (p x) 1 0) 0) away in
        let a = sum_by-cons (λ z. cond (p z) 1 0) y (filter (same_who x) ys) in
        let own : one_if p y ≡ one_if p x = ap (one_if p) (is_one y x k) in
        omega (arith, a, none, own)
    by true false e k rest = absurd (false≢true (sym k ∙ same_turn x y e))
    by false true e k rest = absurd (false≢true (sym e ∙ same_turn y x k))
    by false false e k rest = rest

-- what two lists have in common, counted in either
common : (p : Who → Bool) (xs ys : List Who) → apart rivals xs ≡ true → apart rivals ys ≡ true
    → count_by p (filter (has xs) ys) ≡ count_by p (filter (has ys) xs)
common p [] ys a b = ap (count_by p) (none_filtered (has []) ys (λ y m. refl))
common p (x ∷ xs) ys a b =
    count_or p (same_who x) (has xs) ys (λ y same. not_among x xs y a same)
    ∙ by (has ys x) refl (once p x ys b)
    (common p xs ys (right (list_all (λ z. not (rivals x z)) xs) (apart rivals xs) a) b)
  where
    by : (v : Bool) → has ys x ≡ v
        → count_by p (filter (same_who x) ys) ≡ cond (has ys x) (cond (p x) 1 0) 0
        → count_by p (filter (has xs) ys) ≡ count_by p (filter (has ys) xs)
        → count_by p (filter (same_who x) ys) + count_by p (filter (has xs) ys)
        ≡ count_by p (cond v (x ∷ filter (has ys) xs) (filter (has ys) xs))
    by true e one rest =
        let own : count_by p (filter (same_who x) ys) ≡ cond (p x) 1 0 =
        one ∙ ap (λ (v : Bool). cond v (cond (p x) 1 0) 0) e in
        let a = sum_by-cons (λ z. cond (p z) 1 0) x (filter (has ys) xs) in
        omega (arith, a, own, rest)
    by false e one rest =
        let none : count_by p (filter (same_who x) ys) ≡ 0 =
        one ∙ ap (λ (v : Bool). cond v (cond (p x) 1 0) 0) e in omega (arith, none, rest)

-- what a merged list has, with what both have counted once
merged_count : (p : Who → Bool) (one other : List Who)
    → count_by p (merge one other) + count_by p (filter (has one) other)
    ≡ count_by p one + count_by p other
merged_count p one other =
    let new : Who → Bool = λ who. not (has one who) in
    let a = sum_by-append (λ z. cond (p z) 1 0) one (filter new other) in
    let b = sum_by-filter_both (has one) new (λ x. refl) (λ z. cond (p z) 1 0) other in
    omega (arith, a, b)

pub count_turn : (p : Who → Bool) (one other : List Who) → apart rivals one ≡ true
    → apart rivals other ≡ true → count_by p (merge one other) ≡ count_by p (merge other one)
count_turn p one other a b =
    let m = merged_count p one other in
    let n = merged_count p other one in
    let c = common p one other a b in omega (arith, m, n, c)

pub count_most : (p : Who → Bool) (one other : List Who)
    → count_by p (merge one other) ≤ count_by p one + count_by p other
count_most p one other = let m = merged_count p one other in omega (arith, m)
