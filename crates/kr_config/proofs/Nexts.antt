-- The least of two lists together.
use Rattle.std.proofs.Common.{◌≡◌, ◌≢◌, ℕ, Bool, true, false, List, [], ◌∷◌, ◌++◌, Option, None}
use Rattle.std.proofs.Common.{Some, All, refl, sym, ap, ◌∙◌, ◌⊎◌, inl, inr, arith}
use Rattle.std.specs.Prelude.{if◌then◌else◌}
use Rattle.std.specs.Ordering.{is_lt, ordering_reverse}
use Rattle.std.proofs.lemmas.Cmp.{alike_right, tied_itself}
use Rattle.std.specs.Cmp.{IsTotalOrder}
use Rattle.std.specs.declared.cmp.Ordering.{Ordering}
use Rattle.std.specs.declared.cmp.Ordering.TheVariants.{Less, Equal, Greater}
use Rattle.std.proofs.lemmas.List.Elements.{All-nil, All-cons, All-append, All-weaker}
use Rattle.std.proofs.lemmas.List.Elements.{Contains-append_left, Contains-append_right}
use Rattle.std.proofs.lemmas.Cmp.{nat_list_cmp_total}
use Rattle.kr_config.specs.declared.class.Class.{Class}
use Rattle.kr_config.specs.Classes.{class_cmp}
use Rattle.kr_config.specs.Nexts.{IsLeast, earlier, name_cmp, IsNextName, comes_after, IsNextClass}
use Rattle.kr_config.proofs.Orders.{class_total}

no_test : {T : Type 0} (cmp : T → T → Ordering) (test : T → Bool) (least : T) (xs : List T)
    → All (λ x. test x ≡ false) xs → All (λ x. test x ≡ true → cmp x least ≢ Less) xs
no_test cmp test least xs h =
    All-weaker (λ x. test x ≡ false) (λ x. test x ≡ true → cmp x least ≢ Less)
    (λ x f t. absurd (let e : false ≡ true = sym f ∙ t in cc)) xs h

pub below : (o : Ordering) → is_lt o ≡ true → o ≡ Less
below Less h = refl
below Equal h = cc
below Greater h = cc

not_below : (o : Ordering) → is_lt o ≡ false → o ≢ Less
not_below Less h = λ e. cc
not_below other h = λ e. cc

not_behind : (o : Ordering) → ordering_reverse o ≢ Less → (o ≡ Less) ⊎ (o ≡ Equal)
not_behind Less h = inl refl
not_behind Equal h = inr refl
not_behind Greater h = absurd (h refl)

-- this one isn't behind the other, so what comes before it comes before the other
still_before : {T : Type 0} {cmp : T → T → Ordering} (order : IsTotalOrder cmp) (x y z : T)
    → cmp y x ≢ Less → cmp z x ≡ Less → cmp z y ≡ Less
still_before {T} {cmp} order x y z h k =
    elim (not_behind (cmp x y) (λ e. h (order.antisymm y x ∙ e)))
    [ inl l ↦ order.trans z x y k l | inr e ↦ sym (alike_right order x y z e) ∙ k ]

not_before : {T : Type 0} {cmp : T → T → Ordering} (order : IsTotalOrder cmp) (test : T → Bool)
    (x y : T) (xs : List T) → cmp y x ≢ Less
    → All (λ z. test z ≡ true → cmp z y ≢ Less) xs → All (λ z. test z ≡ true → cmp z x ≢ Less) xs
not_before {T} {cmp} order test x y xs h all =
    All-weaker (λ z. test z ≡ true → cmp z y ≢ Less) (λ z. test z ≡ true → cmp z x ≢ Less)
    (λ z f t l. f t (still_before order x y z h l)) xs all

pub not_behind_before : {T : Type 0} {cmp : T → T → Ordering} (order : IsTotalOrder cmp) (x y : T)
    → cmp y x ≡ Less → cmp x y ≢ Less
not_behind_before {T} {cmp} order x y h l = let e : Less ≡ ordering_reverse Less =
    sym l ∙ order.antisymm x y ∙ ap ordering_reverse h in cc

pub least_joined : {T : Type 0} {cmp : T → T → Ordering} (order : IsTotalOrder cmp)
    (test : T → Bool) (xs ys : List T) (a b : Option T) → IsLeast cmp test xs a
    → IsLeast cmp test ys b → IsLeast cmp test (xs ++ ys) (earlier cmp a b)
least_joined {T} {cmp} order test xs ys None None h k = All-append (λ x. test x ≡ false) xs ys h k
least_joined {T} {cmp} order test xs ys None (Some y) h k = (
  Contains-append_right xs ys y k.0,
  k.1,
  All-append (λ x. test x ≡ true → cmp x y ≢ Less) xs ys (no_test cmp test y xs h) k.2,
)
least_joined {T} {cmp} order test xs ys (Some x) None h k = (
  Contains-append_left xs ys x h.0,
  h.1,
  All-append (λ z. test z ≡ true → cmp z x ≢ Less) xs ys h.2 (no_test cmp test x ys k),
)
least_joined {T} {cmp} order test xs ys (Some x) (Some y) h k = by (is_lt (cmp y x)) refl
  where
    by : (v : Bool) → is_lt (cmp y x) ≡ v
        → IsLeast cmp test (xs ++ ys) (if v then Some y else Some x)
    by true e = (
      Contains-append_right xs ys y k.0,
      k.1,
      All-append (λ z. test z ≡ true → cmp z y ≢ Less) xs ys
          (not_before order test y x xs (not_behind_before order x y (below (cmp y x) e)) h.2) k.2,
    )
    by false e = (
      Contains-append_left xs ys x h.0,
      h.1,
      All-append (λ z. test z ≡ true → cmp z x ≢ Less) xs ys h.2
          (not_before order test x y ys (not_below (cmp y x) e) k.2),
    )

-- of a list of one
pub least_of_one : {T : Type 0} {cmp : T → T → Ordering} (order : IsTotalOrder cmp)
    (test : T → Bool) (x : T) (v : Bool) → test x ≡ v
    → IsLeast cmp test (x ∷ []) (if v then Some x else None)
least_of_one {T} {cmp} order test x true e = (
  (0, omega arith, refl),
  e,
  All-cons (λ z. test z ≡ true → cmp z x ≢ Less) x []
      (λ t l. let e : Equal ≡ Less = sym (tied_itself order x) ∙ l in cc)
      (All-nil (λ z. test z ≡ true → cmp z x ≢ Less)),
)
least_of_one {T} {cmp} order test x false e =
    All-cons (λ z. test z ≡ false) x [] e (All-nil (λ z. test z ≡ false))

-- names and classes
pub names_joined : (names more : List (List ℕ)) (after : List ℕ) (a b : Option (List ℕ))
    → IsNextName names after a → IsNextName more after b
    → IsNextName (names ++ more) after (earlier name_cmp a b)
names_joined names more after a b h k =
    least_joined nat_list_cmp_total (λ name. is_lt (name_cmp after name)) names more a b h k

pub name_next : (name after : List ℕ) → is_lt (name_cmp after name) ≡ true
    → IsNextName (name ∷ []) after (Some name)
name_next name after e = least_of_one nat_list_cmp_total (λ name. is_lt (name_cmp after name)) name
    true e

pub name_none : (name after : List ℕ) → is_lt (name_cmp after name) ≡ false
    → IsNextName (name ∷ []) after None
name_none name after e = least_of_one nat_list_cmp_total (λ name. is_lt (name_cmp after name)) name
    false e

pub no_name : (after : List ℕ) → IsNextName [] after None
no_name after = All-nil (λ name. is_lt (name_cmp after name) ≡ false)

pub classes_joined : (classes more : List Class) (after a b : Option Class)
    → IsNextClass classes after a → IsNextClass more after b
    → IsNextClass (classes ++ more) after (earlier class_cmp a b)
classes_joined classes more after a b h k =
    least_joined class_total (comes_after after) classes more a b h k
