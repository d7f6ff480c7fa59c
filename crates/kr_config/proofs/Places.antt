-- What a search for a class finds.
use Rattle.std.proofs.Common.{◌≡◌, ℕ, ◌<◌, ◌≤◌, Bool, true, false, List, length, get_or, take, refl}
use Rattle.std.proofs.Common.{sym, ◌∙◌, ap, subst, Some}
use Rattle.std.specs.List.{list_any}
use Rattle.std.proofs.lemmas.List.{take_all, get_or_default}
use Rattle.std.proofs.lemmas.List.Folds.{list_any_at}
use Rattle.std.proofs.lemmas.Slice.Eq.{bytes_eq-Decides}
use Rattle.kr_config.specs.declared.class.Class.{Class}
use Rattle.kr_config.specs.declared.class.Class.TheVariants.{Exact, Group, Rest}
use Rattle.kr_config.specs.Classes.{is_exact, is_group, is_rest}
use Rattle.kr_config.specs.inner.Finds.{Finds}

pub exact_is : (resource : List ℕ) (class : Class) → is_exact resource class ≡ true
    → class ≡ Exact resource
exact_is resource (Exact text) h = ap Exact ((bytes_eq-Decides text resource).0 h)
exact_is resource (Group group) h = cc
exact_is resource Rest h = cc

pub group_is : (group : List ℕ) (class : Class) → is_group group class ≡ true → class ≡ Group group
group_is group (Exact text) h = cc
group_is group (Group own) h = ap Group ((bytes_eq-Decides own group).0 h)
group_is group Rest h = cc

pub rest_is : (class : Class) → is_rest class ≡ true → class ≡ Rest
rest_is (Exact text) h = cc
rest_is (Group group) h = cc
rest_is Rest h = refl

finds_at : (test : Class → Bool) (class : Class) (classes : List Class) (i : ℕ) (c : Class)
    → i < length classes → c ≡ get_or classes i c → test c ≡ true → c ≡ class
    → Finds test class classes (Some i)
finds_at test class classes i c h is t e = (
  h,
  list_any_at test classes i c h (ap test (sym is) ∙ t),
  λ other.
      get_or_default classes i other c h ∙ sym is ∙ e,
)

pub finds_exact : (resource : List ℕ) (classes : List Class) (i : ℕ) (c : Class)
    → i < length classes → c ≡ get_or classes i c → is_exact resource c ≡ true
    → Finds (is_exact resource) (Exact resource) classes (Some i)
finds_exact resource classes i c h is t =
    finds_at (is_exact resource) (Exact resource) classes i c h is t (exact_is resource c t)

pub finds_group : (group : List ℕ) (classes : List Class) (i : ℕ) (c : Class) → i < length classes
    → c ≡ get_or classes i c → is_group group c ≡ true
    → Finds (is_group group) (Group group) classes (Some i)
finds_group group classes i c h is t =
    finds_at (is_group group) (Group group) classes i c h is t (group_is group c t)

pub finds_rest : (classes : List Class) (i : ℕ) (c : Class) → i < length classes
    → c ≡ get_or classes i c → is_rest c ≡ true → Finds is_rest Rest classes (Some i)
finds_rest classes i c h is t = finds_at is_rest Rest classes i c h is t (rest_is c t)

pub finds_none : (test : Class → Bool) (classes : List Class) (i : ℕ) → length classes ≤ i
    → list_any test (take i classes) ≡ false → list_any test classes ≡ false
finds_none test classes i h none = subst (λ l. list_any test l ≡ false) (take_all i classes h) none
