-- What a search by halves among the classes of an index finds.
use Rattle.std.proofs.Common.{◌≡◌, ◌≢◌, ℕ, zero, suc, ◌+◌, ◌<◌, ◌≤◌, Bool, true, false, List, []}
use Rattle.std.proofs.Common.{◌∷◌, length, get_or, map, Option, None, Some, Ok, Err}
use Rattle.std.proofs.Common.{refl, sym, ap, subst, ◌∙◌, arith}
use Rattle.std.specs.Prelude.{nat_lt}
use Rattle.std.specs.List.{AllByRecursion, AllWithin}
use Rattle.std.specs.List.Sorted.{IsStrictlySortedBy}
use Rattle.std.specs.Ordering.{is_lt, is_eq, ordering_reverse}
use Rattle.std.specs.declared.cmp.Ordering.{Ordering}
use Rattle.std.specs.declared.cmp.Ordering.TheVariants.{Less, Equal, Greater}
use Rattle.std.proofs.lemmas.Bool.{ltb-true, ltb-false}
use Rattle.std.proofs.lemmas.Cmp.{tied_itself}
use Rattle.std.proofs.lemmas.List.{get_or_default, get_or-map, length-map}
use Rattle.std.proofs.lemmas.List.Elements.{All-map}
use Rattle.std.proofs.lemmas.Map.Text.{is_eq-slice_cmp}
use Rattle.std.proofs.lemmas.Slice.Eq.{bytes_eq-Decides}
use Rattle.kr_config.specs.declared.class.Class.{Class}
use Rattle.kr_config.specs.declared.class.Class.TheVariants.{Exact, Group, Rest}
use Rattle.kr_config.specs.declared.class_index.ClassPlace.{ClassPlace}
use Rattle.kr_config.specs.Classes.{class_cmp}
use Rattle.kr_config.specs.Nexts.{comes_after, IsNextClass}
use Rattle.kr_config.specs.inner.ClassIndexes.{class_at, IsSearchable, IsAt, IsAbsent, IsPlaceOf, StandsAt}
use Rattle.kr_config.specs.inner.ClassIndexes.{IsPlaceAfter, IsEntryOf}
use Rattle.kr_config.proofs.Nexts.{not_behind_before}
use Rattle.kr_config.proofs.Orders.{class_total}

-- ---- the order of classes

pub turned : (a b : Class) → class_cmp a b ≡ Greater → class_cmp b a ≡ Less
turned a b h = class_total.antisymm b a ∙ ap ordering_reverse h

turned_back : (a b : Class) → class_cmp a b ≡ Less → class_cmp b a ≡ Greater
turned_back a b h = class_total.antisymm b a ∙ ap ordering_reverse h

pub same_class : (a b : Class) → class_cmp a b ≡ Equal → a ≡ b
same_class (Exact a) (Exact b) h =
    ap Exact ((bytes_eq-Decides a b).0 (sym (is_eq-slice_cmp a b) ∙ ap is_eq h))
same_class (Group a) (Group b) h =
    ap Group ((bytes_eq-Decides a b).0 (sym (is_eq-slice_cmp a b) ∙ ap is_eq h))
same_class Rest Rest h = refl
same_class other another h = cc

-- ---- classes in order, by their places

at_each : (P : Class → Type 0) (index : List ClassPlace) → AllByRecursion P (map class_at index)
    → (j : ℕ) (d : ClassPlace) → j < length index → P (get_or index j d).class
at_each P [] all j d h = absurd (omega arith)
at_each P (x ∷ index) all zero d h = all.0
at_each P (x ∷ index) all (suc j) d h = at_each P index all.1 j d (omega arith)

ascending : (index : List ClassPlace) → IsStrictlySortedBy class_cmp (map class_at index)
    → (i j : ℕ) (d e : ClassPlace) → i < j → j < length index
    → class_cmp (get_or index i d).class (get_or index j e).class ≡ Less
unfolding IsStrictlySortedBy
ascending (x ∷ index) s zero (suc j) d e h l =
    at_each (λ c. class_cmp x.class c ≡ Less) index s.0 j e (omega arith)
ascending (x ∷ index) s (suc i) (suc j) d e h l =
    ascending index s.1 i j d e (omega arith) (omega arith)
ascending other s i j d e h l = absurd (omega arith)

-- ---- a search

-- the classes before low come before the class, and those from high on after it
pub record Between (class : Class) (index : List ClassPlace) (low high : ℕ) : Type 0 where
  pub ordered : low ≤ high
  pub within : high ≤ length index
  pub before : AllWithin (λ own. class_cmp own.class class ≡ Less) index 0 low
  pub behind : AllWithin (λ own. class_cmp class own.class ≡ Less) index high (length index)

pub begun : (class : Class) (index : List ClassPlace) → Between class index 0 (length index)
begun class index = record {
  ordered = omega arith;
  within = omega arith;
  before = λ k d z h. absurd (omega arith);
  behind = λ k d h l. absurd (omega arith);
}

-- of a place up to another: it is before that one, or it is that one
split : (k i : ℕ) (P : Type 0) → k ≤ i → (k < i → P) → (k ≡ i → P) → P
split k i P h less same = by (nat_lt k i) refl
  where
    by : (v : Bool) → nat_lt k i ≡ v → P
    by true t = less (ltb-true k i t)
    by false f = let over = ltb-false k i f in same (omega (arith, h, over))

pub before_middle : {class : Class} {index : List ClassPlace} {low high : ℕ} (middle : ℕ)
    {own : ClassPlace} → IsSearchable index → Between class index low high
    → own ≡ get_or index middle own → class_cmp own.class class ≡ Less → low ≤ middle
    → middle < high → Between class index (middle + 1) high
before_middle {class} {index} {low} {high} middle {own} sorted b is less from to = record {
  ordered = omega (arith, to);
  within = b.within;
  before = λ k d z h. split k middle (class_cmp (get_or index k d).class class ≡ Less)
      (omega (arith, h))
      (λ under. class_total.trans (get_or index k d).class own.class class
      (subst (λ (o : ClassPlace). class_cmp (get_or index k d).class o.class ≡ Less) (sym is)
      (ascending index sorted.ascends k middle d own under (omega (arith, to, b.within)))) less)
      (λ e. subst (λ (o : ClassPlace). class_cmp o.class class ≡ Less)
      (is ∙ get_or_default index middle own d (omega (arith, to, b.within))
      ∙ ap (λ n. get_or index n d) (sym e)) less);
  behind = b.behind;
}

pub behind_middle : {class : Class} {index : List ClassPlace} {low high : ℕ} (middle : ℕ)
    {own : ClassPlace} → IsSearchable index → Between class index low high
    → own ≡ get_or index middle own → class_cmp own.class class ≡ Greater → low ≤ middle
    → middle < high → Between class index low middle
behind_middle {class} {index} {low} {high} middle {own} sorted b is greater from to =
    let after : class_cmp class own.class ≡ Less = turned own.class class greater in
    record {
      ordered = from;
      within = omega (arith, to, b.within);
      before = b.before;
      behind = λ k d h l. split middle k (class_cmp class (get_or index k d).class ≡ Less) h
          (λ over. class_total.trans class own.class (get_or index k d).class after
          (subst (λ (o : ClassPlace). class_cmp o.class (get_or index k d).class ≡ Less) (sym is)
          (ascending index sorted.ascends middle k own d over l)))
          (λ e. subst (λ (o : ClassPlace). class_cmp class o.class ≡ Less)
          (is ∙ get_or_default index middle own d (omega (arith, to, b.within))
          ∙ ap (λ n. get_or index n d) e) after);
    }

pub found : (class : Class) (index : List ClassPlace) (place : ℕ) (own : ClassPlace)
    → place < length index → own ≡ get_or index place own → class_cmp own.class class ≡ Equal
    → IsAt index class place
found class index place own h is same = (
  h,
  λ other. ap class_at (get_or_default index place other own h ∙ sym is)
      ∙ same_class own.class class same,
)

pub not_found : (class : Class) (index : List ClassPlace) (low high : ℕ)
    → Between class index low high → high ≤ low → IsPlaceOf index class (Err low)
not_found class index low high b met = (
  omega (arith, b.ordered, b.within),
  b.before,
  λ k d h l. b.behind k d (omega (arith, h, met)) l,
)

-- the class that is lent of a place
pub lent_is : (index : List ClassPlace) (place : ℕ) (own : ClassPlace) (lent : Class)
    → own ≡ get_or index place own → lent ≡ (get_or index place own).class → lent ≡ own.class
lent_is index place own lent is same = same ∙ sym (ap class_at is)

-- the order of a place's class, by the class that is lent of it
pub own_order : (class : Class) {own there : ClassPlace} {lent : Class} {order : Ordering}
    → own ≡ there → lent ≡ there.class → order ≡ class_cmp lent class
    → class_cmp own.class class ≡ order
own_order class {own} {there} {lent} {order} is same ordered =
    sym (ordered ∙ ap (λ c. class_cmp c class) (same ∙ sym (ap class_at is)))

pub equal : (o : Ordering) → is_eq o ≡ true → o ≡ Equal
equal Less h = cc
equal Equal h = refl
equal Greater h = cc

pub stands : (class : Class) (index : List ClassPlace) (place : ℕ) (own : ClassPlace)
    (lent : Class) (order : Ordering) (result : Bool) → place < length index
    → own ≡ get_or index place own → lent ≡ (get_or index place own).class
    → order ≡ class_cmp lent class
    → result ≡ is_eq order → StandsAt index class place result
stands class index place own lent order true h is same ordered told =
    found class index place own h is
    (own_order class is same ordered ∙ equal order (sym told))
stands class index place own lent order false h is same ordered told = tt

-- ---- what comes after a class

pub after_none : (index : List ClassPlace) → IsPlaceAfter index None 0
after_none index = record {
  within = omega arith;
  none = λ k d z h. absurd (omega arith);
  all = λ k d h l. refl;
}

pub after_found : (index : List ClassPlace) (class : Class) (place : ℕ) → IsSearchable index
    → IsPlaceOf index class (Ok place) → IsPlaceAfter index (Some class) (place + 1)
after_found index class place sorted at = record {
  within = omega (arith, at.0);
  none = λ k d z h. split k place (is_lt (class_cmp class (get_or index k d).class) ≡ false)
      (omega (arith, h))
      (λ under. ap is_lt (turned_back (get_or index k d).class class
      (subst (λ c. class_cmp (get_or index k d).class c ≡ Less) (at.1 d)
      (ascending index sorted.ascends k place d d under at.0))))
      (λ e. ap (λ c. is_lt (class_cmp class c)) (ap (λ n. (get_or index n d).class) e ∙ at.1 d)
      ∙ ap is_lt (tied_itself class_total class));
  all = λ k d h l. ap is_lt
      (subst (λ c. class_cmp c (get_or index k d).class ≡ Less) (at.1 d)
      (ascending index sorted.ascends place k d d (omega (arith, h)) l));
}

pub after_gap : (index : List ClassPlace) (class : Class) (place : ℕ)
    → IsPlaceOf index class (Err place) → IsPlaceAfter index (Some class) place
after_gap index class place gap = record {
  within = gap.0;
  none = λ k d z h. ap is_lt (turned_back (get_or index k d).class class (gap.1 k d z h));
  all = λ k d h l. ap is_lt (gap.2 k d h l);
}

pub next_here : (index : List ClassPlace) (after : Option Class) (place : ℕ) (own : ClassPlace)
    → IsSearchable index → IsPlaceAfter index after place → place < length index
    → own ≡ get_or index place own → IsNextClass (map class_at index) after (Some own.class)
next_here index after place own sorted behind h is = (
  (
    place,
    omega (arith, h, length-map index class_at),
    get_or-map class_at index place own own.class h ∙ ap class_at (sym is),
  ),
  ap (λ (o : ClassPlace). comes_after after o.class) is
      ∙ behind.all place own (omega arith) h,
  All-map (λ c. comes_after after c ≡ true → class_cmp c own.class ≢ Less) class_at index
      (λ k d l. by k d l (nat_lt k place) (nat_lt place k) refl refl),
)
  where
    by : (k : ℕ) (d : ClassPlace) → k < length index → (v w : Bool) → nat_lt k place ≡ v
        → nat_lt place k ≡ w → comes_after after (get_or index k d).class ≡ true
        → class_cmp (get_or index k d).class own.class ≢ Less
    by k d l true w e f = λ t. absurd (let n : true ≡ false = sym t
        ∙ behind.none k d (omega arith) (ltb-true k place e) in cc)
    by k d l false true e f = λ t. not_behind_before class_total (get_or index k d).class own.class
        (subst (λ (o : ClassPlace). class_cmp o.class (get_or index k d).class ≡ Less) (sym is)
        (ascending index sorted.ascends place k own d (ltb-true place k f) l))
    by k d l false false e f = λ t m.
        let same : k ≡ place = omega (arith, ltb-false k place e, ltb-false place k f) in
        let its : (get_or index k d).class ≡ own.class =
        ap class_at (ap (λ n. get_or index n d) same ∙ get_or_default index place d own h
        ∙ sym is) in
        let n : Equal ≡ Less = sym (tied_itself class_total own.class)
        ∙ ap (λ c. class_cmp c own.class) (sym its) ∙ m in cc

pub next_none : (index : List ClassPlace) (after : Option Class) (place : ℕ)
    → IsPlaceAfter index after place → length index ≤ place
    → IsNextClass (map class_at index) after None
next_none index after place behind h =
    All-map (λ c. comes_after after c ≡ false) class_at index
    (λ k d l. behind.none k d (omega arith) (omega (arith, l, h)))

-- ---- the entry that stands with a class

pub own_found : (index : List ClassPlace) (class : Class) (place entry : ℕ) (own : ClassPlace)
    → IsPlaceOf index class (Ok place) → own ≡ get_or index place own → entry ≡ own.entry
    → IsEntryOf index class entry
own_found index class place entry own at is its = (
  place,
  (at.0, at.1),
  λ other. ap (λ (o : ClassPlace). o.entry) (get_or_default index place other own at.0 ∙ sym is)
      ∙ sym its,
)

pub own_absent : (index : List ClassPlace) (class : Class) (place : ℕ)
    → IsPlaceOf index class (Err place) → IsAbsent index class
own_absent index class place gap k at = by (nat_lt k place) refl
  where
    d : ClassPlace
    d = record { class = Rest; entry = 0 }

    clash : class_cmp class class ≡ Less → ⊥
    clash m = let n : Equal ≡ Less = sym (tied_itself class_total class) ∙ m in cc

    by : (v : Bool) → nat_lt k place ≡ v → ⊥
    by true t = clash (ap (λ c. class_cmp c class) (sym (at.1 d))
        ∙ gap.1 k d (omega arith) (ltb-true k place t))
    by false f = clash (ap (λ c. class_cmp class c) (sym (at.1 d))
        ∙ gap.2 k d (ltb-false k place f) at.0)
