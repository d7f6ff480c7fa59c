-- Pairs sorted by their keys, and where a key stands among them.
use Rattle.std.proofs.Common.{◌≡◌, ℕ, zero, suc, ◌<◌, ◌≤◌, List, [], ◌∷◌, length, get_or, Bool, true, false, refl, sym, ◌∙◌, ap, subst, arith, ◌+◌}
use Rattle.std.specs.Prelude.{slice_set}
use Rattle.std.specs.declared.cmp.Ordering.{Ordering}
use Rattle.std.specs.declared.cmp.Ordering.TheVariants.{Less, Equal, Greater}
use Rattle.std.specs.Ordering.{nat_cmp, is_gt, is_eq, match_ordering, ordering_reverse}
use Rattle.std.specs.Cmp.{IsTotalOrder}
use Rattle.std.specs.Cmp.Lexicographic.{slice_cmp, nat_list_cmp_total}
use Rattle.std.specs.List.{AllByRecursion, insert}
use Rattle.std.specs.List.Sorted.{IsStrictlySortedBy, IsPartitionedBy}
use Rattle.std.specs.Map.{keys_of}
use Rattle.std.proofs.lemmas.Map.Text.{is_eq-slice_cmp}
use Rattle.std.proofs.lemmas.Slice.Eq.{bytes_eq-Decides}
use Rattle.std.proofs.lemmas.List.{get_or_default}
use Rattle.std.specs.Prelude.{Ok, Err}
use Rattle.kr_base.specs.Pairs.{Pairs, IsSortedByKey, with_pair}
use Rattle.kr_base.specs.inner.Places.{IsPlaceOf}

abbrev compare : List ℕ → List ℕ → Ordering
compare = slice_cmp nat_cmp

abbrev total : IsTotalOrder (slice_cmp nat_cmp)
total = nat_list_cmp_total

-- a greater key's order the other way round
turned : (a b : List ℕ) → compare a b ≡ Greater → compare b a ≡ Less
turned a b h = total.antisymm b a ∙ ap ordering_reverse h

turned_back : (a b : List ℕ) → compare a b ≡ Less → compare b a ≡ Greater
turned_back a b h = total.antisymm b a ∙ ap ordering_reverse h

is_greater : (r : Ordering) → is_gt r ≡ true → r ≡ Greater
is_greater Less h = cc
is_greater Equal h = cc
is_greater Greater h = refl

-- one step of putting a pair
step : (e : List ℕ × List ℕ) (es : Pairs) (key value : List ℕ) (r : Ordering) → compare key e.0 ≡ r
    → with_pair (e ∷ es) key value ≡ match_ordering r ((key, value) ∷ e ∷ es) ((e.0, value) ∷ es) (e ∷ with_pair es key value)
step e es key value r h = ap (λ o. match_ordering o ((key, value) ∷ e ∷ es) ((e.0, value) ∷ es) (e ∷ with_pair es key value)) h

-- what holds of each key holds at each place
key_at : (P : List ℕ → Type 0) (es : Pairs) → AllByRecursion P (keys_of es) → (j : ℕ) (d : List ℕ × List ℕ) → j < length es → P (get_or es j d).0
key_at P [] all j d h = absurd (omega arith)
key_at P (e ∷ es) all zero d h = all.0
key_at P (e ∷ es) all (suc j) d h = key_at P es all.1 j d (omega arith)

-- the keys that are less stand before the others
pub partitioned : (key : List ℕ) (es : Pairs) → IsSortedByKey es → IsPartitionedBy (λ e. is_gt (compare key e.0)) es
unfolding IsStrictlySortedBy
partitioned key (e ∷ es) s zero zero d ij h g = g
partitioned key (e ∷ es) s zero (suc j) d ij h g =
    let after : List ℕ = (get_or es j d).0 in
    let below : compare e.0 after ≡ Less = key_at (λ k. compare e.0 k ≡ Less) es s.0 j d (omega arith) in
    let under : compare after key ≡ Less = turned key after (is_greater (compare key after) g) in
    ap is_gt (turned_back e.0 key (total.trans e.0 after key below under))
partitioned key (e ∷ es) s (suc i) (suc j) d ij h g = partitioned key es s.1 i j d (omega arith) (omega arith) g
partitioned key other s i j d ij h g = absurd (omega arith)

is_equal : (r : Ordering) → is_eq r ≡ true → r ≡ Equal
is_equal Less h = cc
is_equal Equal h = refl
is_equal Greater h = cc

equal_key : (key other : List ℕ) → is_eq (compare key other) ≡ true → (compare key other ≡ Equal) × (key ≡ other)
equal_key key other h = (is_equal (compare key other) h, (bytes_eq-Decides key other).0 (sym (is_eq-slice_cmp key other) ∙ h))

-- the pair of the key takes the value
pub replaced : (key value : List ℕ) (es : Pairs) (at : ℕ) (d : List ℕ × List ℕ) → at < length es → ((k : ℕ) (d : List ℕ × List ℕ) → 0 ≤ k → k < at → is_gt (compare key (get_or es k d).0) ≡ true)
    → is_eq (compare key (get_or es at d).0) ≡ true → slice_set es at (key, value) ≡ with_pair es key value
replaced key value [] at d h before same = absurd (omega arith)
replaced key value (e ∷ es) zero d h before same =
    let eq = equal_key key e.0 same in
    ap (λ k. (k, value) ∷ es) eq.1 ∙ sym (step e es key value Equal eq.0)
replaced key value (e ∷ es) (suc at) d h before same =
    ap (λ l. e ∷ l) (replaced key value es at d (omega arith) (λ k c z l. before (suc k) c (omega arith) (omega arith)) same)
    ∙ sym (step e es key value Greater (is_greater (compare key e.0) (before 0 e (omega arith) (omega arith))))

pub not_greater : (r : Ordering) → is_gt r ≡ false → is_eq r ≡ false → r ≡ Less
not_greater Less g e = refl
not_greater Equal g e = cc
not_greater Greater g e = cc

-- a new pair goes before the first greater key
pub added : (key value : List ℕ) (es : Pairs) (at : ℕ) → at ≤ length es → ((k : ℕ) (d : List ℕ × List ℕ) → 0 ≤ k → k < at → is_gt (compare key (get_or es k d).0) ≡ true)
    → ((d : List ℕ × List ℕ) → at < length es → compare key (get_or es at d).0 ≡ Less) → insert es at (key, value) ≡ with_pair es key value
added key value [] zero h before next = refl
added key value [] (suc at) h before next = absurd (omega arith)
added key value (e ∷ es) zero h before next = sym (step e es key value Less (next e (omega arith)))
added key value (e ∷ es) (suc at) h before next =
    ap (λ l. e ∷ l) (added key value es at (omega arith) (λ k c z l. before (suc k) c (omega arith) (omega arith)) (λ d l. next d (omega arith)))
    ∙ sym (step e es key value Greater (is_greater (compare key e.0) (before 0 e (omega arith) (omega arith))))

all_below : (P : List ℕ → Type 0) (es : Pairs) (key value : List ℕ) → AllByRecursion P (keys_of es) → P key → AllByRecursion P (keys_of (with_pair es key value))
all_below P [] key value all p = (p, tt)
all_below P (e ∷ es) key value all p = subst (λ l. AllByRecursion P (keys_of l)) (sym (step e es key value (compare key e.0) refl)) (by (compare key e.0) (all_below P es key value all.1 p))
  where
    by : (r : Ordering) → AllByRecursion P (keys_of (with_pair es key value)) → AllByRecursion P (keys_of (match_ordering r ((key, value) ∷ e ∷ es) ((e.0, value) ∷ es) (e ∷ with_pair es key value)))
    by Less rest = (p, all)
    by Equal rest = all
    by Greater rest = (all.0, rest)

above_all : (key k : List ℕ) (es : Pairs) → compare key k ≡ Less → AllByRecursion (λ y. compare k y ≡ Less) (keys_of es) → AllByRecursion (λ y. compare key y ≡ Less) (keys_of es)
above_all key k [] h all = tt
above_all key k (e ∷ es) h all = (total.trans key k e.0 h all.0, above_all key k es h all.1)

pub sorted-with_pair : (es : Pairs) (key value : List ℕ) → IsSortedByKey es → IsSortedByKey (with_pair es key value)
unfolding IsStrictlySortedBy
sorted-with_pair [] key value s = (tt, tt)
sorted-with_pair (e ∷ es) key value s = subst IsSortedByKey (sym (step e es key value (compare key e.0) refl)) (by (compare key e.0) refl (sorted-with_pair es key value s.1))
  where
    by : (r : Ordering) → compare key e.0 ≡ r → IsSortedByKey (with_pair es key value) → IsSortedByKey (match_ordering r ((key, value) ∷ e ∷ es) ((e.0, value) ∷ es) (e ∷ with_pair es key value))
    by Less h rest = ((h, above_all key e.0 es h s.0), s)
    by Equal h rest = s
    by Greater h rest = (all_below (λ y. compare e.0 y ≡ Less) es key value s.0 (turned key e.0 h), rest)

pub sorted_nil : IsSortedByKey []
unfolding IsStrictlySortedBy
sorted_nil = tt

-- a search among sorted pairs: the keys before low are less than the key, and those from high on
-- aren't
pub record Between (key : List ℕ) (es : Pairs) (low high : ℕ) : Type 0 where
  pub sorted : IsSortedByKey es
  pub ordered : low ≤ high
  pub within : high ≤ length es
  pub lesser : (k : ℕ) (d : List ℕ × List ℕ) → 0 ≤ k → k < low → is_gt (compare key (get_or es k d).0) ≡ true
  pub others : (k : ℕ) (d : List ℕ × List ℕ) → high ≤ k → k < length es → is_gt (compare key (get_or es k d).0) ≡ false

pub begun : (key : List ℕ) (es : Pairs) → IsSortedByKey es → Between key es 0 (length es)
begun key es s = record { sorted = s; ordered = omega arith; within = omega arith; lesser = λ k d z h. absurd (omega arith); others = λ k d h l. absurd (omega arith) }

not_both : (r : Bool) → r ≡ true → r ≡ false → ⊥
not_both true h g = cc
not_both false h g = cc

to_false : (r : Bool) → (r ≡ true → ⊥) → r ≡ false
to_false true h = absurd (h refl)
to_false false h = refl

pub above_middle : (key : List ℕ) (es : Pairs) (low high middle : ℕ) (e : List ℕ × List ℕ) → Between key es low high → low ≤ middle → middle < high → is_gt (compare key (get_or es middle e).0) ≡ true → Between key es (middle + 1) high
above_middle key es low high middle e b l h g = record {
  sorted = b.sorted;
  ordered = omega arith;
  within = b.within;
  others = b.others;
  lesser = λ k d z m. partitioned key es b.sorted k middle d (omega arith) (omega (arith, b.within)) (ap (λ p. is_gt (compare key p.0)) (get_or_default es middle d e (omega (arith, b.within))) ∙ g);
}

pub below_middle : (key : List ℕ) (es : Pairs) (low high middle : ℕ) (e : List ℕ × List ℕ) → Between key es low high → low ≤ middle → middle < high → is_gt (compare key (get_or es middle e).0) ≡ false → Between key es low middle
below_middle key es low high middle e b l h g = record {
  sorted = b.sorted;
  ordered = l;
  within = omega (arith, b.within);
  lesser = b.lesser;
  others = λ k d m n. to_false _ (λ t. not_both _ (partitioned key es b.sorted middle k d m n t) (ap (λ p. is_gt (compare key p.0)) (get_or_default es middle d e (omega (arith, b.within))) ∙ g));
}

pub placed_end : (key : List ℕ) (es : Pairs) (low high : ℕ) → Between key es low high → high ≤ low → low ≡ length es → IsPlaceOf es key (Err low)
placed_end key es low high b h e = (omega arith, λ value. added key value es low (omega arith) b.lesser (λ d l. absurd (omega arith)))

pub placed_equal : (key : List ℕ) (es : Pairs) (low high : ℕ) (e : List ℕ × List ℕ) → Between key es low high → high ≤ low → (low ≡ length es → ⊥) → is_eq (compare key (get_or es low e).0) ≡ true → IsPlaceOf es key (Ok low)
placed_equal key es low high e b h n q =
    let within : low < length es = omega (arith, b.within, b.ordered, n) in
    (within, λ value. replaced key value es low e within b.lesser q)

pub placed_before : (key : List ℕ) (es : Pairs) (low high : ℕ) (e : List ℕ × List ℕ) → Between key es low high → high ≤ low → is_eq (compare key (get_or es low e).0) ≡ false → IsPlaceOf es key (Err low)
placed_before key es low high e b h q = (
  omega (arith, b.within, b.ordered),
  λ value. added key value es low (omega (arith, b.within, b.ordered)) b.lesser
      (λ d l. not_greater _ (b.others low d (omega arith) l) (ap (λ p. is_eq (compare key p.0)) (get_or_default es low d e l) ∙ q)),
)
