-- The classes of some settings in their order are their table, and what comes next in it.
use Rattle.std.proofs.Common.{◌≡◌, ◌≢◌, Bool, true, false, List, [], ◌∷◌, Option, None, Some, All, Contains, refl, sym, ap, subst, ◌∙◌, ◌⊎◌, inl, inr, arith}
use Rattle.std.specs.List.{AllByRecursion, filter, flat_map}
use Rattle.std.specs.Prelude.{cond, IsTrue, ◌↔◌}
use Rattle.std.specs.List.Sorted.{IsStrictlySortedBy}
use Rattle.std.specs.Ordering.{match_ordering, ordering_reverse, is_eq, is_lt}
use Rattle.std.specs.declared.cmp.Ordering.{Ordering}
use Rattle.std.specs.declared.cmp.Ordering.TheVariants.{Less, Equal, Greater}
use Rattle.std.proofs.lemmas.Map.Text.{is_eq-slice_cmp}
use Rattle.std.proofs.lemmas.Slice.Eq.{bytes_eq-Decides}
use Rattle.std.proofs.lemmas.Cmp.{tied_itself}
use Rattle.std.specs.BTreeSet.{BTreeSet, insert_key, contains}
use Rattle.std.proofs.lemmas.Map.Lookups.{btree_set_from_contains}
use Rattle.std.proofs.lemmas.Map.Views.{btree_set_contains_iff}
use Rattle.std.proofs.lemmas.List.Elements.{All-head, All-tail}
use Rattle.kr_config.specs.declared.class.Class.{Class}
use Rattle.kr_config.specs.declared.class.Class.TheVariants.{Exact, Group, Rest}
use Rattle.kr_config.specs.Kept.{ConfigEntry}
use Rattle.kr_config.specs.Classes.{class_cmp, classes_in, IsTableOf}
use Rattle.kr_config.specs.Nexts.{comes_after, IsNextClass}
use Rattle.kr_config.proofs.Orders.{class_total}
use Rattle.kr_judge.specs.Tables.{in_order, table_of}
use Rattle.kr_judge.specs.Laws.{TableComputes}
use Rattle.kr_config.proofs.ListParts.{there, cases}
use Rattle.kr_judge.proofs.Lists.{head_is, one_truth}

equal_class : (a b : Class) → class_cmp a b ≡ Equal → a ≡ b
equal_class (Exact a) (Exact b) h = ap Exact ((bytes_eq-Decides a b).0 (sym (is_eq-slice_cmp a b) ∙ ap is_eq h))
equal_class (Group a) (Group b) h = ap Group ((bytes_eq-Decides a b).0 (sym (is_eq-slice_cmp a b) ∙ ap is_eq h))
equal_class Rest Rest h = refl
equal_class other another h = cc

-- members
put_to : (c : Class) (cs : List Class) (x : Class) → Contains (insert_key class_cmp cs c) x → Contains (c ∷ cs) x
put_to c [] x h = h
put_to c (o ∷ os) x h = by (class_cmp c o) (put_to c os x) h
  where
    by : (r : Ordering) → (Contains (insert_key class_cmp os c) x → Contains (c ∷ os) x) → Contains (match_ordering r (c ∷ o ∷ os) (o ∷ os) (o ∷ insert_key class_cmp os c)) x → Contains (c ∷ o ∷ os) x
    by Less rest k = k
    by Equal rest k = there c x (o ∷ os) k
    by Greater rest k = elim (cases o x (insert_key class_cmp os c) k) [
      | inl e ↦ there c x (o ∷ os) (head_is o x os e)
      | inr m ↦ elim (cases c x os (rest m)) [ inl e ↦ head_is c x (o ∷ os) e | inr n ↦ there c x (o ∷ os) (there o x os n) ]
    ]

put_from : (c : Class) (cs : List Class) (x : Class) → Contains (c ∷ cs) x → Contains (insert_key class_cmp cs c) x
put_from c [] x h = h
put_from c (o ∷ os) x h = by (class_cmp c o) refl (put_from c os x) h
  where
    by : (r : Ordering) → class_cmp c o ≡ r → (Contains (c ∷ os) x → Contains (insert_key class_cmp os c) x) → Contains (c ∷ o ∷ os) x → Contains (match_ordering r (c ∷ o ∷ os) (o ∷ os) (o ∷ insert_key class_cmp os c)) x
    by Less h rest k = k
    by Equal h rest k = elim (cases c x (o ∷ os) k) [ inl e ↦ head_is o x os (sym (equal_class c o h) ∙ e) | inr m ↦ m ]
    by Greater h rest k = elim (cases c x (o ∷ os) k) [
      | inl e ↦ there o x (insert_key class_cmp os c) (rest (head_is c x os e))
      | inr m ↦ elim (cases o x os m) [ inl e ↦ head_is o x (insert_key class_cmp os c) e | inr n ↦ there o x (insert_key class_cmp os c) (rest (there c x os n)) ]
    ]

order_to : (cs : List Class) (x : Class) → Contains (in_order cs) x → Contains cs x
order_to [] x h = h
order_to (c ∷ cs) x h = elim (cases c x (in_order cs) (put_to c (in_order cs) x h)) [ inl e ↦ head_is c x cs e | inr m ↦ there c x cs (order_to cs x m) ]

order_from : (cs : List Class) (x : Class) → Contains cs x → Contains (in_order cs) x
order_from [] x h = h
order_from (c ∷ cs) x h = put_from c (in_order cs) x (elim (cases c x cs h) [ inl e ↦ head_is c x (in_order cs) e | inr m ↦ there c x (in_order cs) (order_from cs x m) ])

-- their order
abbrev Above : Class → List Class → Type 0
Above c cs = AllByRecursion (λ other. class_cmp c other ≡ Less) cs

above_put : (c new : Class) (cs : List Class) → Above c cs → class_cmp c new ≡ Less → Above c (insert_key class_cmp cs new)
above_put c new [] all h = (h, tt)
above_put c new (o ∷ os) all h = by (class_cmp new o) (above_put c new os all.1 h)
  where
    by : (r : Ordering) → Above c (insert_key class_cmp os new) → Above c (match_ordering r (new ∷ o ∷ os) (o ∷ os) (o ∷ insert_key class_cmp os new))
    by Less rest = (h, all)
    by Equal rest = all
    by Greater rest = (all.0, rest)

above_further : (c d : Class) (cs : List Class) → class_cmp c d ≡ Less → Above d cs → Above c cs
above_further c d [] h all = tt
above_further c d (o ∷ os) h all = (class_total.trans c d o h all.0, above_further c d os h all.1)

put_sorted : (c : Class) (cs : List Class) → IsStrictlySortedBy class_cmp cs → IsStrictlySortedBy class_cmp (insert_key class_cmp cs c)
unfolding IsStrictlySortedBy
put_sorted c [] s = (tt, tt)
put_sorted c (o ∷ os) s = by (class_cmp c o) refl (put_sorted c os s.1)
  where
    by : (r : Ordering) → class_cmp c o ≡ r → IsStrictlySortedBy class_cmp (insert_key class_cmp os c) → IsStrictlySortedBy class_cmp (match_ordering r (c ∷ o ∷ os) (o ∷ os) (o ∷ insert_key class_cmp os c))
    by Less h rest = ((h, above_further c o os h s.0), s)
    by Equal h rest = s
    by Greater h rest = (above_put o c os s.0 (class_total.antisymm o c ∙ ap ordering_reverse h), rest)

order_sorted : (cs : List Class) → IsStrictlySortedBy class_cmp (in_order cs)
unfolding IsStrictlySortedBy
order_sorted [] = tt
order_sorted (c ∷ cs) = put_sorted c (in_order cs) (order_sorted cs)

pub is_table : (added : List (List ConfigEntry)) → IsTableOf added (table_of added)
unfolding table_of
is_table added = record {
  ascends = order_sorted (Rest ∷ flat_map classes_in added);
  members = λ class. (order_to (Rest ∷ flat_map classes_in added) class, order_from (Rest ∷ flat_map classes_in added) class);
}

-- two tables of the same settings have the same members in the same order
one_table : (added : List (List ConfigEntry)) (one other : List Class) → IsTableOf added one → IsTableOf added other → one ≡ other
one_table added one other a b =
    let s : BTreeSet Class = record { keys = one } in
    let t : BTreeSet Class = record { keys = other } in
    let in_one : (q : Class) → IsTrue (contains class_cmp s q) ↔ Contains one q = btree_set_contains_iff class_total equal_class s in
    let in_other : (q : Class) → IsTrue (contains class_cmp t q) ↔ Contains other q = btree_set_contains_iff class_total equal_class t in
    btree_set_from_contains class_total s t a.ascends b.ascends
    (λ q. one_truth (contains class_cmp s q) (contains class_cmp t q)
    (λ h. (in_other q).1 ((b.members q).1 ((a.members q).0 ((in_one q).0 h))))
    (λ h. (in_one q).1 ((a.members q).1 ((b.members q).0 ((in_other q).0 h)))))
    equal_class

pub table_computes : TableComputes
table_computes added classes = (
  λ table. one_table added classes (table_of added) table (is_table added),
  λ e. subst (IsTableOf added) (sym e) (is_table added),
)

pub table_sorted : (added : List (List ConfigEntry)) → IsStrictlySortedBy class_cmp (table_of added)
table_sorted added = (is_table added).ascends

-- what comes after a class
abbrev pub rest_after : Option Class → List Class → List Class
rest_after None classes = classes
rest_after (Some after) classes = filter (comes_after (Some after)) classes

all_after : (test : Class → Bool) (cs : List Class) → AllByRecursion (λ c. test c ≡ true) cs → filter test cs ≡ cs
all_after test [] all = refl
all_after test (c ∷ cs) all = by (test c) all.0 (all_after test cs all.1)
  where
    by : (v : Bool) → v ≡ true → filter test cs ≡ cs → cond v (c ∷ filter test cs) (filter test cs) ≡ c ∷ cs
    by true h e = ap (λ l. c ∷ l) e
    by false h e = cc

lt_of : (a b : Class) → class_cmp a b ≡ Less → is_lt (class_cmp a b) ≡ true
lt_of a b h = ap is_lt h

behind : (after : Option Class) (c d : Class) → comes_after after c ≡ true → class_cmp c d ≡ Less → comes_after after d ≡ true
behind None c d h l = refl
behind (Some a) c d h l = lt_of a d (class_total.trans a c d (less (class_cmp a c) h) l)
  where
    less : (o : Ordering) → is_lt o ≡ true → o ≡ Less
    less Less h = refl
    less Equal h = cc
    less Greater h = cc

all_behind : (after : Option Class) (c : Class) (cs : List Class) → comes_after after c ≡ true → Above c cs → AllByRecursion (λ d. comes_after after d ≡ true) cs
all_behind after c [] h all = tt
all_behind after c (d ∷ ds) h all = (behind after c d h all.0, all_behind after c ds h all.1)

all_above : (c : Class) (cs : List Class) → Above c cs → AllByRecursion (λ d. comes_after (Some c) d ≡ true) cs
all_above c [] all = tt
all_above c (d ∷ ds) all = (lt_of c d all.0, all_above c ds all.1)

at_member : (P : Class → Type 0) (cs : List Class) (x : Class) → AllByRecursion P cs → Contains cs x → P x
at_member P [] x all h = absurd (omega (arith, h.1))
at_member P (c ∷ cs) x all h = elim (cases c x cs h) [ inl e ↦ subst P e all.0 | inr m ↦ at_member P cs x all.1 m ]

not_itself : (c : Class) → comes_after (Some c) c ≡ false
not_itself c = ap is_lt (tied_itself class_total c)

not_back : (d c : Class) → class_cmp d c ≡ Less → comes_after (Some c) d ≡ false
not_back d c h = ap is_lt (class_total.antisymm c d ∙ ap ordering_reverse h)

drop_head : (test : Class → Bool) (d : Class) (ds : List Class) → test d ≡ false → filter test (d ∷ ds) ≡ filter test ds
drop_head test d ds h = ap (λ v. cond v (d ∷ filter test ds) (filter test ds)) h

keep_head : (test : Class → Bool) (d : Class) (ds : List Class) → test d ≡ true → filter test (d ∷ ds) ≡ d ∷ filter test ds
keep_head test d ds h = ap (λ v. cond v (d ∷ filter test ds) (filter test ds)) h

step_at : (cs : List Class) (after : Option Class) (c : Class) → IsStrictlySortedBy class_cmp cs → IsNextClass cs after (Some c)
    → filter (comes_after after) cs ≡ c ∷ filter (comes_after (Some c)) cs
unfolding IsStrictlySortedBy
step_at [] after c s h = absurd (omega (arith, h.0.1))
step_at (d ∷ ds) after c s h = by (comes_after after d) refl (cases d c ds h.0) (step_at ds after c s.1)
  where
    by : (v : Bool) → comes_after after d ≡ v → (d ≡ c) ⊎ Contains ds c → (IsNextClass ds after (Some c) → filter (comes_after after) ds ≡ c ∷ filter (comes_after (Some c)) ds)
        → filter (comes_after after) (d ∷ ds) ≡ c ∷ filter (comes_after (Some c)) (d ∷ ds)
    by true t (inl e) rest = subst (λ x. filter (comes_after after) (d ∷ ds) ≡ x ∷ filter (comes_after (Some x)) (d ∷ ds)) e
        (keep_head (comes_after after) d ds t ∙ ap (λ l. d ∷ l) (all_after (comes_after after) ds (all_behind after d ds t s.0))
        ∙ ap (λ l. d ∷ l) (sym (drop_head (comes_after (Some d)) d ds (not_itself d) ∙ all_after (comes_after (Some d)) ds (all_above d ds s.0))))
    by true t (inr m) rest = absurd (All-head (λ x. comes_after after x ≡ true → class_cmp x c ≢ Less) d ds h.2 t (at_member (λ x. class_cmp d x ≡ Less) ds c s.0 m))
    by false t (inl e) rest = absurd (let k : true ≡ false = sym h.1 ∙ ap (comes_after after) (sym e) ∙ t in cc)
    by false t (inr m) rest = drop_head (comes_after after) d ds t
        ∙ rest (m, h.1, All-tail (λ x. comes_after after x ≡ true → class_cmp x c ≢ Less) d ds h.2)
        ∙ ap (λ l. c ∷ l) (sym (drop_head (comes_after (Some c)) d ds (not_back d c (at_member (λ x. class_cmp d x ≡ Less) ds c s.0 m))))

none_at : (test : Class → Bool) (cs : List Class) → All (λ c. test c ≡ false) cs → filter test cs ≡ []
none_at test [] h = refl
none_at test (c ∷ cs) h = drop_head test c cs (All-head (λ x. test x ≡ false) c cs h) ∙ none_at test cs (All-tail (λ x. test x ≡ false) c cs h)

all_true : (cs : List Class) → filter (comes_after None) cs ≡ cs
all_true [] = refl
all_true (c ∷ cs) = ap (λ l. c ∷ l) (all_true cs)

after_is : (after : Option Class) (cs : List Class) → rest_after after cs ≡ filter (comes_after after) cs
after_is None cs = sym (all_true cs)
after_is (Some c) cs = refl

pub next_step : (cs : List Class) (after : Option Class) (c : Class) → IsStrictlySortedBy class_cmp cs → IsNextClass cs after (Some c) → rest_after after cs ≡ c ∷ rest_after (Some c) cs
next_step cs after c s h = after_is after cs ∙ step_at cs after c s h

pub next_none : (cs : List Class) (after : Option Class) → IsNextClass cs after None → rest_after after cs ≡ []
next_none cs after h = after_is after cs ∙ none_at (comes_after after) cs h
