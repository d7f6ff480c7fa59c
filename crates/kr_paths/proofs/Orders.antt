-- Entries in the order of their paths.
use Rattle.std.proofs.Common.{◌≡◌, ℕ, Bool, true, false, List, [], ◌∷◌, ◌++◌, Option, None, Some, refl, sym, ap, subst, ◌∙◌}
use Rattle.std.specs.Prelude.{cond}
use Rattle.std.specs.List.{AllByRecursion}
use Rattle.std.specs.List.Sorted.{IsStrictlySortedBy}
use Rattle.std.specs.Map.{keys_of, lookup, remove_entry}
use Rattle.std.specs.BTreeMap.{insert_entry, is_at}
use Rattle.std.specs.Ordering.{nat_cmp, is_eq, match_ordering, ordering_reverse}
use Rattle.std.specs.declared.cmp.Ordering.{Ordering}
use Rattle.std.specs.declared.cmp.Ordering.TheVariants.{Less, Equal, Greater}
use Rattle.std.specs.Cmp.{IsTotalOrder}
use Rattle.std.specs.Cmp.Lexicographic.{slice_cmp, nat_list_cmp_total}
use Rattle.std.proofs.lemmas.Map.Text.{is_eq-slice_cmp}
use Rattle.std.proofs.lemmas.Slice.Eq.{bytes_eq-Decides}
use Rattle.kr_paths.specs.Paths.{path_cmp, AreSorted}
use Rattle.kr_paths.specs.inner.Parts.{Entries, AllBelow, AllAbove}

abbrev total : IsTotalOrder (slice_cmp nat_cmp)
total = nat_list_cmp_total

turned : (a b : List ℕ) → path_cmp a b ≡ Greater → path_cmp b a ≡ Less
turned a b h = total.antisymm b a ∙ ap ordering_reverse h

turned_back : (a b : List ℕ) → path_cmp a b ≡ Less → path_cmp b a ≡ Greater
turned_back a b h = total.antisymm b a ∙ ap ordering_reverse h

pub same : (a b : List ℕ) → path_cmp a b ≡ Equal → a ≡ b
same a b h = (bytes_eq-Decides a b).0 (sym (is_eq-slice_cmp a b) ∙ ap is_eq h)

is_equal : (r : Ordering) → is_eq r ≡ true → r ≡ Equal
is_equal Less h = cc
is_equal Equal h = refl
is_equal Greater h = cc

pub itself : (a : List ℕ) → path_cmp a a ≡ Equal
itself a = is_equal (path_cmp a a) (is_eq-slice_cmp a a ∙ (bytes_eq-Decides a a).1 refl)

-- below an entry that isn't above the path are all before it
lower : (path x e : List ℕ) → path_cmp x e ≡ Less → (path_cmp path e ≡ Less → ⊥) → path_cmp path x ≡ Greater
lower path x e below not = by (path_cmp path e) refl
  where
    by : (r : Ordering) → path_cmp path e ≡ r → path_cmp path x ≡ Greater
    by Less h = absurd (not h)
    by Equal h = turned_back x path (subst (λ p. path_cmp x p ≡ Less) (sym (same path e h)) below)
    by Greater h = turned_back x path (total.trans x e path below (turned path e h))

at_seam : (P : List ℕ → Type 0) (xs : Entries) (e : List ℕ × ℕ) (ys : Entries) → AllByRecursion P (keys_of (xs ++ e ∷ ys)) → P e.0
at_seam P [] e ys all = all.0
at_seam P (x ∷ xs) e ys all = at_seam P xs e ys all.1

pub all_below : (path : List ℕ) (xs : Entries) (e : List ℕ × ℕ) (ys : Entries) → AreSorted (xs ++ e ∷ ys) → (path_cmp path e.0 ≡ Less → ⊥) → AllBelow path xs
unfolding IsStrictlySortedBy
all_below path [] e ys s h = tt
all_below path (x ∷ xs) e ys s h = (lower path x.0 e.0 (at_seam (λ y. path_cmp x.0 y ≡ Less) xs e ys s.0) h, all_below path xs e ys s.1 h)

above_later : (path key : List ℕ) (ys : Entries) → path_cmp path key ≡ Less → AllByRecursion (λ y. path_cmp key y ≡ Less) (keys_of ys) → AllAbove path ys
above_later path key [] h all = tt
above_later path key (y ∷ ys) h all = (total.trans path key y.0 h all.0, above_later path key ys h all.1)

pub all_above : (path : List ℕ) (e : List ℕ × ℕ) (ys : Entries) → AreSorted (e ∷ ys) → path_cmp path e.0 ≡ Less → AllAbove path (e ∷ ys)
unfolding IsStrictlySortedBy
all_above path e ys s h = (h, above_later path e.0 ys h s.0)

pub above_behind : (path : List ℕ) (e : List ℕ × ℕ) (ys : Entries) → AreSorted (e ∷ ys) → path_cmp path e.0 ≡ Equal → AllAbove path ys
unfolding IsStrictlySortedBy
above_behind path e ys s h = by ys (subst (λ p. AllByRecursion (λ y. path_cmp p y ≡ Less) (keys_of ys)) (sym (same path e.0 h)) s.0)
  where
    by : (ys : Entries) → AllByRecursion (λ y. path_cmp path y ≡ Less) (keys_of ys) → AllAbove path ys
    by [] all = tt
    by (y ∷ ys) all = (all.0, by ys all.1)

pub sorted_back : (xs ys : Entries) → AreSorted (xs ++ ys) → AreSorted ys
unfolding IsStrictlySortedBy
sorted_back [] ys s = s
sorted_back (x ∷ xs) ys s = sorted_back xs ys s.1

front_keys : (P : List ℕ → Type 0) (xs ys : Entries) → AllByRecursion P (keys_of (xs ++ ys)) → AllByRecursion P (keys_of xs)
front_keys P [] ys all = tt
front_keys P (x ∷ xs) ys all = (all.0, front_keys P xs ys all.1)

pub sorted_front : (xs ys : Entries) → AreSorted (xs ++ ys) → AreSorted xs
unfolding IsStrictlySortedBy
sorted_front [] ys s = tt
sorted_front (x ∷ xs) ys s = (front_keys (λ y. path_cmp x.0 y ≡ Less) xs ys s.0, sorted_front xs ys s.1)

pub sorted_nil : AreSorted []
unfolding IsStrictlySortedBy
sorted_nil = tt

pub sorted_one : (path : List ℕ) (number : ℕ) → AreSorted ((path, number) ∷ [])
unfolding IsStrictlySortedBy
sorted_one path number = (tt, tt)

pub all_append : (P : List ℕ × ℕ → Type 0) (xs ys : Entries) → AllByRecursion P xs → AllByRecursion P ys → AllByRecursion P (xs ++ ys)
all_append P [] ys h k = k
all_append P (x ∷ xs) ys h k = (h.0, all_append P xs ys h.1 k)

-- ---- what is at the path, and what is put there and taken away

pub found_here : (path : List ℕ) (xs ys : Entries) (n : ℕ) → AllBelow path xs → lookup (is_at (path_cmp path)) (xs ++ (path, n) ∷ ys) ≡ Some n
found_here path [] ys n b = ap (λ r. cond (is_eq r) (Some n) (lookup (is_at (path_cmp path)) ys)) (itself path)
found_here path (x ∷ xs) ys n b = ap (λ r. cond (is_eq r) (Some x.1) (lookup (is_at (path_cmp path)) (xs ++ (path, n) ∷ ys))) b.0 ∙ found_here path xs ys n b.1

none_above : (path : List ℕ) (ys : Entries) → AllAbove path ys → lookup (is_at (path_cmp path)) ys ≡ None
none_above path [] a = refl
none_above path (y ∷ ys) a = ap (λ r. cond (is_eq r) (Some y.1) (lookup (is_at (path_cmp path)) ys)) a.0 ∙ none_above path ys a.1

pub found_none : (path : List ℕ) (xs ys : Entries) → AllBelow path xs → AllAbove path ys → lookup (is_at (path_cmp path)) (xs ++ ys) ≡ None
found_none path [] ys b a = none_above path ys a
found_none path (x ∷ xs) ys b a = ap (λ r. cond (is_eq r) (Some x.1) (lookup (is_at (path_cmp path)) (xs ++ ys))) b.0 ∙ found_none path xs ys b.1 a

pub put_here : (path : List ℕ) (xs ys : Entries) (m n : ℕ) → AllBelow path xs → insert_entry path_cmp (xs ++ (path, m) ∷ ys) path n ≡ xs ++ (path, n) ∷ ys
put_here path [] ys m n b = ap (λ r. match_ordering r ((path, n) ∷ (path, m) ∷ ys) ((path, n) ∷ ys) ((path, m) ∷ insert_entry path_cmp ys path n)) (itself path)
put_here path (x ∷ xs) ys m n b =
    ap (λ r. match_ordering r ((path, n) ∷ x ∷ xs ++ (path, m) ∷ ys) ((x.0, n) ∷ xs ++ (path, m) ∷ ys) (x ∷ insert_entry path_cmp (xs ++ (path, m) ∷ ys) path n)) b.0
    ∙ ap (λ l. x ∷ l) (put_here path xs ys m n b.1)

put_above : (path : List ℕ) (ys : Entries) (n : ℕ) → AllAbove path ys → insert_entry path_cmp ys path n ≡ (path, n) ∷ ys
put_above path [] n a = refl
put_above path (y ∷ ys) n a = ap (λ r. match_ordering r ((path, n) ∷ y ∷ ys) ((y.0, n) ∷ ys) (y ∷ insert_entry path_cmp ys path n)) a.0

pub put_new : (path : List ℕ) (xs ys : Entries) (n : ℕ) → AllBelow path xs → AllAbove path ys → insert_entry path_cmp (xs ++ ys) path n ≡ xs ++ (path, n) ∷ ys
put_new path [] ys n b a = put_above path ys n a
put_new path (x ∷ xs) ys n b a =
    ap (λ r. match_ordering r ((path, n) ∷ x ∷ xs ++ ys) ((x.0, n) ∷ xs ++ ys) (x ∷ insert_entry path_cmp (xs ++ ys) path n)) b.0
    ∙ ap (λ l. x ∷ l) (put_new path xs ys n b.1 a)

pub gone_here : (path : List ℕ) (xs ys : Entries) (n : ℕ) → AllBelow path xs → remove_entry (is_at (path_cmp path)) (xs ++ (path, n) ∷ ys) ≡ xs ++ ys
gone_here path [] ys n b = ap (λ r. cond (is_eq r) ys ((path, n) ∷ remove_entry (is_at (path_cmp path)) ys)) (itself path)
gone_here path (x ∷ xs) ys n b =
    ap (λ r. cond (is_eq r) (xs ++ (path, n) ∷ ys) (x ∷ remove_entry (is_at (path_cmp path)) (xs ++ (path, n) ∷ ys))) b.0
    ∙ ap (λ l. x ∷ l) (gone_here path xs ys n b.1)

gone_above : (path : List ℕ) (ys : Entries) → AllAbove path ys → remove_entry (is_at (path_cmp path)) ys ≡ ys
gone_above path [] a = refl
gone_above path (y ∷ ys) a = ap (λ r. cond (is_eq r) ys (y ∷ remove_entry (is_at (path_cmp path)) ys)) a.0 ∙ ap (λ l. y ∷ l) (gone_above path ys a.1)

pub gone_none : (path : List ℕ) (xs ys : Entries) → AllBelow path xs → AllAbove path ys → remove_entry (is_at (path_cmp path)) (xs ++ ys) ≡ xs ++ ys
gone_none path [] ys b a = gone_above path ys a
gone_none path (x ∷ xs) ys b a =
    ap (λ r. cond (is_eq r) (xs ++ ys) (x ∷ remove_entry (is_at (path_cmp path)) (xs ++ ys))) b.0 ∙ ap (λ l. x ∷ l) (gone_none path xs ys b.1 a)

-- ---- both keep the order

keys_put : (P : List ℕ → Type 0) (es : Entries) (path : List ℕ) (n : ℕ) → AllByRecursion P (keys_of es) → P path → AllByRecursion P (keys_of (insert_entry path_cmp es path n))
keys_put P [] path n all p = (p, tt)
keys_put P (e ∷ es) path n all p = by (path_cmp path e.0) (keys_put P es path n all.1 p)
  where
    by : (r : Ordering) → AllByRecursion P (keys_of (insert_entry path_cmp es path n)) → AllByRecursion P (keys_of (match_ordering r ((path, n) ∷ e ∷ es) ((e.0, n) ∷ es) (e ∷ insert_entry path_cmp es path n)))
    by Less rest = (p, all)
    by Equal rest = all
    by Greater rest = (all.0, rest)

above_keys : (path key : List ℕ) (es : Entries) → path_cmp path key ≡ Less → AllByRecursion (λ y. path_cmp key y ≡ Less) (keys_of es) → AllByRecursion (λ y. path_cmp path y ≡ Less) (keys_of es)
above_keys path key [] h all = tt
above_keys path key (e ∷ es) h all = (total.trans path key e.0 h all.0, above_keys path key es h all.1)

pub sorted_put : (es : Entries) (path : List ℕ) (n : ℕ) → AreSorted es → AreSorted (insert_entry path_cmp es path n)
unfolding IsStrictlySortedBy
sorted_put [] path n s = (tt, tt)
sorted_put (e ∷ es) path n s = by (path_cmp path e.0) refl (sorted_put es path n s.1)
  where
    by : (r : Ordering) → path_cmp path e.0 ≡ r → AreSorted (insert_entry path_cmp es path n) → AreSorted (match_ordering r ((path, n) ∷ e ∷ es) ((e.0, n) ∷ es) (e ∷ insert_entry path_cmp es path n))
    by Less h rest = ((h, above_keys path e.0 es h s.0), s)
    by Equal h rest = s
    by Greater h rest = (keys_put (λ y. path_cmp e.0 y ≡ Less) es path n s.0 (turned path e.0 h), rest)

keys_gone : (P : List ℕ → Type 0) (es : Entries) (test : List ℕ → Bool) → AllByRecursion P (keys_of es) → AllByRecursion P (keys_of (remove_entry test es))
keys_gone P [] test all = tt
keys_gone P (e ∷ es) test all = by (test e.0) (keys_gone P es test all.1)
  where
    by : (v : Bool) → AllByRecursion P (keys_of (remove_entry test es)) → AllByRecursion P (keys_of (cond v es (e ∷ remove_entry test es)))
    by true rest = all.1
    by false rest = (all.0, rest)

pub sorted_gone : (es : Entries) (test : List ℕ → Bool) → AreSorted es → AreSorted (remove_entry test es)
unfolding IsStrictlySortedBy
sorted_gone [] test s = tt
sorted_gone (e ∷ es) test s = by (test e.0) (sorted_gone es test s.1)
  where
    by : (v : Bool) → AreSorted (remove_entry test es) → AreSorted (cond v es (e ∷ remove_entry test es))
    by true rest = s.1
    by false rest = (keys_gone (λ y. path_cmp e.0 y ≡ Less) es test s.0, rest)
