-- Paths with the places of their pairs, and the paths of one pair.
use Rattle.std.proofs.Common.{◌≡◌, ℕ, Bool, true, false, List, [], ◌∷◌, Option, None, Some, Contains, map, refl, sym, ap, subst, ◌∙◌}
use Rattle.std.specs.Prelude.{◌==◌, cond, if◌then◌else◌, get_or}
use Rattle.std.specs.List.{AllByRecursion, filter}
use Rattle.std.specs.List.Sorted.{IsStrictlySortedBy}
use Rattle.std.specs.Str.{bytes_eq}
use Rattle.std.specs.Ordering.{match_ordering, is_eq}
use Rattle.std.specs.declared.cmp.Ordering.{Ordering}
use Rattle.std.specs.declared.cmp.Ordering.TheVariants.{Less, Equal, Greater}
use Rattle.std.specs.Map.{lookup, remove_entry}
use Rattle.std.specs.Set.{remove_key}
use Rattle.std.specs.BTreeMap.{insert_entry, is_at}
use Rattle.std.specs.BTreeSet.{insert_key}
use Rattle.std.proofs.lemmas.Map.Text.{is_eq-slice_cmp}
use Rattle.std.proofs.lemmas.Slice.Eq.{bytes_eq-Decides}
use Rattle.std.proofs.lemmas.Bool.Decides.{Decides-eqb}
use Rattle.std.proofs.lemmas.Cmp.{nat_list_cmp_total, tied_itself}
use Rattle.kr_config.specs.declared.who.Who.{Who}
use Rattle.kr_config.specs.declared.who.Who.TheVariants.{Identity}
use Rattle.kr_config.specs.Nexts.{name_cmp}
use Rattle.kr_judge.specs.Boards.{set_need, drop_need}
use Rattle.kr_judge.specs.inner.Indexes.{AreSorted, need_of, needs_of, paths_of}
use Rattle.kr_config.proofs.ListParts.{here, there}
use Rattle.kr_judge.proofs.Lists.{filtered_none, map_empty, one_truth}
use Rattle.kr_judge.proofs.Needs.{equal_paths}

abbrev pub Entries : Type 0
Entries = List (List ℕ × ℕ)

-- paths that are above this one
abbrev pub AreAbove : List ℕ → List (List ℕ) → Type 0
AreAbove path paths = AllByRecursion (λ other. name_cmp path other ≡ Less) paths

abbrev keys : Entries → List (List ℕ)
keys es = map (λ e. e.0) es

itself : (path : List ℕ) → name_cmp path path ≡ Equal
itself path = tied_itself nat_list_cmp_total path

pub at_itself : (path : List ℕ) → is_at (name_cmp path) path ≡ true
at_itself path = ap is_eq (itself path)

-- what was put at a key is found there
pub put_found : {V : Type 0} (es : List (List ℕ × V)) (key : List ℕ) (value : V) → lookup (is_at (name_cmp key)) (insert_entry name_cmp es key value) ≡ Some value
put_found [] key value = ap (λ v. cond v (Some value) None) (at_itself key)
put_found {V} (e ∷ es) key value = by (name_cmp key e.0) refl (put_found es key value)
  where
    find : List (List ℕ × V) → Option V
    find all = lookup (is_at (name_cmp key)) all

    by : (r : Ordering) → name_cmp key e.0 ≡ r → find (insert_entry name_cmp es key value) ≡ Some value
        → find (match_ordering r ((key, value) ∷ e ∷ es) ((e.0, value) ∷ es) (e ∷ insert_entry name_cmp es key value)) ≡ Some value
    by Less h rest = ap (λ v. cond v (Some value) (find (e ∷ es))) (at_itself key)
    by Equal h rest = ap (λ r. cond (is_eq r) (Some value) (find es)) h
    by Greater h rest = ap (λ r. cond (is_eq r) (Some e.1) (find (insert_entry name_cmp es key value))) h ∙ rest

at_turned : (path other : List ℕ) → is_at (name_cmp path) other ≡ bytes_eq other path
at_turned path other = is_eq-slice_cmp path other
    ∙ one_truth (bytes_eq path other) (bytes_eq other path) (λ h. (bytes_eq-Decides other path).1 (sym ((bytes_eq-Decides path other).0 h))) (λ h. (bytes_eq-Decides path other).1 (sym ((bytes_eq-Decides other path).0 h)))

further : (path other : List ℕ) (paths : List (List ℕ)) → name_cmp path other ≡ Less → AreAbove other paths → AreAbove path paths
further path other [] h all = tt
further path other (p ∷ ps) h all = (nat_list_cmp_total.trans path other p h all.0, further path other ps h all.1)

same_above : (path other : List ℕ) (paths : List (List ℕ)) → name_cmp path other ≡ Equal → AreAbove other paths → AreAbove path paths
same_above path other paths h all = subst (λ p. AreAbove p paths) (sym (equal_paths path other h)) all

not_at : (path other : List ℕ) → name_cmp path other ≡ Less → is_at (name_cmp path) other ≡ false
not_at path other h = ap is_eq h

-- what is put at or taken from a place before all others
insert_above : (es : Entries) (path : List ℕ) (pair : ℕ) → AreAbove path (keys es) → insert_entry name_cmp es path pair ≡ (path, pair) ∷ es
insert_above [] path pair all = refl
insert_above (e ∷ es) path pair all = ap (λ r. match_ordering r ((path, pair) ∷ e ∷ es) ((e.0, pair) ∷ es) (e ∷ insert_entry name_cmp es path pair)) all.0

remove_above : (es : Entries) (path : List ℕ) → AreAbove path (keys es) → remove_entry (is_at (name_cmp path)) es ≡ es
remove_above [] path all = refl
remove_above (e ∷ es) path all = ap (λ v. cond v es (e ∷ remove_entry (is_at (name_cmp path)) es)) (not_at path e.0 all.0) ∙ ap (λ l. e ∷ l) (remove_above es path all.1)

lookup_above : (es : Entries) (path : List ℕ) → AreAbove path (keys es) → lookup (is_at (name_cmp path)) es ≡ None
lookup_above [] path all = refl
lookup_above (e ∷ es) path all = ap (λ v. cond v (Some e.1) (lookup (is_at (name_cmp path)) es)) (not_at path e.0 all.0) ∙ lookup_above es path all.1

key_above : (xs : List (List ℕ)) (path : List ℕ) → AreAbove path xs → insert_key name_cmp xs path ≡ path ∷ xs
key_above [] path all = refl
key_above (x ∷ xs) path all = ap (λ r. match_ordering r (path ∷ x ∷ xs) (x ∷ xs) (x ∷ insert_key name_cmp xs path)) all.0

gone_above : (xs : List (List ℕ)) (path : List ℕ) → AreAbove path xs → remove_key (is_at (name_cmp path)) xs ≡ xs
gone_above [] path all = refl
gone_above (x ∷ xs) path all = ap (λ v. cond v xs (x ∷ remove_key (is_at (name_cmp path)) xs)) (not_at path x all.0) ∙ ap (λ l. x ∷ l) (gone_above xs path all.1)

-- the paths of one pair
shown : (i : ℕ) (e : List ℕ × ℕ) (es : Entries) (v : Bool) → (e.1 == i) ≡ v → paths_of i (e ∷ es) ≡ cond v (e.0 ∷ paths_of i es) (paths_of i es)
shown i e es true h = ap (λ t. map (λ x. x.0) (cond t (e ∷ filter (λ x. x.1 == i) es) (filter (λ x. x.1 == i) es))) h
shown i e es false h = ap (λ t. map (λ x. x.0) (cond t (e ∷ filter (λ x. x.1 == i) es) (filter (λ x. x.1 == i) es))) h

paths_above : (i : ℕ) (es : Entries) (path : List ℕ) → AreAbove path (keys es) → AreAbove path (paths_of i es)
paths_above i [] path all = tt
paths_above i (e ∷ es) path all = by (e.1 == i) (paths_above i es path all.1)
  where
    by : (v : Bool) → AreAbove path (paths_of i es) → AreAbove path (map (λ x. x.0) (cond v (e ∷ filter (λ x. x.1 == i) es) (filter (λ x. x.1 == i) es)))
    by true rest = (all.0, rest)
    by false rest = rest

number_itself : (n : ℕ) → (n == n) ≡ true
number_itself n = (Decides-eqb n n).1 refl

-- needs and entries
pub needs_with : (labels : List (List ℕ × Who)) (es : Entries) (path : List ℕ) (pair : ℕ) → needs_of labels (insert_entry name_cmp es path pair) ≡ set_need (needs_of labels es) (need_of labels (path, pair))
needs_with labels [] path pair = refl
needs_with labels (e ∷ es) path pair = by (name_cmp path e.0) refl (needs_with labels es path pair)
  where
    by : (r : Ordering) → name_cmp path e.0 ≡ r → needs_of labels (insert_entry name_cmp es path pair) ≡ set_need (needs_of labels es) (need_of labels (path, pair))
        → needs_of labels (match_ordering r ((path, pair) ∷ e ∷ es) ((e.0, pair) ∷ es) (e ∷ insert_entry name_cmp es path pair))
        ≡ match_ordering r (need_of labels (path, pair) ∷ need_of labels e ∷ needs_of labels es) (need_of labels (path, pair) ∷ needs_of labels es) (need_of labels e ∷ set_need (needs_of labels es) (need_of labels (path, pair)))
    by Less h rest = refl
    by Equal h rest = ap (λ p. need_of labels (p, pair) ∷ needs_of labels es) (sym (equal_paths path e.0 h))
    by Greater h rest = ap (λ l. need_of labels e ∷ l) rest

pub needs_without : (labels : List (List ℕ × Who)) (es : Entries) (path : List ℕ) → needs_of labels (remove_entry (is_at (name_cmp path)) es) ≡ drop_need (needs_of labels es) path
needs_without labels [] path = refl
needs_without labels (e ∷ es) path = by (is_at (name_cmp path) e.0) (bytes_eq e.0 path) (at_turned path e.0) (needs_without labels es path)
  where
    by : (u v : Bool) → u ≡ v → needs_of labels (remove_entry (is_at (name_cmp path)) es) ≡ drop_need (needs_of labels es) path
        → needs_of labels (cond u es (e ∷ remove_entry (is_at (name_cmp path)) es)) ≡ (if v then needs_of labels es else need_of labels e ∷ drop_need (needs_of labels es) path)
    by true true h rest = refl
    by true false h rest = cc
    by false true h rest = cc
    by false false h rest = ap (λ l. need_of labels e ∷ l) rest

-- the paths of the pair with a path that is put, and of another pair
pub paths_with : (es : Entries) (path : List ℕ) (pair : ℕ) → AreSorted es → paths_of pair (insert_entry name_cmp es path pair) ≡ insert_key name_cmp (paths_of pair es) path
unfolding IsStrictlySortedBy
paths_with [] path pair s = shown pair (path, pair) [] true (number_itself pair)
paths_with (e ∷ es) path pair s = by (name_cmp path e.0) refl (e.1 == pair) refl (paths_with es path pair s.1)
  where
    own : List (List ℕ)
    own = paths_of pair es

    by : (r : Ordering) → name_cmp path e.0 ≡ r → (v : Bool) → (e.1 == pair) ≡ v → paths_of pair (insert_entry name_cmp es path pair) ≡ insert_key name_cmp own path
        → paths_of pair (match_ordering r ((path, pair) ∷ e ∷ es) ((e.0, pair) ∷ es) (e ∷ insert_entry name_cmp es path pair)) ≡ insert_key name_cmp (paths_of pair (e ∷ es)) path
    by Less h v q rest = shown pair (path, pair) (e ∷ es) true (number_itself pair)
        ∙ sym (key_above (paths_of pair (e ∷ es)) path (paths_above pair (e ∷ es) path (h, further path e.0 (keys es) h s.0)))
    by Equal h true q rest = shown pair (e.0, pair) es true (number_itself pair)
        ∙ sym (ap (λ l. insert_key name_cmp l path) (shown pair e es true q) ∙ ap (λ r. match_ordering r (path ∷ e.0 ∷ own) (e.0 ∷ own) (e.0 ∷ insert_key name_cmp own path)) h)
    by Equal h false q rest = shown pair (e.0, pair) es true (number_itself pair) ∙ ap (λ p. p ∷ own) (sym (equal_paths path e.0 h))
        ∙ sym (ap (λ l. insert_key name_cmp l path) (shown pair e es false q) ∙ key_above own path (paths_above pair es path (same_above path e.0 (keys es) h s.0)))
    by Greater h true q rest = shown pair e (insert_entry name_cmp es path pair) true q ∙ ap (λ l. e.0 ∷ l) rest
        ∙ sym (ap (λ l. insert_key name_cmp l path) (shown pair e es true q) ∙ ap (λ r. match_ordering r (path ∷ e.0 ∷ own) (e.0 ∷ own) (e.0 ∷ insert_key name_cmp own path)) h)
    by Greater h false q rest = shown pair e (insert_entry name_cmp es path pair) false q ∙ rest ∙ sym (ap (λ l. insert_key name_cmp l path) (shown pair e es false q))

-- a path leaves the paths of a pair
gone_first : (path : List ℕ) (i : ℕ) (e : List ℕ × ℕ) (es : Entries) (v : Bool) → name_cmp path e.0 ≡ Equal → AreAbove e.0 (keys es) → (e.1 == i) ≡ v → paths_of i es ≡ remove_key (is_at (name_cmp path)) (paths_of i (e ∷ es))
gone_first path i e es true h all q = sym (ap (remove_key (is_at (name_cmp path))) (shown i e es true q)
    ∙ ap (λ u. cond u (paths_of i es) (e.0 ∷ remove_key (is_at (name_cmp path)) (paths_of i es))) (ap is_eq h))
gone_first path i e es false h all q = sym (ap (remove_key (is_at (name_cmp path))) (shown i e es false q)
    ∙ gone_above (paths_of i es) path (paths_above i es path (same_above path e.0 (keys es) h all)))

gone_later : (path : List ℕ) (i : ℕ) (e : List ℕ × ℕ) (es new : Entries) (v : Bool) → is_at (name_cmp path) e.0 ≡ false → (e.1 == i) ≡ v → paths_of i new ≡ remove_key (is_at (name_cmp path)) (paths_of i es)
    → paths_of i (e ∷ new) ≡ remove_key (is_at (name_cmp path)) (paths_of i (e ∷ es))
gone_later path i e es new true u q rest = shown i e new true q ∙ ap (λ l. e.0 ∷ l) rest
    ∙ sym (ap (remove_key (is_at (name_cmp path))) (shown i e es true q) ∙ ap (λ t. cond t (paths_of i es) (e.0 ∷ remove_key (is_at (name_cmp path)) (paths_of i es))) u)
gone_later path i e es new false u q rest = shown i e new false q ∙ rest ∙ sym (ap (remove_key (is_at (name_cmp path))) (shown i e es false q))

pub paths_beside : (es : Entries) (path : List ℕ) (pair i : ℕ) → (pair == i) ≡ false → AreSorted es → paths_of i (insert_entry name_cmp es path pair) ≡ remove_key (is_at (name_cmp path)) (paths_of i es)
unfolding IsStrictlySortedBy
paths_beside [] path pair i o s = shown i (path, pair) [] false o
paths_beside (e ∷ es) path pair i o s = by (name_cmp path e.0) refl (e.1 == i) refl (paths_beside es path pair i o s.1)
  where
    by : (r : Ordering) → name_cmp path e.0 ≡ r → (v : Bool) → (e.1 == i) ≡ v → paths_of i (insert_entry name_cmp es path pair) ≡ remove_key (is_at (name_cmp path)) (paths_of i es)
        → paths_of i (match_ordering r ((path, pair) ∷ e ∷ es) ((e.0, pair) ∷ es) (e ∷ insert_entry name_cmp es path pair)) ≡ remove_key (is_at (name_cmp path)) (paths_of i (e ∷ es))
    by Less h v q rest = shown i (path, pair) (e ∷ es) false o ∙ sym (gone_above (paths_of i (e ∷ es)) path (paths_above i (e ∷ es) path (h, further path e.0 (keys es) h s.0)))
    by Equal h v q rest = shown i (e.0, pair) es false o ∙ gone_first path i e es v h s.0 q
    by Greater h v q rest = gone_later path i e es (insert_entry name_cmp es path pair) v (ap is_eq h) q rest

at_is : (path other : List ℕ) → is_at (name_cmp path) other ≡ true → name_cmp path other ≡ Equal
at_is path other h = by (name_cmp path other) refl h
  where
    by : (r : Ordering) → name_cmp path other ≡ r → is_eq r ≡ true → name_cmp path other ≡ Equal
    by Less e k = cc
    by Equal e k = e
    by Greater e k = cc

pub paths_without : (es : Entries) (path : List ℕ) (i : ℕ) → AreSorted es → paths_of i (remove_entry (is_at (name_cmp path)) es) ≡ remove_key (is_at (name_cmp path)) (paths_of i es)
unfolding IsStrictlySortedBy
paths_without [] path i s = refl
paths_without (e ∷ es) path i s = by (is_at (name_cmp path) e.0) refl (e.1 == i) refl (paths_without es path i s.1)
  where
    by : (u : Bool) → is_at (name_cmp path) e.0 ≡ u → (v : Bool) → (e.1 == i) ≡ v → paths_of i (remove_entry (is_at (name_cmp path)) es) ≡ remove_key (is_at (name_cmp path)) (paths_of i es)
        → paths_of i (cond u es (e ∷ remove_entry (is_at (name_cmp path)) es)) ≡ remove_key (is_at (name_cmp path)) (paths_of i (e ∷ es))
    by true h v q rest = gone_first path i e es v (at_is path e.0 h) s.0 q
    by false h v q rest = gone_later path i e es (remove_entry (is_at (name_cmp path)) es) v h q rest

some_one : (a b : ℕ) → Some a ≡ Some b → a ≡ b
some_one a b h = let e : a ≡ b = cc in e

-- a path that isn't the pair's is none of its paths
pub not_among : (es : Entries) (path : List ℕ) (i : ℕ) → AreSorted es → (lookup (is_at (name_cmp path)) es ≡ Some i → ⊥) → remove_key (is_at (name_cmp path)) (paths_of i es) ≡ paths_of i es
unfolding IsStrictlySortedBy
not_among [] path i s lost = refl
not_among (e ∷ es) path i s lost = by (is_at (name_cmp path) e.0) refl (e.1 == i) refl (not_among es path i s.1)
  where
    by : (u : Bool) → is_at (name_cmp path) e.0 ≡ u → (v : Bool) → (e.1 == i) ≡ v → ((lookup (is_at (name_cmp path)) es ≡ Some i → ⊥) → remove_key (is_at (name_cmp path)) (paths_of i es) ≡ paths_of i es)
        → remove_key (is_at (name_cmp path)) (paths_of i (e ∷ es)) ≡ paths_of i (e ∷ es)
    by true h true q rest = absurd (lost (ap (λ u. cond u (Some e.1) (lookup (is_at (name_cmp path)) es)) h ∙ ap Some ((Decides-eqb e.1 i).0 q)))
    by true h false q rest = sym (gone_first path i e es false (at_is path e.0 h) s.0 q) ∙ sym (shown i e es false q)
    by false h v q rest = sym (gone_later path i e es es v h q (sym (rest (λ k. lost (ap (λ u. cond u (Some e.1) (lookup (is_at (name_cmp path)) es)) h ∙ k)))))

-- a path that is the pair's is among its paths
pub is_among : (es : Entries) (path : List ℕ) (i : ℕ) → AreSorted es → lookup (is_at (name_cmp path)) es ≡ Some i → insert_key name_cmp (paths_of i es) path ≡ paths_of i es
unfolding IsStrictlySortedBy
is_among [] path i s found = cc
is_among (e ∷ es) path i s found = by (name_cmp path e.0) refl (e.1 == i) refl found (is_among es path i s.1)
  where
    by : (r : Ordering) → name_cmp path e.0 ≡ r → (v : Bool) → (e.1 == i) ≡ v → cond (is_eq r) (Some e.1) (lookup (is_at (name_cmp path)) es) ≡ Some i
        → (lookup (is_at (name_cmp path)) es ≡ Some i → insert_key name_cmp (paths_of i es) path ≡ paths_of i es) → insert_key name_cmp (paths_of i (e ∷ es)) path ≡ paths_of i (e ∷ es)
    by Less h v q f rest = absurd (let none : None ≡ Some i = sym (lookup_above es path (further path e.0 (keys es) h s.0)) ∙ f in cc)
    by Equal h true q f rest = ap (λ l. insert_key name_cmp l path) (shown i e es true q)
        ∙ ap (λ r. match_ordering r (path ∷ e.0 ∷ paths_of i es) (e.0 ∷ paths_of i es) (e.0 ∷ insert_key name_cmp (paths_of i es) path)) h ∙ sym (shown i e es true q)
    by Equal h false q f rest = absurd (let clash : true ≡ false = sym ((Decides-eqb e.1 i).1 (some_one e.1 i f)) ∙ q in cc)
    by Greater h true q f rest = ap (λ l. insert_key name_cmp l path) (shown i e es true q)
        ∙ ap (λ r. match_ordering r (path ∷ e.0 ∷ paths_of i es) (e.0 ∷ paths_of i es) (e.0 ∷ insert_key name_cmp (paths_of i es) path)) h ∙ ap (λ l. e.0 ∷ l) (rest f) ∙ sym (shown i e es true q)
    by Greater h false q f rest = ap (λ l. insert_key name_cmp l path) (shown i e es false q) ∙ rest f ∙ sym (shown i e es false q)

-- put and taken again
pub put_and_taken : (es : Entries) (path : List ℕ) (pair : ℕ) → lookup (is_at (name_cmp path)) es ≡ None → remove_entry (is_at (name_cmp path)) (insert_entry name_cmp es path pair) ≡ es
put_and_taken [] path pair none = ap (λ v. cond v [] ((path, pair) ∷ [])) (at_itself path)
put_and_taken (e ∷ es) path pair none = by (name_cmp path e.0) refl none (put_and_taken es path pair)
  where
    by : (r : Ordering) → name_cmp path e.0 ≡ r → cond (is_eq r) (Some e.1) (lookup (is_at (name_cmp path)) es) ≡ None
        → (lookup (is_at (name_cmp path)) es ≡ None → remove_entry (is_at (name_cmp path)) (insert_entry name_cmp es path pair) ≡ es)
        → remove_entry (is_at (name_cmp path)) (match_ordering r ((path, pair) ∷ e ∷ es) ((e.0, pair) ∷ es) (e ∷ insert_entry name_cmp es path pair)) ≡ e ∷ es
    by Less h f rest = ap (λ v. cond v (e ∷ es) ((path, pair) ∷ remove_entry (is_at (name_cmp path)) (e ∷ es))) (at_itself path)
    by Equal h f rest = cc
    by Greater h f rest = ap (λ v. cond v (insert_entry name_cmp es path pair) (e ∷ remove_entry (is_at (name_cmp path)) (insert_entry name_cmp es path pair))) (ap is_eq h) ∙ ap (λ l. e ∷ l) (rest f)

pub taken_and_put : (es : Entries) (path : List ℕ) (pair : ℕ) → AreSorted es → insert_entry name_cmp (remove_entry (is_at (name_cmp path)) es) path pair ≡ insert_entry name_cmp es path pair
unfolding IsStrictlySortedBy
taken_and_put [] path pair s = refl
taken_and_put (e ∷ es) path pair s = by (name_cmp path e.0) refl (taken_and_put es path pair s.1)
  where
    with_first : (r : Ordering) → name_cmp path e.0 ≡ r → (xs : Entries) → insert_entry name_cmp (e ∷ xs) path pair ≡ match_ordering r ((path, pair) ∷ e ∷ xs) ((e.0, pair) ∷ xs) (e ∷ insert_entry name_cmp xs path pair)
    with_first r h xs = ap (λ o. match_ordering o ((path, pair) ∷ e ∷ xs) ((e.0, pair) ∷ xs) (e ∷ insert_entry name_cmp xs path pair)) h

    by : (r : Ordering) → name_cmp path e.0 ≡ r → insert_entry name_cmp (remove_entry (is_at (name_cmp path)) es) path pair ≡ insert_entry name_cmp es path pair
        → insert_entry name_cmp (cond (is_eq r) es (e ∷ remove_entry (is_at (name_cmp path)) es)) path pair ≡ match_ordering r ((path, pair) ∷ e ∷ es) ((e.0, pair) ∷ es) (e ∷ insert_entry name_cmp es path pair)
    by Less h rest = with_first Less h (remove_entry (is_at (name_cmp path)) es) ∙ ap (λ l. (path, pair) ∷ e ∷ l) (remove_above es path (further path e.0 (keys es) h s.0))
    by Equal h rest = insert_above es path pair (same_above path e.0 (keys es) h s.0) ∙ ap (λ p. (p, pair) ∷ es) (equal_paths path e.0 h)
    by Greater h rest = with_first Greater h (remove_entry (is_at (name_cmp path)) es) ∙ ap (λ l. e ∷ l) rest

pub key_put_and_taken : (xs : List (List ℕ)) (path : List ℕ) → remove_key (is_at (name_cmp path)) xs ≡ xs → remove_key (is_at (name_cmp path)) (insert_key name_cmp xs path) ≡ xs
key_put_and_taken [] path h = ap (λ v. cond v [] (path ∷ [])) (at_itself path)
key_put_and_taken (x ∷ xs) path h = by (name_cmp path x) refl h (key_put_and_taken xs path)
  where
    test : List ℕ → Bool
    test = is_at (name_cmp path)

    by : (r : Ordering) → name_cmp path x ≡ r → cond (is_eq r) xs (x ∷ remove_key (is_at (name_cmp path)) xs) ≡ x ∷ xs → (remove_key (is_at (name_cmp path)) xs ≡ xs → remove_key (is_at (name_cmp path)) (insert_key name_cmp xs path) ≡ xs)
        → remove_key (is_at (name_cmp path)) (match_ordering r (path ∷ x ∷ xs) (x ∷ xs) (x ∷ insert_key name_cmp xs path)) ≡ x ∷ xs
    by Less e k rest = ap (λ v. cond v (x ∷ xs) (path ∷ remove_key (is_at (name_cmp path)) (x ∷ xs))) (at_itself path)
    by Equal e k rest = ap (λ r. cond (is_eq r) xs (x ∷ remove_key (is_at (name_cmp path)) xs)) e ∙ k
    by Greater e k rest = ap (λ r. cond (is_eq r) (insert_key name_cmp xs path) (x ∷ remove_key (is_at (name_cmp path)) (insert_key name_cmp xs path))) e
        ∙ ap (λ l. x ∷ l) (rest (let t : remove_key (is_at (name_cmp path)) xs ≡ xs = cc in t))

pub key_put_twice : (xs : List (List ℕ)) (path : List ℕ) → insert_key name_cmp (insert_key name_cmp xs path) path ≡ insert_key name_cmp xs path
key_put_twice [] path = ap (λ r. match_ordering r (path ∷ path ∷ []) (path ∷ []) (path ∷ path ∷ [])) (itself path)
key_put_twice (x ∷ xs) path = by (name_cmp path x) refl (key_put_twice xs path)
  where
    by : (r : Ordering) → name_cmp path x ≡ r → insert_key name_cmp (insert_key name_cmp xs path) path ≡ insert_key name_cmp xs path
        → insert_key name_cmp (match_ordering r (path ∷ x ∷ xs) (x ∷ xs) (x ∷ insert_key name_cmp xs path)) path ≡ match_ordering r (path ∷ x ∷ xs) (x ∷ xs) (x ∷ insert_key name_cmp xs path)
    by Less h rest = ap (λ r. match_ordering r (path ∷ path ∷ x ∷ xs) (path ∷ x ∷ xs) (path ∷ insert_key name_cmp (x ∷ xs) path)) (itself path)
    by Equal h rest = ap (λ r. match_ordering r (path ∷ x ∷ xs) (x ∷ xs) (x ∷ insert_key name_cmp xs path)) h
    by Greater h rest = ap (λ r. match_ordering r (path ∷ x ∷ insert_key name_cmp xs path) (x ∷ insert_key name_cmp xs path) (x ∷ insert_key name_cmp (insert_key name_cmp xs path) path)) h ∙ ap (λ l. x ∷ l) rest

-- other labels of pairs that have no paths change no need
pub has_path : (es : Entries) (e : List ℕ × ℕ) → Contains es e → paths_of e.1 es ≡ [] → ⊥
has_path es e m h =
    let none : (e.1 == e.1) ≡ false = filtered_none (λ x. x.1 == e.1) es (map_empty (λ x. x.0) (filter (λ x. x.1 == e.1) es) h) e m in
    let clash : true ≡ false = sym (number_itself e.1) ∙ none in cc

relabel : (labels other : List (List ℕ × Who)) (all es : Entries) → ((e : List ℕ × ℕ) → Contains es e → Contains all e) → ((i : ℕ) → (paths_of i all ≡ [] → ⊥) → get_or other i ([], Identity) ≡ get_or labels i ([], Identity))
    → needs_of other es ≡ needs_of labels es
relabel labels other all [] within same = refl
relabel labels other all (e ∷ es) within same =
    ap (λ label. record { path = e.0; resource = label.0; who = label.1 } ∷ needs_of other es) (same e.1 (has_path all e (within e (here e es))))
    ∙ ap (λ l. need_of labels e ∷ l) (relabel labels other all es (λ x m. within x (there e x es m)) same)

pub needs_relabelled : (labels other : List (List ℕ × Who)) (es : Entries) → ((i : ℕ) → (paths_of i es ≡ [] → ⊥) → get_or other i ([], Identity) ≡ get_or labels i ([], Identity)) → needs_of other es ≡ needs_of labels es
needs_relabelled labels other es same = relabel labels other es es (λ e m. m) same
