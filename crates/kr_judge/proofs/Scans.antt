-- The paths that are kept of a pair are those that a scan of the needs gives.
use Rattle.std.proofs.Common.{◌≡◌, ℕ, zero, suc, ◌<◌, ◌≤◌, Bool, true, false, List, [], ◌∷◌, length, get_or, Option, None, Some, Contains, map, refl, sym, ap, subst, ◌∙◌, inl, inr, set, ◌+◌, ◌++◌, arith}
use Rattle.std.specs.Prelude.{◌==◌, ◌&&◌, cond, if◌then◌else◌, position, nat_lt}
use Rattle.std.specs.Str.{bytes_eq}
use Rattle.std.specs.Cmp.{first_so, second_so}
use Rattle.std.specs.List.{filter, position_or_len}
use Rattle.std.specs.List.Sorted.{IsStrictlySortedBy}
use Rattle.std.specs.Map.{lookup, remove_entry}
use Rattle.std.specs.BTreeMap.{is_at}
use Rattle.std.specs.BTreeSet.{insert_key}
use Rattle.std.proofs.lemmas.Slice.Eq.{bytes_eq-Decides}
use Rattle.std.proofs.lemmas.Bool.{cases_lt}
use Rattle.std.proofs.lemmas.Bool.Decides.{Decides-eqb, nat_tests}
use Rattle.std.proofs.lemmas.List.{length-map, length-set, length-append, map-set, get_or-map, get_or-set_other}
use Rattle.std.proofs.lemmas.List.Quantifiers.{position-Some}
use Rattle.std.proofs.lemmas.List.Sums.{fails_before_first}
use Rattle.kr_config.specs.declared.who.Who.{Who}
use Rattle.kr_config.specs.declared.who.Who.TheVariants.{Identity}
use Rattle.kr_config.specs.Nexts.{name_cmp}
use Rattle.kr_judge.specs.declared.need.Need.{Need}
use Rattle.kr_judge.specs.declared.pair.Pair.{Pair}
use Rattle.kr_judge.specs.declared.proposal.Proposal.{Proposal}
use Rattle.kr_judge.specs.Boards.{AreByPath}
use Rattle.kr_judge.specs.Providers.{same_who}
use Rattle.kr_judge.specs.Scans.{is_for, paths_for, paths_with}
use Rattle.kr_judge.specs.inner.Indexes.{AreSorted, AreApart, is_pair, need_of, needs_of, paths_of, labels_of, with_proposed, without_proposed, IsIndexed, NeedsState, proposed_need, needs_view}
use Rattle.kr_config.proofs.ListParts.{here, there, cases}
use Rattle.kr_judge.proofs.Lists.{one_truth}
use Rattle.kr_judge.proofs.Members.{is_one, itself, its_own, and_true}
use Rattle.kr_judge.specs.inner.Places.{label_at, paths_at}
use Rattle.kr_judge.proofs.Pairs.{label_set, label_last}
use Rattle.kr_judge.proofs.Entries.{Entries, has_path, paths_with as paths_put, paths_without, not_among, taken_and_put, needs_without}
use Rattle.kr_judge.proofs.Needs.{sorted_drop}
use Rattle.kr_judge.proofs.Indexed.{beyond, proposed_kept, other_some, number_is, shown_paths, needs_sorted}

abbrev label_of : Pair → List ℕ × Who
label_of pair = (pair.resource, pair.who)

pub labels_fit : (pairs : List Pair) (i : ℕ) → i < length pairs → i < length (labels_of pairs)
labels_fit pairs i h = omega (arith, h, length-map pairs label_of)

-- a resource and a provider are those of a pair
pub is_label : (l : List ℕ × Who) (resource : List ℕ) (who : Who) → (bytes_eq l.0 resource && same_who l.1 who) ≡ true → l ≡ (resource, who)
is_label l resource who e = ap (λ r. (r, l.1)) ((bytes_eq-Decides l.0 resource).0 (first_so _ _ e)) ∙ ap (λ w. (resource, w)) (is_one l.1 who (second_so _ _ e))

pub label_is : (l : List ℕ × Who) (resource : List ℕ) (who : Who) → l ≡ (resource, who) → (bytes_eq l.0 resource && same_who l.1 who) ≡ true
label_is l resource who e = subst (λ (k : List ℕ × Who). (bytes_eq k.0 resource && same_who k.1 who) ≡ true) (sym e)
    (and_true (bytes_eq resource resource) (same_who who who) (its_own resource) (itself who))

same_pair : (pairs : List Pair) (resource : List ℕ) (who : Who) (i j : ℕ) (path : List ℕ) → AreApart (labels_of pairs) → i < length pairs → j < length pairs → label_at pairs i ≡ (resource, who)
    → is_for resource who (need_of (labels_of pairs) (path, j)) ≡ (j == i)
same_pair pairs resource who i j path apart h k own = one_truth _ _ forth back
  where
    forth : (bytes_eq (label_at pairs j).0 resource && same_who (label_at pairs j).1 who) ≡ true → (j == i) ≡ true
    forth e = (Decides-eqb j i).1 (apart j i (labels_fit pairs j k) (labels_fit pairs i h) (is_label (label_at pairs j) resource who e ∙ sym own))

    back : (j == i) ≡ true → (bytes_eq (label_at pairs j).0 resource && same_who (label_at pairs j).1 who) ≡ true
    back e = label_is (label_at pairs j) resource who (ap (label_at pairs) (number_is j i e) ∙ own)

scan_pair : (pairs : List Pair) (es : Entries) (resource : List ℕ) (who : Who) (i : ℕ) → AreApart (labels_of pairs) → i < length pairs → label_at pairs i ≡ (resource, who)
    → ((e : List ℕ × ℕ) → Contains es e → e.1 < length pairs) → paths_for resource who (needs_of (labels_of pairs) es) ≡ paths_of i es
scan_pair pairs [] resource who i apart h own within = refl
scan_pair pairs (e ∷ es) resource who i apart h own within =
    by (is_for resource who (need_of (labels_of pairs) e)) (e.1 == i) (same_pair pairs resource who i e.1 e.0 apart h (within e (here e es)) own)
    (scan_pair pairs es resource who i apart h own (λ x m. within x (there e x es m)))
  where
    needs : List Need
    needs = needs_of (labels_of pairs) es

    by : (u v : Bool) → u ≡ v → paths_for resource who needs ≡ paths_of i es
        → map (λ need. need.path) (cond u (need_of (labels_of pairs) e ∷ filter (is_for resource who) needs) (filter (is_for resource who) needs))
        ≡ map (λ x. x.0) (cond v (e ∷ filter (λ x. x.1 == i) es) (filter (λ x. x.1 == i) es))
    by true true k rest = ap (λ l. e.0 ∷ l) rest
    by true false k rest = cc
    by false true k rest = cc
    by false false k rest = rest

-- the pair that is found, or none
outside : (b : Bool) (n : ℕ) → cond b (Some n) None ≡ None → b ≡ false
outside true n e = absurd (cc)
outside false n e = refl

short : (n m k : ℕ) → nat_lt n m ≡ false → k < m → k < n
short n m k f lt = grind (arith, nat_tests)

pub found_place : (pairs : List Pair) (resource : List ℕ) (who : Who) (place : ℕ) → position (is_pair resource who) pairs ≡ Some place → (place < length pairs) × (label_at pairs place ≡ (resource, who))
found_place [] resource who place e = cc
found_place (p ∷ ps) resource who place e =
    let found = position-Some (is_pair resource who) (p ∷ ps) place p e in
    (found.0, get_or-map label_of (p ∷ ps) place p ([], Identity) found.0 ∙ is_label (label_of (get_or (p ∷ ps) place p)) resource who found.1)

pub no_place : (pairs : List Pair) (resource : List ℕ) (who : Who) (i : ℕ) → position (is_pair resource who) pairs ≡ None → i < length pairs → label_at pairs i ≡ (resource, who) → ⊥
no_place [] resource who i none h own = absurd (omega (arith, h))
no_place (p ∷ ps) resource who i none h own =
    let it : is_pair resource who (get_or (p ∷ ps) i p) ≡ true = label_is (label_of (get_or (p ∷ ps) i p)) resource who (sym (get_or-map label_of (p ∷ ps) i p ([], Identity) h) ∙ own) in
    let not_it : is_pair resource who (get_or (p ∷ ps) i p) ≡ false = fails_before_first (is_pair resource who) (p ∷ ps) i p (short (position_or_len (is_pair resource who) (p ∷ ps)) (length (p ∷ ps)) i (outside _ (position_or_len (is_pair resource who) (p ∷ ps)) none) h) in
    let clash : true ≡ false = sym it ∙ not_it in cc

scan_none : (pairs : List Pair) (es : Entries) (resource : List ℕ) (who : Who) → position (is_pair resource who) pairs ≡ None
    → ((e : List ℕ × ℕ) → Contains es e → e.1 < length pairs) → paths_for resource who (needs_of (labels_of pairs) es) ≡ []
scan_none pairs [] resource who none within = refl
scan_none pairs (e ∷ es) resource who none within = by (is_for resource who (need_of (labels_of pairs) e)) refl (scan_none pairs es resource who none (λ x m. within x (there e x es m)))
  where
    needs : List Need
    needs = needs_of (labels_of pairs) es

    by : (u : Bool) → is_for resource who (need_of (labels_of pairs) e) ≡ u → paths_for resource who needs ≡ []
        → map (λ need. need.path) (cond u (need_of (labels_of pairs) e ∷ filter (is_for resource who) needs) (filter (is_for resource who) needs)) ≡ []
    by true k rest = absurd (no_place pairs resource who e.1 none (within e (here e es)) (is_label (label_at pairs e.1) resource who k))
    by false k rest = rest

-- the places of entries are those of pairs
stay_within : (test : List ℕ → Bool) (es : Entries) (e : List ℕ × ℕ) → Contains (remove_entry test es) e → Contains es e
stay_within test [] e m = m
stay_within test (x ∷ xs) e m = by (test x.0) m (stay_within test xs e)
  where
    by : (v : Bool) → Contains (cond v xs (x ∷ remove_entry test xs)) e → (Contains (remove_entry test xs) e → Contains xs e) → Contains (x ∷ xs) e
    by true k rest = there x e xs k
    by false k rest = elim (cases x e (remove_entry test xs) k) [ inl q ↦ subst (Contains (x ∷ xs)) q (here x xs) | inr n ↦ there x e xs (rest n) ]

all_within : (es : Entries) (pairs : List Pair) (p : Option Proposal) → IsIndexed es pairs p → (e : List ℕ × ℕ) → Contains es e → e.1 < length pairs
all_within es pairs p ix e m = elim (cases_lt e.1 (length pairs)) [
  | inl k ↦ k
  | inr k ↦ absurd (has_path es e m (proposed_kept p e.1 (paths_of e.1 es) (sym (ix.paths e.1) ∙ beyond pairs e.1 k)))
]

shown_within : (es : Entries) (pairs : List Pair) (p : Option Proposal) → IsIndexed es pairs p → (e : List ℕ × ℕ) → Contains (without_proposed p es) e → e.1 < length pairs
shown_within es pairs None ix e m = all_within es pairs None ix e m
shown_within es pairs (Some p) ix e m = by p.fresh m
  where
    by : (v : Bool) → Contains (if v then remove_entry (is_at (name_cmp p.path)) es else es) e → e.1 < length pairs
    by true k = all_within es pairs (Some p) ix e (stay_within (is_at (name_cmp p.path)) es e k)
    by false k = all_within es pairs (Some p) ix e k

-- the proposed path among those of its pair
sorted_gone : (es : Entries) (path : List ℕ) → AreSorted es → AreSorted (remove_entry (is_at (name_cmp path)) es)
sorted_gone es path s = subst (IsStrictlySortedBy name_cmp) (shown_paths [] (remove_entry (is_at (name_cmp path)) es))
    (subst AreByPath (sym (needs_without [] es path)) (sorted_drop (needs_of [] es) path (needs_sorted [] es s)))

put_again : (es : Entries) (path : List ℕ) (i : ℕ) → AreSorted es → insert_key name_cmp (paths_of i es) path ≡ insert_key name_cmp (paths_of i (remove_entry (is_at (name_cmp path)) es)) path
put_again es path i s = sym (paths_put es path i s)
    ∙ ap (paths_of i) (sym (taken_and_put es path i s))
    ∙ paths_put (remove_entry (is_at (name_cmp path)) es) path i (sorted_gone es path s)

with_path : (es : Entries) (p : Proposal) (i : ℕ) → AreSorted es → (p.fresh ≡ true → lookup (is_at (name_cmp p.path)) es ≡ Some p.place)
    → with_proposed (Some p) i (paths_of i es) ≡ with_proposed (Some p) i (paths_of i (without_proposed (Some p) es))
with_path es p i s there_is = by p.fresh refl (p.place == i) refl
  where
    by : (v : Bool) → p.fresh ≡ v → (u : Bool) → (p.place == i) ≡ u → (if u then insert_key name_cmp (paths_of i es) p.path else paths_of i es)
        ≡ (if u then insert_key name_cmp (paths_of i (if v then remove_entry (is_at (name_cmp p.path)) es else es)) p.path else paths_of i (if v then remove_entry (is_at (name_cmp p.path)) es else es))
    by false f u k = refl
    by true f true k = put_again es p.path i s
    by true f false k = sym (paths_without es p.path i s ∙ not_among es p.path i s (other_some es p.path p.place i (there_is f) k))

pub kept_pair : (es : Entries) (pairs : List Pair) (p : Option Proposal) (resource : List ℕ) (who : Who) (i : ℕ) → IsIndexed es pairs p → AreApart (labels_of pairs)
    → i < length pairs → label_at pairs i ≡ (resource, who)
    → paths_at pairs i ≡ paths_with (proposed_need (labels_of pairs) p) resource who (needs_of (labels_of pairs) (without_proposed p es))
kept_pair es pairs None resource who i ix apart h own = ix.paths i ∙ sym (scan_pair pairs es resource who i apart h own (all_within es pairs None ix))
kept_pair es pairs (Some p) resource who i ix apart h own = ix.paths i ∙ with_path es p i ix.sorted ix.stands.2
    ∙ ap (with_proposed (Some p) i) (sym scan)
    ∙ ap (λ (v : Bool). if v then insert_key name_cmp rest p.path else rest) (sym (same_pair pairs resource who i p.place p.path apart h ix.stands.0 own))
  where
    rest : List (List ℕ)
    rest = paths_for resource who (needs_of (labels_of pairs) (without_proposed (Some p) es))

    scan : rest ≡ paths_of i (without_proposed (Some p) es)
    scan = scan_pair pairs (without_proposed (Some p) es) resource who i apart h own (shown_within es pairs (Some p) ix)

pub kept_none : (es : Entries) (pairs : List Pair) (p : Option Proposal) (resource : List ℕ) (who : Who) → IsIndexed es pairs p → position (is_pair resource who) pairs ≡ None
    → paths_with (proposed_need (labels_of pairs) p) resource who (needs_of (labels_of pairs) (without_proposed p es)) ≡ []
kept_none es pairs None resource who ix none = scan_none pairs es resource who none (all_within es pairs None ix)
kept_none es pairs (Some p) resource who ix none = by (is_for resource who (need_of (labels_of pairs) (p.path, p.place))) refl
  where
    rest : List (List ℕ)
    rest = paths_for resource who (needs_of (labels_of pairs) (without_proposed (Some p) es))

    by : (v : Bool) → is_for resource who (need_of (labels_of pairs) (p.path, p.place)) ≡ v → (if v then insert_key name_cmp rest p.path else rest) ≡ []
    by true k = absurd (no_place pairs resource who p.place none ix.stands.0 (is_label (label_at pairs p.place) resource who k))
    by false k = scan_none pairs (without_proposed (Some p) es) resource who none (shown_within es pairs (Some p) ix)

-- the pairs stay apart
pub label_before : (pairs : List Pair) (new : Pair) (k : ℕ) → k < length pairs → label_at (pairs ++ new ∷ []) k ≡ label_at pairs k
label_before [] new k h = absurd (omega (arith, h))
label_before (p ∷ ps) new zero h = refl
label_before (p ∷ ps) new (suc k) h = label_before ps new k (omega (arith, h))

pub apart_nil : (pairs : List Pair) → pairs ≡ [] → AreApart (labels_of pairs)
apart_nil pairs none = subst (λ (l : List Pair). AreApart (labels_of l)) (sym none) (λ place other h k e. absurd (omega (arith, h)))

pub apart_set : (pairs : List Pair) (at : ℕ) (new : Pair) (resource : List ℕ) (who : Who) → AreApart (labels_of pairs) → position (is_pair resource who) pairs ≡ None → new.resource ≡ resource → new.who ≡ who → at < length pairs → AreApart (labels_of (set pairs at new))
apart_set pairs at new resource who apart none r w h i j hi hj e = by (at == i) refl (at == j) refl
  where
    size : length (labels_of (set pairs at new)) ≡ length pairs
    size = length-map (set pairs at new) label_of ∙ length-set pairs at new

    fi : i < length pairs
    fi = omega (arith, hi, size)

    fj : j < length pairs
    fj = omega (arith, hj, size)

    here_new : (k : ℕ) → (at == k) ≡ true → label_at (set pairs at new) k ≡ (resource, who)
    here_new k s = subst (λ n. label_at (set pairs at new) n ≡ (resource, who)) (number_is at k s) (label_set pairs at new h ∙ ap (λ x. (x, new.who)) r ∙ ap (λ x. (resource, x)) w)

    as_old : (k : ℕ) → (at == k) ≡ false → label_at (set pairs at new) k ≡ label_at pairs k
    as_old k s = ap (λ l. get_or l k ([], Identity)) (map-set label_of pairs at new)
        ∙ get_or-set_other (labels_of pairs) at k (label_of new) ([], Identity) (λ q. (let clash : true ≡ false = sym ((Decides-eqb at k).1 (sym q)) ∙ s in cc))

    by : (u : Bool) → (at == i) ≡ u → (v : Bool) → (at == j) ≡ v → i ≡ j
    by true s true t = sym (number_is at i s) ∙ number_is at j t
    by true s false t = absurd (no_place pairs resource who j none fj (sym (as_old j t) ∙ sym e ∙ here_new i s))
    by false s true t = absurd (no_place pairs resource who i none fi (sym (as_old i s) ∙ e ∙ here_new j t))
    by false s false t = apart i j (labels_fit pairs i fi) (labels_fit pairs j fj) (sym (as_old i s) ∙ e ∙ as_old j t)

pub apart_push : (pairs : List Pair) (new : Pair) (resource : List ℕ) (who : Who) → AreApart (labels_of pairs) → position (is_pair resource who) pairs ≡ None → new.resource ≡ resource → new.who ≡ who → AreApart (labels_of (pairs ++ new ∷ []))
apart_push pairs new resource who apart none r w i j hi hj e = elim (cases_lt i (length pairs)) [
  | inl fi ↦ elim (cases_lt j (length pairs)) [
    | inl fj ↦ apart i j (labels_fit pairs i fi) (labels_fit pairs j fj) (sym (before i fi) ∙ e ∙ before j fj)
    | inr lj ↦ absurd (no_place pairs resource who i none fi (sym (before i fi) ∙ e ∙ last j lj hj))
  ]
  | inr li ↦ elim (cases_lt j (length pairs)) [
    | inl fj ↦ absurd (no_place pairs resource who j none fj (sym (before j fj) ∙ sym e ∙ last i li hi))
    | inr lj ↦ is_last i li hi ∙ sym (is_last j lj hj)
  ]
]
  where
    size : length (labels_of (pairs ++ new ∷ [])) ≡ length pairs + 1
    size = length-map (pairs ++ new ∷ []) label_of ∙ length-append pairs (new ∷ [])

    is_last : (k : ℕ) → length pairs ≤ k → k < length (labels_of (pairs ++ new ∷ [])) → k ≡ length pairs
    is_last k l h = omega (arith, l, h, size)

    last : (k : ℕ) → length pairs ≤ k → k < length (labels_of (pairs ++ new ∷ [])) → label_at (pairs ++ new ∷ []) k ≡ (resource, who)
    last k l h = ap (label_at (pairs ++ new ∷ [])) (is_last k l h) ∙ label_last pairs new ∙ ap (λ x. (x, new.who)) r ∙ ap (λ x. (resource, x)) w

    before : (k : ℕ) → k < length pairs → label_at (pairs ++ new ∷ []) k ≡ label_at pairs k
    before k h = label_before pairs new k h

pub apart_same : (old new : List Pair) → AreApart (labels_of old) → labels_of new ≡ labels_of old → AreApart (labels_of new)
apart_same old new apart same = subst AreApart (sym same) apart

-- what is shown of a pair that is found
pub kept_there : (es : Entries) (pairs : List Pair) (p : Option Proposal) (s : NeedsState) (resource : List ℕ) (who : Who) (place : ℕ) (paths : List (List ℕ)) → needs_view es pairs p ≡ s → IsIndexed es pairs p → AreApart (labels_of pairs)
    → Some place ≡ position (is_pair resource who) pairs → paths ≡ paths_at pairs place → paths ≡ paths_with s.proposal resource who s.needs
kept_there es pairs p s resource who place paths view ix apart found is =
    let there_it_is = found_place pairs resource who place (sym found) in
    is ∙ kept_pair es pairs p resource who place ix apart there_it_is.0 there_it_is.1 ∙ ap (λ (t : NeedsState). paths_with t.proposal resource who t.needs) view
