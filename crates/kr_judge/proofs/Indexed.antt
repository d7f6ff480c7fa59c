-- What is kept by path and by pair stays the same.
use Rattle.std.proofs.Common.{◌≡◌, ℕ, zero, suc, ◌<◌, ◌≤◌, Bool, true, false, List, [], ◌∷◌, length, get_or, Option, None, Some, Contains, map, refl, sym, ap, subst, ◌∙◌, inl, inr, arith}
use Rattle.std.specs.Prelude.{◌==◌, cond, if◌then◌else◌, IsSome}
use Rattle.std.specs.Ordering.{match_ordering, is_eq}
use Rattle.std.specs.declared.cmp.Ordering.{Ordering}
use Rattle.std.specs.declared.cmp.Ordering.TheVariants.{Less, Equal, Greater}
use Rattle.std.specs.Map.{lookup, remove_entry}
use Rattle.std.specs.Set.{remove_key}
use Rattle.std.specs.BTreeMap.{insert_entry, is_at}
use Rattle.std.specs.BTreeSet.{insert_key}
use Rattle.std.proofs.lemmas.Bool.{cases_lt}
use Rattle.std.proofs.lemmas.Bool.Decides.{Decides-eqb}
use Rattle.kr_config.specs.declared.who.Who.{Who}
use Rattle.kr_config.specs.Nexts.{name_cmp}
use Rattle.std.specs.List.Sorted.{IsStrictlySortedBy}
use Rattle.kr_judge.specs.Boards.{AreByPath, set_need}
use Rattle.kr_judge.proofs.Needs.{sorted_drop}
use Rattle.kr_judge.specs.declared.pair.Pair.{Pair}
use Rattle.kr_judge.specs.declared.proposal.Proposal.{Proposal}
use Rattle.kr_judge.specs.inner.Indexes.{AreSorted, need_of, needs_of, paths_of, labels_of, kept_paths, with_proposed, without_proposed, IsIndexed, AreAsBefore, IsChangedAt}
use Rattle.kr_config.proofs.ListParts.{here, there}
use Rattle.kr_judge.proofs.Entries.{Entries, has_path, needs_with, needs_without, needs_relabelled, paths_with, paths_beside, paths_without, not_among, is_among, taken_and_put, key_put_and_taken, key_put_twice, put_found}

abbrev kept_at : List Pair → ℕ → List (List ℕ)
kept_at pairs place = get_or (kept_paths pairs) place []

abbrev found : Entries → List ℕ → Option ℕ
found es path = lookup (is_at (name_cmp path)) es

pub number_is : (a b : ℕ) → (a == b) ≡ true → a ≡ b
number_is a b h = (Decides-eqb a b).0 h

none_some : (es : Entries) (path : List ℕ) (i : ℕ) → found es path ≡ None → found es path ≡ Some i → ⊥
none_some es path i n s = (let e : None ≡ Some i = sym n ∙ s in cc)

pub other_some : (es : Entries) (path : List ℕ) (q i : ℕ) → found es path ≡ Some q → (q == i) ≡ false → found es path ≡ Some i → ⊥
other_some es path q i own o s =
    let e : Some q ≡ Some i = sym own ∙ s in
    let same : q ≡ i = cc in
    let clash : true ≡ false = sym ((Decides-eqb q i).1 same) ∙ o in cc

pub needs_before : (es : Entries) (old new : List Pair) → IsIndexed es old None → AreAsBefore old new → needs_of (labels_of new) es ≡ needs_of (labels_of old) es
needs_before es old new ix before = needs_relabelled (labels_of old) (labels_of new) es (λ i some. before.labels i (λ e. some (sym (ix.paths i) ∙ e)))

-- a place that is found is one of the pairs'
found_there : (es : Entries) (path : List ℕ) (q : ℕ) → found es path ≡ Some q → (e : List ℕ × ℕ) × Contains es e × (e.1 ≡ q)
found_there [] path q h = cc
found_there (e ∷ es) path q h = by (is_at (name_cmp path) e.0) h (found_there es path q)
  where
    by : (v : Bool) → cond v (Some e.1) (found es path) ≡ Some q → (found es path ≡ Some q → (x : List ℕ × ℕ) × Contains es x × (x.1 ≡ q)) → (x : List ℕ × ℕ) × Contains (e ∷ es) x × (x.1 ≡ q)
    by true k rest = (e, here e es, (let s : e.1 ≡ q = cc in s))
    by false k rest = (let r = rest k in (r.0, there e r.0 es r.1, r.2))

pub key_kept : (xs : List (List ℕ)) (path : List ℕ) → insert_key name_cmp xs path ≡ [] → xs ≡ []
key_kept [] path h = refl
key_kept (x ∷ xs) path h = by (name_cmp path x) h
  where
    by : (r : Ordering) → match_ordering r (path ∷ x ∷ xs) (x ∷ xs) (x ∷ insert_key name_cmp xs path) ≡ [] → x ∷ xs ≡ []
    by Less k = cc
    by Equal k = cc
    by Greater k = cc

pub proposed_kept : (p : Option Proposal) (i : ℕ) (xs : List (List ℕ)) → with_proposed p i xs ≡ [] → xs ≡ []
proposed_kept None i xs h = h
proposed_kept (Some p) i xs h = by (p.place == i) h
  where
    by : (v : Bool) → (if v then insert_key name_cmp xs p.path else xs) ≡ [] → xs ≡ []
    by true k = key_kept xs p.path k
    by false k = k

pub beyond : (pairs : List Pair) (i : ℕ) → length pairs ≤ i → kept_at pairs i ≡ []
beyond [] i h = refl
beyond (p ∷ ps) zero h = absurd (omega (arith, h))
beyond (p ∷ ps) (suc i) h = beyond ps i (omega (arith, h))

pub place_fits : (es : Entries) (pairs : List Pair) (p : Option Proposal) (path : List ℕ) (q : ℕ) → IsIndexed es pairs p → found es path ≡ Some q → q < length pairs
place_fits es pairs p path q ix h = elim (cases_lt q (length pairs)) [
  | inl k ↦ k
  | inr k ↦ absurd (
      let own = found_there es path q h in
      has_path es own.0 own.1 (ap (λ i. paths_of i es) own.2 ∙ proposed_kept p q (paths_of q es) (sym (ix.paths q) ∙ beyond pairs q k))
      )
]

-- the paths of a pair beside the one that is put
untouched : (es : Entries) (path : List ℕ) (place i : ℕ) → AreSorted es → (place == i) ≡ false → (found es path ≡ Some i → ⊥) → paths_of i es ≡ paths_of i (insert_entry name_cmp es path place)
untouched es path place i s o lost = sym (paths_beside es path place i o s ∙ not_among es path i s lost)

put_own : (es : Entries) (path : List ℕ) (place i : ℕ) → AreSorted es → (place == i) ≡ true → insert_key name_cmp (paths_of i es) path ≡ paths_of i (insert_entry name_cmp es path place)
put_own es path place i s o = subst (λ n. insert_key name_cmp (paths_of n es) path ≡ paths_of n (insert_entry name_cmp es path place)) (number_is place i o) (sym (paths_with es path place s))

-- a proposal at a path that has a place
pub made_there : (es : Entries) (old new : List Pair) (path : List ℕ) (place : ℕ) → IsIndexed es old None → place < length old → length new ≡ length old → IsSome (found es path)
    → IsChangedAt (λ paths. insert_key name_cmp paths path) place old new → IsIndexed es new (Some (record { path = path; place = place; fresh = false }))
made_there es old new path place ix fits same some change = record {
  sorted = ix.sorted;
  paths = λ other. change.paths other ∙ ap (λ ps. if place == other then insert_key name_cmp ps path else ps) (ix.paths other);
  stands = (omega (arith, fits, same), some, λ e. cc);
}

-- a proposal at a new path
pub made_fresh : (es : Entries) (old new : List Pair) (path : List ℕ) (place : ℕ) → IsIndexed es old None → place < length old → length new ≡ length old → found es path ≡ None
    → IsChangedAt (λ paths. insert_key name_cmp paths path) place old new → AreSorted (insert_entry name_cmp es path place)
    → IsIndexed (insert_entry name_cmp es path place) new (Some (record { path = path; place = place; fresh = true }))
made_fresh es old new path place ix fits same none change sorted = record {
  sorted = sorted;
  paths = λ other. change.paths other ∙ ap (λ ps. if place == other then insert_key name_cmp ps path else ps) (ix.paths other) ∙ by other (place == other) refl;
  stands = (omega (arith, fits, same), subst IsSome (sym (put_found es path place)) refl, λ e. put_found es path place);
}
  where
    all : Entries
    all = insert_entry name_cmp es path place

    by : (other : ℕ) (v : Bool) → (place == other) ≡ v → (if v then insert_key name_cmp (paths_of other es) path else paths_of other es) ≡ (if v then insert_key name_cmp (paths_of other all) path else paths_of other all)
    by other true o = sym (key_put_twice (paths_of other es) path) ∙ ap (λ ps. insert_key name_cmp ps path) (put_own es path place other ix.sorted o)
    by other false o = untouched es path place other ix.sorted o (none_some es path other none)

-- no memory for its place: its path goes again
pub made_and_gone : (es : Entries) (old mid new : List Pair) (path : List ℕ) (place : ℕ) → IsIndexed es old None → found es path ≡ None
    → IsChangedAt (λ paths. insert_key name_cmp paths path) place old mid → IsChangedAt (remove_key (is_at (name_cmp path))) place mid new → IsIndexed es new None
made_and_gone es old mid new path place ix none put taken = record {
  sorted = ix.sorted;
  paths = λ other. taken.paths other ∙ ap (λ ps. if place == other then remove_key (is_at (name_cmp path)) ps else ps) (put.paths other ∙ ap (λ ps. if place == other then insert_key name_cmp ps path else ps) (ix.paths other)) ∙ by other (place == other);
  stands = tt;
}
  where
    by : (other : ℕ) (v : Bool) → (if v then remove_key (is_at (name_cmp path)) (if v then insert_key name_cmp (paths_of other es) path else paths_of other es) else (if v then insert_key name_cmp (paths_of other es) path else paths_of other es)) ≡ paths_of other es
    by other true = key_put_and_taken (paths_of other es) path (not_among es path other ix.sorted (none_some es path other none))
    by other false = refl

-- a proposal that is kept: its path has its place
pub kept_own : (es : Entries) (pairs : List Pair) (p : Proposal) (q : ℕ) → IsIndexed es pairs (Some p) → found es p.path ≡ Some q → (q == p.place) ≡ true → AreSorted (insert_entry name_cmp es p.path p.place)
    → IsIndexed (insert_entry name_cmp es p.path p.place) pairs None
kept_own es pairs p q ix own same sorted = record { sorted = sorted; paths = λ other. ix.paths other ∙ by other (p.place == other) refl; stands = tt }
  where
    by : (other : ℕ) (v : Bool) → (p.place == other) ≡ v → (if v then insert_key name_cmp (paths_of other es) p.path else paths_of other es) ≡ paths_of other (insert_entry name_cmp es p.path p.place)
    by other true o = put_own es p.path p.place other ix.sorted o
    by other false o = untouched es p.path p.place other ix.sorted o (other_some es p.path q other own (ap (λ n. n == other) (number_is q p.place same) ∙ o))

pub kept_moved : (es : Entries) (old new : List Pair) (p : Proposal) (q : ℕ) → IsIndexed es old (Some p) → found es p.path ≡ Some q → (q == p.place) ≡ false
    → IsChangedAt (remove_key (is_at (name_cmp p.path))) q old new → AreSorted (insert_entry name_cmp es p.path p.place) → IsIndexed (insert_entry name_cmp es p.path p.place) new None
kept_moved es old new p q ix own apart taken sorted = record {
  sorted = sorted;
  paths = λ other. taken.paths other ∙ ap (λ ps. if q == other then remove_key (is_at (name_cmp p.path)) ps else ps) (ix.paths other) ∙ by other (q == other) refl (p.place == other) refl;
  stands = tt;
}
  where
    by : (other : ℕ) (u : Bool) → (q == other) ≡ u → (v : Bool) → (p.place == other) ≡ v
        → (if u then remove_key (is_at (name_cmp p.path)) (if v then insert_key name_cmp (paths_of other es) p.path else paths_of other es) else (if v then insert_key name_cmp (paths_of other es) p.path else paths_of other es))
        ≡ paths_of other (insert_entry name_cmp es p.path p.place)
    by other true k true o = absurd (let clash : true ≡ false = sym ((Decides-eqb q p.place).1 (number_is q other k ∙ sym (number_is p.place other o))) ∙ apart in cc)
    by other true k false o = sym (paths_beside es p.path p.place other o ix.sorted)
    by other false k true o = put_own es p.path p.place other ix.sorted o
    by other false k false o = untouched es p.path p.place other ix.sorted o (other_some es p.path q other own k)

pub kept_needs : (labels : List (List ℕ × Who)) (es : Entries) (p : Proposal) → AreSorted es → needs_of labels (insert_entry name_cmp es p.path p.place) ≡ set_need (needs_of labels (without_proposed (Some p) es)) (need_of labels (p.path, p.place))
kept_needs labels es p s = by p.fresh
  where
    by : (v : Bool) → needs_of labels (insert_entry name_cmp es p.path p.place) ≡ set_need (needs_of labels (if v then remove_entry (is_at (name_cmp p.path)) es else es)) (need_of labels (p.path, p.place))
    by true = ap (needs_of labels) (sym (taken_and_put es p.path p.place s)) ∙ needs_with labels (remove_entry (is_at (name_cmp p.path)) es) p.path p.place
    by false = needs_with labels es p.path p.place

-- a proposal that is let go
pub gone_fresh : (es : Entries) (old new : List Pair) (p : Proposal) → IsIndexed es old (Some p) → p.fresh ≡ true → IsChangedAt (remove_key (is_at (name_cmp p.path))) p.place old new
    → AreSorted (remove_entry (is_at (name_cmp p.path)) es) → IsIndexed (remove_entry (is_at (name_cmp p.path)) es) new None
gone_fresh es old new p ix fresh taken sorted = record {
  sorted = sorted;
  paths = λ other. taken.paths other ∙ ap (λ ps. if p.place == other then remove_key (is_at (name_cmp p.path)) ps else ps) (ix.paths other) ∙ by other (p.place == other) refl;
  stands = tt;
}
  where
    own : found es p.path ≡ Some p.place
    own = ix.stands.2 fresh

    by : (other : ℕ) (v : Bool) → (p.place == other) ≡ v → (if v then remove_key (is_at (name_cmp p.path)) (if v then insert_key name_cmp (paths_of other es) p.path else paths_of other es) else (if v then insert_key name_cmp (paths_of other es) p.path else paths_of other es))
        ≡ paths_of other (remove_entry (is_at (name_cmp p.path)) es)
    by other true o = ap (remove_key (is_at (name_cmp p.path))) (is_among es p.path other ix.sorted (own ∙ ap Some (number_is p.place other o))) ∙ sym (paths_without es p.path other ix.sorted)
    by other false o = sym (paths_without es p.path other ix.sorted ∙ not_among es p.path other ix.sorted (other_some es p.path p.place other own o))

pub gone_there : (es : Entries) (old new : List Pair) (p : Proposal) (q : ℕ) → IsIndexed es old (Some p) → found es p.path ≡ Some q → (q == p.place) ≡ false → IsChangedAt (remove_key (is_at (name_cmp p.path))) p.place old new → IsIndexed es new None
gone_there es old new p q ix own apart taken = record {
  sorted = ix.sorted;
  paths = λ other. taken.paths other ∙ ap (λ ps. if p.place == other then remove_key (is_at (name_cmp p.path)) ps else ps) (ix.paths other) ∙ by other (p.place == other) refl;
  stands = tt;
}
  where
    by : (other : ℕ) (v : Bool) → (p.place == other) ≡ v → (if v then remove_key (is_at (name_cmp p.path)) (if v then insert_key name_cmp (paths_of other es) p.path else paths_of other es) else (if v then insert_key name_cmp (paths_of other es) p.path else paths_of other es)) ≡ paths_of other es
    by other true o = key_put_and_taken (paths_of other es) p.path (not_among es p.path other ix.sorted (other_some es p.path q other own (ap (λ n. q == n) (sym (number_is p.place other o)) ∙ apart)))
    by other false o = refl

pub gone_own : (es : Entries) (pairs : List Pair) (p : Proposal) → IsIndexed es pairs (Some p) → found es p.path ≡ Some p.place → IsIndexed es pairs None
gone_own es pairs p ix own = record { sorted = ix.sorted; paths = λ other. ix.paths other ∙ by other (p.place == other) refl; stands = tt }
  where
    by : (other : ℕ) (v : Bool) → (p.place == other) ≡ v → (if v then insert_key name_cmp (paths_of other es) p.path else paths_of other es) ≡ paths_of other es
    by other true o = is_among es p.path other ix.sorted (own ∙ ap Some (number_is p.place other o))
    by other false o = refl

-- a path that is dropped
pub dropped_own : (es : Entries) (old new : List Pair) (path : List ℕ) (q : ℕ) → IsIndexed es old None → found es path ≡ Some q → IsChangedAt (remove_key (is_at (name_cmp path))) q old new
    → AreSorted (remove_entry (is_at (name_cmp path)) es) → IsIndexed (remove_entry (is_at (name_cmp path)) es) new None
dropped_own es old new path q ix own taken sorted = record {
  sorted = sorted;
  paths = λ other. taken.paths other ∙ ap (λ ps. if q == other then remove_key (is_at (name_cmp path)) ps else ps) (ix.paths other) ∙ by other (q == other) refl;
  stands = tt;
}
  where
    by : (other : ℕ) (v : Bool) → (q == other) ≡ v → (if v then remove_key (is_at (name_cmp path)) (paths_of other es) else paths_of other es) ≡ paths_of other (remove_entry (is_at (name_cmp path)) es)
    by other true o = sym (paths_without es path other ix.sorted)
    by other false o = sym (paths_without es path other ix.sorted ∙ not_among es path other ix.sorted (other_some es path q other own o))

pub dropped_none : (es : Entries) (pairs : List Pair) (path : List ℕ) → IsIndexed es pairs None → found es path ≡ None → AreSorted (remove_entry (is_at (name_cmp path)) es) → IsIndexed (remove_entry (is_at (name_cmp path)) es) pairs None
dropped_none es pairs path ix none sorted = record {
  sorted = sorted;
  paths = λ other. ix.paths other ∙ sym (paths_without es path other ix.sorted ∙ not_among es path other ix.sorted (none_some es path other none));
  stands = tt;
}

-- needs by path
pub shown_paths : (labels : List (List ℕ × Who)) (es : Entries) → map (λ need. need.path) (needs_of labels es) ≡ map (λ e. e.0) es
shown_paths labels [] = refl
shown_paths labels (e ∷ es) = ap (λ l. e.0 ∷ l) (shown_paths labels es)

pub needs_sorted : (labels : List (List ℕ × Who)) (es : Entries) → AreSorted es → AreByPath (needs_of labels es)
needs_sorted labels es s = subst (IsStrictlySortedBy name_cmp) (sym (shown_paths labels es)) s

pub by_path : (labels : List (List ℕ × Who)) (es : Entries) (pairs : List Pair) (p : Option Proposal) → IsIndexed es pairs p → AreByPath (needs_of labels (without_proposed p es))
by_path labels es pairs None ix = needs_sorted labels es ix.sorted
by_path labels es pairs (Some p) ix = by p.fresh
  where
    by : (v : Bool) → AreByPath (needs_of labels (if v then remove_entry (is_at (name_cmp p.path)) es else es))
    by true = subst AreByPath (sym (needs_without labels es p.path)) (sorted_drop (needs_of labels es) p.path (needs_sorted labels es ix.sorted))
    by false = needs_sorted labels es ix.sorted

pub indexed_nil : IsIndexed [] [] None
unfolding IsStrictlySortedBy
indexed_nil = record { sorted = tt; paths = λ place. refl; stands = tt }

pub beyond_pairs : (es : Entries) (pairs : List Pair) → IsIndexed es pairs None → (e : List ℕ × ℕ) → Contains es e → e.1 < length pairs
beyond_pairs es pairs ix e m = elim (cases_lt e.1 (length pairs)) [ inl k ↦ k | inr k ↦ absurd (has_path es e m (sym (ix.paths e.1) ∙ beyond pairs e.1 k)) ]
