-- The first need that is lost is the earliest of the pairs' first paths.
use Rattle.std.proofs.Common.{◌≡◌, ℕ, suc, ◌<◌, ◌≤◌, ◌+◌, Bool, true, false, List, [], ◌∷◌, length, get_or, drop, Option, None, Some, Contains, map, refl, sym, ap, subst, ◌∙◌, arith}
use Rattle.std.specs.Prelude.{◌==◌, ◌&&◌, ◌||◌, not, cond, nat_lt, if◌then◌else◌}
use Rattle.std.specs.List.{filter}
use Rattle.std.specs.List.Sorted.{IsStrictlySortedBy}
use Rattle.std.specs.Option.{option_map}
use Rattle.std.specs.Ordering.{is_lt, ordering_reverse}
use Rattle.std.proofs.lemmas.Bool.{lt-ltb}
use Rattle.std.proofs.lemmas.Bool.Decides.{Decides-eqb}
use Rattle.std.proofs.lemmas.Cmp.{nat_list_cmp_total}
use Rattle.kr_config.specs.declared.who.Who.{Who}
use Rattle.kr_config.specs.declared.who.Who.TheVariants.{Identity}
use Rattle.kr_config.specs.Kept.{ConfigEntry}
use Rattle.kr_config.specs.Lists.{list_of}
use Rattle.kr_config.specs.Nexts.{name_cmp, earlier}
use Rattle.kr_judge.specs.declared.pair.Pair.{Pair}
use Rattle.kr_judge.specs.Providers.{has}
use Rattle.kr_judge.specs.Verdicts.{dropped_needs, first}
use Rattle.kr_judge.specs.inner.Indexes.{AreSorted, need_of, needs_of, paths_of, labels_of, kept_paths, IsIndexed}
use Rattle.kr_judge.specs.inner.Earliest.{path_cmp, at_path, stored_by, lost_path, earliest}
use Rattle.std.specs.declared.cmp.Ordering.{Ordering}
use Rattle.kr_judge.proofs.Parts.{drop_at, drop_end}
use Rattle.kr_config.proofs.ListParts.{here, there}
use Rattle.kr_judge.proofs.Entries.{Entries, AreAbove}
use Rattle.kr_judge.proofs.Indexed.{beyond_pairs}

abbrev by_entry : List ℕ × ℕ → List ℕ × ℕ → Ordering
by_entry a b = name_cmp a.0 b.0

above_filter : (test : List ℕ × ℕ → Bool) (path : List ℕ) (es : Entries) → AreAbove path (map (λ e. e.0) es) → AreAbove path (map (λ e. e.0) (filter test es))
above_filter test path [] all = tt
above_filter test path (e ∷ es) all = by (test e) (above_filter test path es all.1)
  where
    by : (v : Bool) → AreAbove path (map (λ x. x.0) (filter test es)) → AreAbove path (map (λ x. x.0) (cond v (e ∷ filter test es) (filter test es)))
    by true rest = (all.0, rest)
    by false rest = rest

either : {X : Type 0} (v : Bool) (x : X) → (if v then Some x else Some x) ≡ Some x
either true x = refl
either false x = refl

stays_first : (e : List ℕ × ℕ) (rest : Entries) → AreAbove e.0 (map (λ x. x.0) rest) → earlier by_entry (Some e) (first rest) ≡ Some e
stays_first e [] all = refl
stays_first e (y ∷ ys) all = ap (λ v. if v then Some y else Some e) (ap is_lt (nat_list_cmp_total.antisymm y.0 e.0 ∙ ap ordering_reverse all.0))

comes_first : (e : List ℕ × ℕ) (rest : Entries) → AreAbove e.0 (map (λ x. x.0) rest) → earlier by_entry (first rest) (Some e) ≡ Some e
comes_first e [] all = refl
comes_first e (x ∷ xs) all = ap (λ v. if v then Some e else Some x) (ap is_lt all.0)

-- the first that passes one of two tests
first_either : (t u : List ℕ × ℕ → Bool) (es : Entries) → AreSorted es → first (filter (λ e. t e || u e) es) ≡ earlier by_entry (first (filter t es)) (first (filter u es))
unfolding IsStrictlySortedBy
first_either t u [] s = refl
first_either t u (e ∷ es) s = by (t e) (u e) (first_either t u es s.1)
  where
    by : (v w : Bool) → first (filter (λ x. t x || u x) es) ≡ earlier by_entry (first (filter t es)) (first (filter u es))
        → first (cond (v || w) (e ∷ filter (λ x. t x || u x) es) (filter (λ x. t x || u x) es)) ≡ earlier by_entry (first (cond v (e ∷ filter t es) (filter t es))) (first (cond w (e ∷ filter u es) (filter u es)))
    by true true rest = sym (either (is_lt (name_cmp e.0 e.0)) e)
    by true false rest = sym (stays_first e (filter u es) (above_filter u e.0 es s.0))
    by false true rest = sym (comes_first e (filter t es) (above_filter t e.0 es s.0))
    by false false rest = rest

abbrev label : List (List ℕ × Who) → ℕ → List ℕ × Who
label labels i = get_or labels i ([], Identity)

abbrev lost_label : List ConfigEntry → List ℕ × Who → Bool
lost_label rows own = not (has (list_of rows own.0) own.1)

abbrev lost : List ConfigEntry → List (List ℕ × Who) → List ℕ × ℕ → Bool
lost rows labels e = lost_label rows (label labels e.1)

abbrev named : List (List ℕ × Who) → List ℕ × ℕ → List ℕ × Who
named labels e = (e.0, (label labels e.1).1)

abbrev shown : List (List ℕ × Who) → Option (List ℕ × ℕ) → Option (List ℕ × Who)
shown labels o = option_map (named labels) o

shown_earlier : (labels : List (List ℕ × Who)) (a b : Option (List ℕ × ℕ)) → shown labels (earlier by_entry a b) ≡ earlier path_cmp (shown labels a) (shown labels b)
shown_earlier labels None b = refl
shown_earlier labels (Some x) None = refl
shown_earlier labels (Some x) (Some y) = by (is_lt (name_cmp y.0 x.0))
  where
    by : (v : Bool) → shown labels (if v then Some y else Some x) ≡ (if v then shown labels (Some y) else shown labels (Some x))
    by true = refl
    by false = refl

-- the first of one pair
at_pair : (rows : List ConfigEntry) (labels : List (List ℕ × Who)) (k : ℕ) (es : Entries) → shown labels (first (filter (λ e. (e.1 == k) && lost rows labels e) es))
    ≡ (if lost_label rows (label labels k) then option_map (at_path (label labels k).1) (first (paths_of k es)) else None)
at_pair rows labels k [] = by (lost_label rows (label labels k))
  where
    by : (v : Bool) → None ≡ (if v then option_map (at_path (label labels k).1) None else None)
    by true = refl
    by false = refl
at_pair rows labels k (e ∷ es) = by (e.1 == k) refl (at_pair rows labels k es)
  where
    rest_of : List ℕ × ℕ → Bool
    rest_of x = (x.1 == k) && lost rows labels x

    by : (v : Bool) → (e.1 == k) ≡ v → shown labels (first (filter rest_of es)) ≡ (if lost_label rows (label labels k) then option_map (at_path (label labels k).1) (first (paths_of k es)) else None)
        → shown labels (first (cond (v && lost rows labels e) (e ∷ filter rest_of es) (filter rest_of es)))
        ≡ (if lost_label rows (label labels k) then option_map (at_path (label labels k).1) (first (map (λ x. x.0) (cond v (e ∷ filter (λ x. x.1 == k) es) (filter (λ x. x.1 == k) es)))) else None)
    by false q rest = rest
    by true q rest = subst (λ n. shown labels (first (cond (lost_label rows (label labels n)) (e ∷ filter rest_of es) (filter rest_of es)))
        ≡ (if lost_label rows (label labels k) then Some (at_path (label labels k).1 e.0) else None)) (sym ((Decides-eqb e.1 k).0 q)) (own (lost_label rows (label labels k)) refl)
      where
        same_who : (label labels e.1).1 ≡ (label labels k).1
        same_who = ap (λ n. (label labels n).1) ((Decides-eqb e.1 k).0 q)

        own : (w : Bool) → lost_label rows (label labels k) ≡ w → shown labels (first (cond w (e ∷ filter rest_of es) (filter rest_of es))) ≡ (if w then Some (at_path (label labels k).1 e.0) else None)
        own true l = ap (λ (who : Who). Some (at_path who e.0)) same_who
        own false l = rest ∙ ap (λ w. if w then option_map (at_path (label labels k).1) (first (paths_of k es)) else None) l

same_tests : (t u : List ℕ × ℕ → Bool) (es : Entries) → ((e : List ℕ × ℕ) → Contains es e → t e ≡ u e) → filter t es ≡ filter u es
same_tests t u [] h = refl
same_tests t u (e ∷ es) h = ap (λ v. cond v (e ∷ filter t es) (filter t es)) (h e (here e es)) ∙ ap (λ l. cond (u e) (e ∷ l) l) (same_tests t u es (λ x m. h x (there e x es m)))

below_next : (a k : ℕ) → nat_lt a (k + 1) ≡ (nat_lt a k || (a == k))
below_next a k = grind arith

parted : (u v w : Bool) → ((u || v) && w) ≡ ((u && w) || (v && w))
parted true v true = refl
parted true true false = refl
parted other v w = refl

abbrev among : List ConfigEntry → List (List ℕ × Who) → ℕ → List ℕ × ℕ → Bool
among rows labels k e = nat_lt e.1 k && lost rows labels e

one_more : (rows : List ConfigEntry) (labels : List (List ℕ × Who)) (k : ℕ) (es : Entries) → AreSorted es
    → first (filter (among rows labels (k + 1)) es) ≡ earlier by_entry (first (filter (among rows labels k) es)) (first (filter (λ e. (e.1 == k) && lost rows labels e) es))
one_more rows labels k es s =
    ap (first {X = List ℕ × ℕ}) (same_tests (among rows labels (k + 1)) (λ e. among rows labels k e || ((e.1 == k) && lost rows labels e)) es
    (λ e m. ap (λ v. v && lost rows labels e) (below_next e.1 k) ∙ parted (nat_lt e.1 k) (e.1 == k) (lost rows labels e)))
    ∙ first_either (among rows labels k) (λ e. (e.1 == k) && lost rows labels e) es s

turned : {X : Type 0} (v : Bool) (x y : X) → (if not v then x else y) ≡ (if v then y else x)
turned true x y = refl
turned false x y = refl

-- what the pair at a place loses
pair_lost : (rows : List ConfigEntry) (labels : List (List ℕ × Who)) (k : ℕ) (es : Entries) (pair : Pair) → (pair.resource, pair.who) ≡ label labels k → pair.paths ≡ paths_of k es
    → lost_path rows pair ≡ shown labels (first (filter (λ e. (e.1 == k) && lost rows labels e) es))
pair_lost rows labels k es pair own paths =
    sym (turned (has (list_of rows pair.resource) pair.who) (option_map (at_path pair.who) (first pair.paths)) None)
    ∙ ap (λ (l : List ℕ × Who). if lost_label rows l then option_map (at_path l.1) (first pair.paths) else None) own
    ∙ ap (λ ps. if lost_label rows (label labels k) then option_map (at_path (label labels k).1) (first ps) else None) paths
    ∙ sym (at_pair rows labels k es)

go : (rows : List ConfigEntry) (labels : List (List ℕ × Who)) (es : Entries) → AreSorted es → (k n : ℕ) (rest : List Pair) (best : Option (List ℕ × Who)) → n ≡ k + length rest
    → ((i : ℕ) → i < length rest → get_or (kept_paths rest) i [] ≡ paths_of (k + i) es) → ((i : ℕ) → i < length rest → label (labels_of rest) i ≡ label labels (k + i))
    → best ≡ shown labels (first (filter (among rows labels k) es)) → earliest rows best rest ≡ shown labels (first (filter (among rows labels n) es))
go rows labels es s k n [] best e paths own is = is ∙ ap (λ m. shown labels (first (filter (among rows labels m) es))) (omega (arith, e))
go rows labels es s k n (p ∷ ps) best e paths own is = go rows labels es s (k + 1) n ps (earlier path_cmp best (lost_path rows p)) (omega (arith, e))
    (λ i h. paths (suc i) (omega (arith, h)) ∙ ap (λ m. paths_of m es) (omega arith))
    (λ i h. own (suc i) (omega (arith, h)) ∙ ap (label labels) (omega arith))
    (ap (λ o. earlier path_cmp o (lost_path rows p)) is
    ∙ ap (earlier path_cmp (shown labels (first (filter (among rows labels k) es)))) (pair_lost rows labels k es p (own 0 (omega arith) ∙ ap (label labels) (omega arith)) (paths 0 (omega arith) ∙ ap (λ m. paths_of m es) (omega arith)))
    ∙ sym (shown_earlier labels (first (filter (among rows labels k) es)) (first (filter (λ x. (x.1 == k) && lost rows labels x) es)))
    ∙ ap (shown labels) (sym (one_more rows labels k es s)))

nothing_below : (rows : List ConfigEntry) (labels : List (List ℕ × Who)) (es : Entries) → filter (among rows labels 0) es ≡ []
nothing_below rows labels [] = refl
nothing_below rows labels (e ∷ es) = ap (λ v. cond (v && lost rows labels e) (e ∷ filter (among rows labels 0) es) (filter (among rows labels 0) es)) (none_below e.1) ∙ nothing_below rows labels es
  where
    none_below : (n : ℕ) → nat_lt n 0 ≡ false
    none_below n = grind arith

all_lost : (rows : List ConfigEntry) (labels : List (List ℕ × Who)) (es : Entries) (n : ℕ) → ((e : List ℕ × ℕ) → Contains es e → e.1 < n) → filter (among rows labels n) es ≡ filter (lost rows labels) es
all_lost rows labels es n h = same_tests (among rows labels n) (lost rows labels) es (λ e m. ap (λ v. v && lost rows labels e) (lt-ltb e.1 n (h e m)))

lost_needs : (rows : List ConfigEntry) (labels : List (List ℕ × Who)) (es : Entries) → dropped_needs rows (needs_of labels es) ≡ needs_of labels (filter (lost rows labels) es)
lost_needs rows labels [] = refl
lost_needs rows labels (e ∷ es) = by (lost rows labels e) (lost_needs rows labels es)
  where
    by : (v : Bool) → dropped_needs rows (needs_of labels es) ≡ needs_of labels (filter (lost rows labels) es)
        → cond v (need_of labels e ∷ dropped_needs rows (needs_of labels es)) (dropped_needs rows (needs_of labels es)) ≡ needs_of labels (cond v (e ∷ filter (lost rows labels) es) (filter (lost rows labels) es))
    by true rest = ap (λ l. need_of labels e ∷ l) rest
    by false rest = rest

first_shown : (labels : List (List ℕ × Who)) (es : Entries) → shown labels (first es) ≡ option_map stored_by (first (needs_of labels es))
first_shown labels [] = refl
first_shown labels (e ∷ es) = refl

pub earliest_first : (rows : List ConfigEntry) (es : Entries) (pairs : List Pair) → IsIndexed es pairs None
    → earliest rows None pairs ≡ option_map stored_by (first (dropped_needs rows (needs_of (labels_of pairs) es)))
earliest_first rows es pairs ix =
    let labels : List (List ℕ × Who) = labels_of pairs in
    go rows labels es ix.sorted 0 (length pairs) pairs None (omega arith) (λ i h. ix.paths i ∙ ap (λ m. paths_of m es) (omega arith)) (λ i h. ap (label labels) (omega arith))
    (ap (λ l. shown labels (first l)) (sym (nothing_below rows labels es)))
    ∙ ap (λ l. shown labels (first l)) (all_lost rows labels es (length pairs) (λ e m. beyond_pairs es pairs ix e m))
    ∙ first_shown labels (filter (lost rows labels) es)
    ∙ ap (λ l. option_map stored_by (first l)) (sym (lost_needs rows labels es))

-- the loop over the pairs
pub record AreEarliest (rows : List ConfigEntry) (pairs : List Pair) (j : ℕ) (best : Option (List ℕ × Who)) : Type 0 where
  pub same : earliest rows best (drop j pairs) ≡ earliest rows None pairs

pub earliest_begin : (rows : List ConfigEntry) (pairs : List Pair) → AreEarliest rows pairs 0 None
earliest_begin rows pairs = record { same = refl }

pub earliest_more : (rows : List ConfigEntry) (pairs : List Pair) (j : ℕ) (pair : Pair) (best next : Option (List ℕ × Who)) → AreEarliest rows pairs j best → j < length pairs → pair ≡ get_or pairs j pair
    → next ≡ earlier path_cmp best (lost_path rows pair) → AreEarliest rows pairs (j + 1) next
earliest_more rows pairs j pair best next before h is e = record {
  same = ap (λ b. earliest rows b (drop (j + 1) pairs)) e ∙ ap (earliest rows best) (sym (drop_at pairs j pair h is)) ∙ before.same;
}

pub earliest_end : (rows : List ConfigEntry) (pairs : List Pair) (j : ℕ) (best : Option (List ℕ × Who)) → AreEarliest rows pairs j best → length pairs ≤ j → best ≡ earliest rows None pairs
earliest_end rows pairs j best before h = ap (earliest rows best) (sym (drop_end pairs j h)) ∙ before.same
