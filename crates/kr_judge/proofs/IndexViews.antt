-- What is seen of the needs after each call.
use Rattle.std.proofs.Common.{◌≡◌, ◌≢◌, ℕ, suc, ◌<◌, ◌+◌, Bool, true, false, List, [], ◌∷◌, Option, None, Some, Result, Ok, Err, OnErr, Contains, length, map, get_or, refl, sym, ap, subst, ◌∙◌, inl, inr, arith}
use Rattle.std.specs.Prelude.{◌==◌, cond}
use Rattle.std.specs.List.{filter}
use Rattle.std.proofs.lemmas.List.{length-map}
use Rattle.std.proofs.lemmas.Bool.Decides.{Decides-eqb}
use Rattle.std.specs.Map.{remove_entry}
use Rattle.std.specs.BTreeMap.{insert_entry, is_at}
use Rattle.kr_config.specs.declared.who.Who.{Who}
use Rattle.kr_config.specs.declared.who.Who.TheVariants.{Identity}
use Rattle.kr_config.specs.Nexts.{name_cmp}
use Rattle.kr_judge.specs.declared.need.Need.{Need}
use Rattle.kr_judge.specs.declared.pair.Pair.{Pair}
use Rattle.kr_judge.specs.declared.proposal.Proposal.{Proposal}
use Rattle.kr_judge.specs.Boards.{drop_need, settle_need}
use Rattle.kr_judge.specs.inner.Indexes.{NeedsState, AreApart, AreSoManyApart, GrowsWith, need_of, needs_of, paths_of, labels_of, without_proposed, IsIndexed, AreAsBefore, AreSorted, needs_view}
use Rattle.std.specs.Option.{option_map}
use Rattle.kr_config.specs.Kept.{ConfigEntry}
use Rattle.kr_judge.specs.Verdicts.{dropped_needs, first}
use Rattle.kr_judge.specs.inner.Earliest.{stored_by, earliest}
use Rattle.kr_judge.specs.inner.Places.{label_at, paths_at, AreNeeded, GrowsFor}
use Rattle.kr_config.proofs.ListParts.{here, there, cases}
use Rattle.kr_judge.proofs.Groups.{same_length}
use Rattle.kr_judge.proofs.Earliest.{earliest_first}
use Rattle.kr_judge.proofs.Entries.{Entries, needs_without}
use Rattle.kr_judge.proofs.Indexed.{kept_needs, needs_before}

pub on_err : {T E : Type 0} {P : Type 0} (result : Result T E) → P → OnErr result P
on_err (Ok x) p = tt
on_err (Err e) p = p

no_proposal : (es : Entries) (pairs : List Pair) (p : Option Proposal) (s : NeedsState) → needs_view es pairs p ≡ s → s.proposal ≡ None → p ≡ None
no_proposal es pairs None s e n = refl
no_proposal es pairs (Some p) s e n = (let clash : Some (need_of (labels_of pairs) (p.path, p.place)) ≡ None = ap (λ (t : NeedsState). t.proposal) e ∙ n in cc)

pub dropped_view : (es all : Entries) (pairs new : List Pair) (p : Option Proposal) (s : NeedsState) (path : List ℕ) → needs_view es pairs p ≡ s → s.proposal ≡ None → all ≡ remove_entry (is_at (name_cmp path)) es → labels_of new ≡ labels_of pairs
    → needs_view all new p ≡ record { needs = drop_need s.needs path; proposal = s.proposal; pairs = s.pairs }
dropped_view es all pairs new p s path e n gone labels = by p (no_proposal es pairs p s e n) e
  where
    by : (q : Option Proposal) → q ≡ None → needs_view es pairs q ≡ s → needs_view all new q ≡ record { needs = drop_need s.needs path; proposal = s.proposal; pairs = s.pairs }
    by None h f = ap (λ (needs : List Need). record { needs = needs; proposal = None; pairs = length new })
        (ap (λ l. needs_of l all) labels ∙ ap (needs_of (labels_of pairs)) gone ∙ needs_without (labels_of pairs) es path ∙ ap (λ (t : NeedsState). drop_need t.needs path) f)
        ∙ ap (λ (o : Option Need). record { needs = drop_need s.needs path; proposal = o; pairs = length new }) (sym n)
        ∙ ap (λ k. record { needs = drop_need s.needs path; proposal = s.proposal; pairs = k }) (same_length pairs new labels ∙ ap (λ (t : NeedsState). t.pairs) f)
    by (Some q) h f = cc

pub kept_view : (es all : Entries) (pairs new : List Pair) (old after : Option Proposal) (p : Proposal) (s : NeedsState) (keep : Bool) → needs_view es pairs old ≡ s → Some p ≡ old → after ≡ None → AreSorted es → keep ≡ true
    → all ≡ insert_entry name_cmp es p.path p.place → labels_of new ≡ labels_of pairs → needs_view all new after ≡ record { needs = settle_need keep s.needs s.proposal; proposal = None; pairs = s.pairs }
kept_view es all pairs new old after p s keep e is none sorted k put labels =
    let f : needs_view es pairs (Some p) ≡ s = ap (needs_view es pairs) is ∙ e in
    ap (needs_view all new) none
    ∙ ap (λ (needs : List Need). record { needs = needs; proposal = None; pairs = length new }) (ap (λ l. needs_of l all) labels ∙ ap (needs_of (labels_of pairs)) put ∙ kept_needs (labels_of pairs) es p sorted)
    ∙ ap (λ n. record { needs = settle_need true (needs_view es pairs (Some p)).needs (needs_view es pairs (Some p)).proposal; proposal = None; pairs = n }) (same_length pairs new labels)
    ∙ ap (λ (t : NeedsState). record { needs = settle_need true t.needs t.proposal; proposal = None; pairs = t.pairs }) f
    ∙ ap (λ v. record { needs = settle_need v s.needs s.proposal; proposal = None; pairs = s.pairs }) (sym k)

pub unmade_view : (es all : Entries) (pairs new : List Pair) (old after : Option Proposal) (p : Proposal) (s : NeedsState) (keep : Bool) → needs_view es pairs old ≡ s → Some p ≡ old → after ≡ None → keep ≡ false
    → all ≡ without_proposed (Some p) es → labels_of new ≡ labels_of pairs → needs_view all new after ≡ record { needs = settle_need keep s.needs s.proposal; proposal = None; pairs = s.pairs }
unmade_view es all pairs new old after p s keep e is none k gone labels =
    let f : needs_view es pairs (Some p) ≡ s = ap (needs_view es pairs) is ∙ e in
    ap (needs_view all new) none
    ∙ ap (λ (needs : List Need). record { needs = needs; proposal = None; pairs = length new }) (ap (λ l. needs_of l all) labels ∙ ap (needs_of (labels_of pairs)) gone)
    ∙ ap (λ n. record { needs = settle_need false (needs_view es pairs (Some p)).needs (needs_view es pairs (Some p)).proposal; proposal = None; pairs = n }) (same_length pairs new labels)
    ∙ ap (λ (t : NeedsState). record { needs = settle_need false t.needs t.proposal; proposal = None; pairs = t.pairs }) f
    ∙ ap (λ v. record { needs = settle_need v s.needs s.proposal; proposal = None; pairs = s.pairs }) (sym k)

pub before_view : (es all : Entries) (old mid new : List Pair) (p : Option Proposal) (s : NeedsState) → needs_view es old p ≡ s → s.proposal ≡ None → IsIndexed es old p → AreAsBefore old mid → labels_of new ≡ labels_of mid → all ≡ es
    → needs_view all new p ≡ record s { pairs = length new }
before_view es all old mid new p s e n ix before labels same = by p (no_proposal es old p s e n) e ix
  where
    by : (q : Option Proposal) → q ≡ None → needs_view es old q ≡ s → IsIndexed es old q → needs_view all new q ≡ record s { pairs = length new }
    by None h f i = ap (λ (needs : List Need). record { needs = needs; proposal = None; pairs = length new }) (ap (λ l. needs_of l all) labels ∙ ap (needs_of (labels_of mid)) same ∙ needs_before es old mid i before)
        ∙ ap (λ (t : NeedsState). record t { pairs = length new }) f
    by (Some q) h f i = cc

pub made_view : (es all : Entries) (old mid new : List Pair) (p : Option Proposal) (s : NeedsState) (made : Proposal) (path resource : List ℕ) (who : Who) (place : ℕ) → needs_view es old p ≡ s → s.proposal ≡ None → IsIndexed es old p
    → AreAsBefore old mid → labels_of new ≡ labels_of mid → without_proposed (Some made) all ≡ es → made.path ≡ path → made.place ≡ place → get_or (labels_of mid) place ([], Identity) ≡ (resource, who)
    → needs_view all new (Some made) ≡ record { needs = s.needs; proposal = Some (record { path = path; resource = resource; who = who }); pairs = length new }
made_view es all old mid new p s made path resource who place e n ix before labels gone at_path at_place label = by p (no_proposal es old p s e n) e ix
  where
    own : get_or (labels_of new) made.place ([], Identity) ≡ (resource, who)
    own = ap (λ l. get_or l made.place ([], Identity)) labels ∙ ap (λ i. get_or (labels_of mid) i ([], Identity)) at_place ∙ label

    need : need_of (labels_of new) (made.path, made.place) ≡ record { path = path; resource = resource; who = who }
    need = ap (λ (l : List ℕ × Who). record { path = made.path; resource = l.0; who = l.1 }) own ∙ ap (λ q. record { path = q; resource = resource; who = who }) at_path

    by : (q : Option Proposal) → q ≡ None → needs_view es old q ≡ s → IsIndexed es old q
        → needs_view all new (Some made) ≡ record { needs = s.needs; proposal = Some (record { path = path; resource = resource; who = who }); pairs = length new }
    by None h f i = ap (λ (o : Need). record { needs = needs_of (labels_of new) (without_proposed (Some made) all); proposal = Some o; pairs = length new }) need
        ∙ ap (λ (needs : List Need). record { needs = needs; proposal = Some (record { path = path; resource = resource; who = who }); pairs = length new })
        (ap (λ l. needs_of l (without_proposed (Some made) all)) labels ∙ ap (needs_of (labels_of mid)) gone ∙ needs_before es old mid i before ∙ ap (λ (t : NeedsState). t.needs) f)
    by (Some q) h f i = cc

-- a need of each pair, of its first path
abbrev first_path : List (List ℕ) → List ℕ
first_path [] = []
first_path (path ∷ paths) = path

abbrev one_each : List Pair → List Need
one_each pairs = map (λ (pair : Pair). record { path = first_path pair.paths; resource = pair.resource; who = pair.who }) pairs

their_labels : (pairs : List Pair) → map (λ (need : Need). (need.resource, need.who)) (one_each pairs) ≡ labels_of pairs
their_labels [] = refl
their_labels (p ∷ ps) = ap (λ l. (p.resource, p.who) ∷ l) (their_labels ps)

path_in : (place : ℕ) (es : Entries) (path : List ℕ) → Contains (paths_of place es) path → Contains es (path, place)
path_in place [] path m = absurd (omega (arith, m.1))
path_in place (e ∷ es) path m = by (e.1 == place) refl m (path_in place es path)
  where
    by : (v : Bool) → (e.1 == place) ≡ v → Contains (map (λ x. x.0) (cond v (e ∷ filter (λ x. x.1 == place) es) (filter (λ x. x.1 == place) es))) path → (Contains (paths_of place es) path → Contains es (path, place)) → Contains (e ∷ es) (path, place)
    by true o k rest = elim (cases e.0 path (paths_of place es) k) [
      | inl q ↦ subst (Contains (e ∷ es)) (ap (λ x. (x, e.1)) q ∙ ap (λ n. (path, n)) ((Decides-eqb e.1 place).0 o)) (here e es)
      | inr n ↦ there e (path, place) es (rest n)
    ]
    by false o k rest = there e (path, place) es (rest k)

need_in : (labels : List (List ℕ × Who)) (es : Entries) (e : List ℕ × ℕ) → Contains es e → Contains (needs_of labels es) (need_of labels e)
need_in labels [] e m = absurd (omega (arith, m.1))
need_in labels (x ∷ xs) e m = elim (cases x e xs m) [
  | inl q ↦ subst (λ y. Contains (needs_of labels (x ∷ xs)) (need_of labels y)) q (here (need_of labels x) (needs_of labels xs))
  | inr n ↦ there (need_of labels x) (need_of labels e) (needs_of labels xs) (need_in labels xs e n)
]

own_need : (labels : List (List ℕ × Who)) (es : Entries) (place : ℕ) (paths : List (List ℕ)) (own : List ℕ × Who) → paths ≡ paths_of place es → paths ≢ [] → own ≡ get_or labels place ([], Identity)
    → Contains (needs_of labels es) (record { path = first_path paths; resource = own.0; who = own.1 })
own_need labels es place [] own e some label = absurd (some refl)
own_need labels es place (path ∷ paths) own e some label = subst (λ (l : List ℕ × Who). Contains (needs_of labels es) (record { path = path; resource = l.0; who = l.1 })) (sym label)
    (need_in labels es (path, place) (path_in place es path (subst (λ l. Contains l path) e (here path paths))))

among_needs : (labels : List (List ℕ × Who)) (es : Entries) (rest : List Pair) (k : ℕ) → ((i : ℕ) → i < length rest → paths_at rest i ≡ paths_of (k + i) es) → ((i : ℕ) → i < length rest → paths_at rest i ≢ [])
    → ((i : ℕ) → i < length rest → label_at rest i ≡ get_or labels (k + i) ([], Identity)) → (need : Need) → Contains (one_each rest) need → Contains (needs_of labels es) need
among_needs labels es [] k paths some own need m = absurd (omega (arith, m.1))
among_needs labels es (p ∷ ps) k paths some own need m = elim (cases (record { path = first_path p.paths; resource = p.resource; who = p.who }) need (one_each ps) m) [
  | inl q ↦ subst (Contains (needs_of labels es)) q (own_need labels es k p.paths (p.resource, p.who) (paths 0 (omega arith) ∙ ap (λ n. paths_of n es) (omega arith)) (some 0 (omega arith))
      (own 0 (omega arith) ∙ ap (λ n. get_or labels n ([], Identity)) (omega arith)))
  | inr n ↦ among_needs labels es ps (k + 1) (λ i h. paths (suc i) (omega (arith, h)) ∙ ap (λ m. paths_of m es) (omega arith)) (λ i h. some (suc i) (omega (arith, h)))
      (λ i h. own (suc i) (omega (arith, h)) ∙ ap (λ m. get_or labels m ([], Identity)) (omega arith)) need n
]

so_many : (es : Entries) (pairs : List Pair) → IsIndexed es pairs None → AreApart (labels_of pairs) → AreNeeded pairs → AreSoManyApart (needs_of (labels_of pairs) es) (length pairs)
so_many es pairs ix apart needed = (
  one_each pairs,
  among_needs (labels_of pairs) es pairs 0 (λ i h. ix.paths i ∙ ap (λ m. paths_of m es) (omega arith)) needed (λ i h. ap (label_at pairs) (omega arith)),
  subst AreApart (sym (their_labels pairs)) apart,
  length-map {B = Need} pairs (λ pair. record { path = first_path pair.paths; resource = pair.resource; who = pair.who }),
)

pub grown : (es : Entries) (old mid new : List Pair) (p : Option Proposal) (s : NeedsState) → needs_view es old p ≡ s → s.proposal ≡ None → IsIndexed es old p → AreApart (labels_of old) → labels_of new ≡ labels_of mid → GrowsFor old mid → GrowsWith s.needs s.pairs (length new)
grown es old mid new p s e n ix apart labels grows = by p (no_proposal es old p s e n) e ix
  where
    by : (q : Option Proposal) → q ≡ None → needs_view es old q ≡ s → IsIndexed es old q → GrowsWith s.needs s.pairs (length new)
    by None h f i = elim grows [
      | inl same ↦ inl (same_length mid new labels ∙ same ∙ ap (λ (t : NeedsState). t.pairs) f)
      | inr more ↦ inr (subst (λ (t : NeedsState). AreSoManyApart t.needs t.pairs) f (so_many es old i apart more.0), same_length mid new labels ∙ more.1 ∙ ap (λ (t : NeedsState). t.pairs + 1) f)
    ]
    by (Some q) h f i = cc

pub dropped_first : (rows : List ConfigEntry) (es : Entries) (pairs : List Pair) (p : Option Proposal) (s : NeedsState) → needs_view es pairs p ≡ s → s.proposal ≡ None → IsIndexed es pairs p
    → earliest rows None pairs ≡ option_map stored_by (first (dropped_needs rows s.needs))
dropped_first rows es pairs p s e n ix = by p (no_proposal es pairs p s e n) e ix
  where
    by : (q : Option Proposal) → q ≡ None → needs_view es pairs q ≡ s → IsIndexed es pairs q → earliest rows None pairs ≡ option_map stored_by (first (dropped_needs rows s.needs))
    by None h f i = earliest_first rows es pairs i ∙ ap (λ (t : NeedsState). option_map stored_by (first (dropped_needs rows t.needs))) f
    by (Some q) h f i = cc
