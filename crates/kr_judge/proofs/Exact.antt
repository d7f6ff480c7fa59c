-- What scans of the needs and of the generations give has just the members that it is to have.
use Rattle.std.proofs.Common.{◌≡◌, ℕ, zero, suc, ◌<◌, ◌+◌, Bool, true, false, List, [], ◌∷◌, Some, Contains, map, refl, sym, ap, subst, ◌∙◌, ◌⊎◌, inl, inr, arith}
use Rattle.std.specs.Prelude.{cond}
use Rattle.std.specs.Str.{bytes_eq}
use Rattle.std.specs.Cmp.{first_so, second_so, nat_cmp_is}
use Rattle.std.specs.List.{AllByRecursion, filter, slice_get}
use Rattle.std.specs.List.Sorted.{IsStrictlySortedBy}
use Rattle.std.specs.Option.{IsSomeAnd}
use Rattle.std.specs.Ordering.{nat_cmp}
use Rattle.std.specs.declared.cmp.Ordering.TheVariants.{Less, Equal}
use Rattle.std.proofs.lemmas.Cmp.{nat_list_cmp_total, tied_itself}
use Rattle.std.proofs.lemmas.Slice.Eq.{bytes_eq-Decides}
use Rattle.kr_config.specs.declared.who.Who.{Who}
use Rattle.kr_config.specs.Nexts.{name_cmp}
use Rattle.kr_judge.specs.declared.need.Need.{Need}
use Rattle.kr_judge.specs.Boards.{GenerationState, is_live, AreByPath, need_at}
use Rattle.kr_judge.specs.Providers.{same_who}
use Rattle.kr_judge.specs.Scans.{is_for, paths_for, live_from, live_numbers}
use Rattle.kr_judge.specs.Laws.{PathsAreNeeds, NumbersAreLive}
use Rattle.kr_config.proofs.ListParts.{here, there, cases}
use Rattle.kr_judge.proofs.Members.{is_one, itself, its_own, and_true}

-- paths after this one
abbrev AreAfter : List ℕ → List (List ℕ) → Type 0
AreAfter path paths = AllByRecursion (λ other. name_cmp path other ≡ Less) paths

still_after : (resource : List ℕ) (who : Who) (path : List ℕ) (needs : List Need) → AreAfter path (map (λ need. need.path) needs) → AreAfter path (paths_for resource who needs)
still_after resource who path [] all = tt
still_after resource who path (need ∷ needs) all = by (is_for resource who need) (still_after resource who path needs all.1)
  where
    by : (v : Bool) → AreAfter path (paths_for resource who needs) → AreAfter path (map (λ need. need.path) (cond v (need ∷ filter (is_for resource who) needs) (filter (is_for resource who) needs)))
    by true rest = (all.0, rest)
    by false rest = rest

sorted_paths : (resource : List ℕ) (who : Who) (needs : List Need) → AreByPath needs → IsStrictlySortedBy name_cmp (paths_for resource who needs)
unfolding IsStrictlySortedBy
sorted_paths resource who [] s = tt
sorted_paths resource who (need ∷ needs) s = by (is_for resource who need) (sorted_paths resource who needs s.1)
  where
    by : (v : Bool) → IsStrictlySortedBy name_cmp (paths_for resource who needs) → IsStrictlySortedBy name_cmp (map (λ need. need.path) (cond v (need ∷ filter (is_for resource who) needs) (filter (is_for resource who) needs)))
    by true rest = (still_after resource who need.path needs s.0, rest)
    by false rest = rest

after_not : (path other : List ℕ) (paths : List (List ℕ)) → AreAfter path paths → Contains paths other → bytes_eq path other ≡ false
after_not path other [] all m = absurd (omega (arith, m.1))
after_not path other (p ∷ ps) all m = by (cases p other ps m) (after_not path other ps all.1)
  where
    differ : name_cmp path other ≡ Less → (v : Bool) → bytes_eq path other ≡ v → v ≡ false
    differ h false e = refl
    differ h true e = absurd (
        let less : name_cmp other other ≡ Less = subst (λ q. name_cmp q other ≡ Less) ((bytes_eq-Decides path other).0 e) h in
        let clash : Equal ≡ Less = sym (tied_itself nat_list_cmp_total other) ∙ less in cc
        )

    by : (p ≡ other) ⊎ Contains ps other → (Contains ps other → bytes_eq path other ≡ false) → bytes_eq path other ≡ false
    by (inl q) rest = differ (subst (λ x. name_cmp path x ≡ Less) q all.0) (bytes_eq path other) refl
    by (inr n) rest = rest n

abbrev wanted : List ℕ → Who → List ℕ → Need
wanted resource who path = record { path = path; resource = resource; who = who }

-- a need of the resource and the provider
just_that : (resource : List ℕ) (who : Who) (need : Need) → is_for resource who need ≡ true → need ≡ wanted resource who need.path
just_that resource who need e = ap (λ r. record { path = need.path; resource = r; who = need.who }) ((bytes_eq-Decides need.resource resource).0 (first_so _ _ e))
    ∙ ap (λ w. record { path = need.path; resource = resource; who = w }) (is_one need.who who (second_so _ _ e))

is_that : (resource : List ℕ) (who : Who) (path : List ℕ) (need : Need) → need ≡ wanted resource who path → is_for resource who need ≡ true
is_that resource who path need e = subst (λ (n : Need). is_for resource who n ≡ true) (sym e) (and_true (bytes_eq resource resource) (same_who who who) (its_own resource) (itself who))

found_there : (resource : List ℕ) (who : Who) (needs : List Need) (path : List ℕ) → AreByPath needs → Contains (paths_for resource who needs) path → need_at needs path ≡ Some (wanted resource who path)
unfolding IsStrictlySortedBy
found_there resource who [] path s m = absurd (omega (arith, m.1))
found_there resource who (need ∷ needs) path s m = by (is_for resource who need) refl m (found_there resource who needs path s.1)
  where
    later : Contains (paths_for resource who needs) path → need_at needs path ≡ Some (wanted resource who path) → need_at (need ∷ needs) path ≡ Some (wanted resource who path)
    later n rest = ap (λ v. cond v (Some need) (need_at needs path)) (after_not need.path path (paths_for resource who needs) (still_after resource who need.path needs s.0) n) ∙ rest

    by : (v : Bool) → is_for resource who need ≡ v → Contains (map (λ need. need.path) (cond v (need ∷ filter (is_for resource who) needs) (filter (is_for resource who) needs))) path
        → (Contains (paths_for resource who needs) path → need_at needs path ≡ Some (wanted resource who path)) → need_at (need ∷ needs) path ≡ Some (wanted resource who path)
    by true e k rest = elim (cases need.path path (paths_for resource who needs) k) [
      | inl q ↦ ap (λ v. cond v (Some need) (need_at needs path)) ((bytes_eq-Decides need.path path).1 q) ∙ ap Some (just_that resource who need e ∙ ap (wanted resource who) q)
      | inr n ↦ later n (rest n)
    ]
    by false e k rest = later k (rest k)

is_there : (resource : List ℕ) (who : Who) (needs : List Need) (path : List ℕ) → need_at needs path ≡ Some (wanted resource who path) → Contains (paths_for resource who needs) path
is_there resource who [] path e = cc
is_there resource who (need ∷ needs) path e = by (bytes_eq need.path path) refl e (is_there resource who needs path)
  where
    kept : (v : Bool) → Contains (paths_for resource who needs) path → Contains (map (λ need. need.path) (cond v (need ∷ filter (is_for resource who) needs) (filter (is_for resource who) needs))) path
    kept true n = there need.path path (paths_for resource who needs) n
    kept false n = n

    first_is : need ≡ wanted resource who path → (v : Bool) → is_for resource who need ≡ v → Contains (map (λ need. need.path) (cond v (need ∷ filter (is_for resource who) needs) (filter (is_for resource who) needs))) path
    first_is q true h = subst (Contains (need.path ∷ paths_for resource who needs)) (ap (λ (n : Need). n.path) q) (here need.path (paths_for resource who needs))
    first_is q false h = absurd (let clash : true ≡ false = sym (is_that resource who path need q) ∙ h in cc)

    by : (v : Bool) → bytes_eq need.path path ≡ v → cond v (Some need) (need_at needs path) ≡ Some (wanted resource who path) → (need_at needs path ≡ Some (wanted resource who path) → Contains (paths_for resource who needs) path)
        → Contains (paths_for resource who (need ∷ needs)) path
    by true h k rest = first_is (let q : need ≡ wanted resource who path = cc in q) (is_for resource who need) refl
    by false h k rest = kept (is_for resource who need) (rest k)

pub paths_are_needs : PathsAreNeeds
paths_are_needs needs resource who s = (sorted_paths resource who needs s, λ path. (found_there resource who needs path s, is_there resource who needs path))

-- the numbers from one on
abbrev from : ℕ → List GenerationState → List ℕ
from k generations = map (λ n. n.0) (live_from k generations)

abbrev AreOver : ℕ → List ℕ → Type 0
AreOver number numbers = AllByRecursion (λ other. nat_cmp number other ≡ Less) numbers

over : (number k : ℕ) (generations : List GenerationState) → number < k → AreOver number (from k generations)
over number k [] h = tt
over number k (g ∷ gs) h = by (is_live g) (over number (k + 1) gs (omega (arith, h)))
  where
    by : (v : Bool) → AreOver number (from (k + 1) gs) → AreOver number (map (λ n. n.0) (cond v ((k, g) ∷ live_from (k + 1) gs) (live_from (k + 1) gs)))
    by true rest = (sym (nat_cmp_is number k Less h), rest)
    by false rest = rest

sorted_numbers : (k : ℕ) (generations : List GenerationState) → IsStrictlySortedBy nat_cmp (from k generations)
unfolding IsStrictlySortedBy
sorted_numbers k [] = tt
sorted_numbers k (g ∷ gs) = by (is_live g) (sorted_numbers (k + 1) gs)
  where
    by : (v : Bool) → IsStrictlySortedBy nat_cmp (from (k + 1) gs) → IsStrictlySortedBy nat_cmp (map (λ n. n.0) (cond v ((k, g) ∷ live_from (k + 1) gs) (live_from (k + 1) gs)))
    by true rest = (over k (k + 1) gs (omega arith), rest)
    by false rest = rest

abbrev LivesAt : List GenerationState → ℕ → Type 0
LivesAt generations number = IsSomeAnd (slice_get generations number) (λ generation. is_live generation ≡ true)

lives_there : (k : ℕ) (generations : List GenerationState) (number : ℕ) → Contains (from k generations) number → (i : ℕ) × (number ≡ k + i) × LivesAt generations i
lives_there k [] number m = absurd (omega (arith, m.1))
lives_there k (g ∷ gs) number m = by (is_live g) refl m (lives_there (k + 1) gs number)
  where
    next : (i : ℕ) × (number ≡ (k + 1) + i) × LivesAt gs i → (i : ℕ) × (number ≡ k + i) × LivesAt (g ∷ gs) i
    next found = (suc found.0, omega (arith, found.1), found.2)

    by : (v : Bool) → is_live g ≡ v → Contains (map (λ n. n.0) (cond v ((k, g) ∷ live_from (k + 1) gs) (live_from (k + 1) gs))) number
        → (Contains (from (k + 1) gs) number → (i : ℕ) × (number ≡ (k + 1) + i) × LivesAt gs i) → (i : ℕ) × (number ≡ k + i) × LivesAt (g ∷ gs) i
    by true e n rest = elim (cases k number (from (k + 1) gs) n) [ inl q ↦ (zero, omega (arith, q), e) | inr r ↦ next (rest r) ]
    by false e n rest = next (rest n)

lives_in : (k : ℕ) (generations : List GenerationState) (i : ℕ) → LivesAt generations i → Contains (from k generations) (k + i)
lives_in k [] i h = absurd h
lives_in k (g ∷ gs) zero h = subst (λ v. Contains (map (λ n. n.0) (cond v ((k, g) ∷ live_from (k + 1) gs) (live_from (k + 1) gs))) (k + 0)) (sym h) (subst (Contains (k ∷ from (k + 1) gs)) (omega arith) (here k (from (k + 1) gs)))
lives_in k (g ∷ gs) (suc i) h = by (is_live g) (subst (Contains (from (k + 1) gs)) (omega arith) (lives_in (k + 1) gs i h))
  where
    by : (v : Bool) → Contains (from (k + 1) gs) (k + suc i) → Contains (map (λ n. n.0) (cond v ((k, g) ∷ live_from (k + 1) gs) (live_from (k + 1) gs))) (k + suc i)
    by true n = there k (k + suc i) (from (k + 1) gs) n
    by false n = n

pub numbers_are_live : NumbersAreLive
numbers_are_live generations = (
  sorted_numbers 0 generations,
  λ number. (
    λ m. (let found = lives_there 0 generations number m in subst (LivesAt generations) (omega (arith, found.1)) found.2),
    λ h. subst (Contains (live_numbers generations)) (omega arith) (lives_in 0 generations number h),
  ),
)
