-- The numbers of the live generations, in order, and what changes them.
use Rattle.std.proofs.Common.{◌≡◌, ℕ, zero, suc, ◌<◌, ◌≤◌, ◌+◌, Bool, true, false, List, [], ◌∷◌, ◌++◌, length, get_or, take, drop, Some, Contains, map, refl, sym, ap, ◌∙◌, inl, inr, arith}
use Rattle.std.specs.Prelude.{◌==◌, ◌&&◌, ◌||◌, not, cond, nat_lt, if◌then◌else◌, IsTrue, ◌^◌}
use Rattle.std.specs.List.{filter, slice_get}
use Rattle.std.specs.Option.{IsSomeAnd}
use Rattle.std.proofs.lemmas.List.{drop_more, take_more, get_or-map, length-map}
use Rattle.std.proofs.lemmas.Bool.{lt-ltb}
use Rattle.std.proofs.lemmas.List.Elements.{Contains-get_or}
use Rattle.std.proofs.lemmas.Option.{slice_get_within}
use Rattle.std.proofs.lemmas.Bool.Decides.{Decides-eqb}
use Rattle.kr_judge.specs.Boards.{GenerationState, is_live, left_by, without_current, is_replica_current, changed_at, held_more, held_less, MayHold, IsHeld, HasOneCurrent}
use Rattle.kr_judge.specs.Verdicts.{with_numbers, is_other, others}
use Rattle.kr_judge.specs.inner.Lives.{uncurrent}
use Rattle.kr_judge.specs.Scans.{live_from, live_numbers}
use Rattle.kr_config.proofs.ListParts.{cases}

abbrev numbers : ℕ → List GenerationState → List ℕ
numbers k states = map (λ n. n.0) (live_from k states)

-- a live generation stands at its number
in_live : (k : ℕ) (gs : List GenerationState) (e : ℕ × GenerationState) → Contains (live_from k gs) e → (i : ℕ) × (e.0 ≡ k + i) × (slice_get gs i ≡ Some e.1)
in_live k [] e h = absurd (omega (arith, h.1))
in_live k (g ∷ gs) e h = by (is_live g) h (in_live (k + 1) gs e)
  where
    later : (Contains (live_from (k + 1) gs) e → (i : ℕ) × (e.0 ≡ (k + 1) + i) × (slice_get gs i ≡ Some e.1)) → Contains (live_from (k + 1) gs) e → (i : ℕ) × (e.0 ≡ k + i) × (slice_get (g ∷ gs) i ≡ Some e.1)
    later rest m = let r = rest m in (suc r.0, omega (arith, r.1), r.2)

    by : (v : Bool) → Contains (cond v ((k, g) ∷ live_from (k + 1) gs) (live_from (k + 1) gs)) e → (Contains (live_from (k + 1) gs) e → (i : ℕ) × (e.0 ≡ (k + 1) + i) × (slice_get gs i ≡ Some e.1))
        → (i : ℕ) × (e.0 ≡ k + i) × (slice_get (g ∷ gs) i ≡ Some e.1)
    by true m rest = elim (cases (k, g) e (live_from (k + 1) gs) m) [ inl q ↦ (0, omega (arith, ap (λ x. x.0) (sym q)), ap (λ x. Some x.1) q) | inr n ↦ later rest n ]
    by false m rest = later rest m

some_one : {X : Type 0} (x y : X) → Some x ≡ Some y → x ≡ y
some_one x y h = (let e : x ≡ y = cc in e)

pub live_fits : (gs : List GenerationState) (j n : ℕ) → j < length (live_numbers gs) → n ≡ get_or (live_numbers gs) j 0 → (g : GenerationState) × (slice_get gs n ≡ Some g) × (drop j (live_from 0 gs) ≡ (n, g) ∷ drop (j + 1) (live_from 0 gs))
live_fits gs j n h is = at (live_from 0 gs) refl
  where
    at : (all : List (ℕ × GenerationState)) → all ≡ live_from 0 gs → (g : GenerationState) × (slice_get gs n ≡ Some g) × (drop j (live_from 0 gs) ≡ (n, g) ∷ drop (j + 1) (live_from 0 gs))
    at [] e = absurd (omega (arith, h, ap (λ l. length (map (λ x. x.0) l)) e))
    at (d ∷ ds) e =
        let within : j < length (live_from 0 gs) = omega (arith, h, length-map (live_from 0 gs) (λ x. x.0)) in
        let own : ℕ × GenerationState = get_or (live_from 0 gs) j d in
        let place = in_live 0 gs own (Contains-get_or (live_from 0 gs) j d within) in
        let number : own.0 ≡ n = sym (is ∙ get_or-map (λ x. x.0) (live_from 0 gs) j d 0 within) in
        let there : place.0 ≡ n = omega (arith, place.1, number) in
        (own.1, ap (slice_get gs) (sym there) ∙ place.2, drop_more (live_from 0 gs) j d within ∙ ap (λ m. (m, own.1) ∷ drop (j + 1) (live_from 0 gs)) number)

pub live_within : (gs : List GenerationState) (j n : ℕ) → j < length (live_numbers gs) → n ≡ get_or (live_numbers gs) j 0 → n < length gs
live_within gs j n h is = let own = live_fits gs j n h is in slice_get_within gs n own.0 own.1

pub live_step : (gs : List GenerationState) (j n : ℕ) (g : GenerationState) → j < length (live_numbers gs) → n ≡ get_or (live_numbers gs) j 0 → Some g ≡ slice_get gs n → drop j (live_from 0 gs) ≡ (n, g) ∷ drop (j + 1) (live_from 0 gs)
live_step gs j n g h is own =
    let there = live_fits gs j n h is in
    there.2 ∙ ap (λ x. (n, x) ∷ drop (j + 1) (live_from 0 gs)) (some_one there.0 g (sym there.1 ∙ sym own))

-- numbers below those of the list
not_here : (k m : ℕ) → m < k → (k == m) ≡ false
not_here k m h = by (k == m) refl
  where
    by : (v : Bool) → (k == m) ≡ v → v ≡ false
    by false e = refl
    by true e = absurd (omega (arith, h, (Decides-eqb k m).0 e))

kept_later : (k m : ℕ) (gs : List GenerationState) → m < k → filter (λ x. not (x == m)) (numbers k gs) ≡ numbers k gs
kept_later k m [] h = refl
kept_later k m (g ∷ gs) h = by (is_live g) (kept_later (k + 1) m gs (omega (arith, h)))
  where
    by : (v : Bool) → filter (λ x. not (x == m)) (numbers (k + 1) gs) ≡ numbers (k + 1) gs
        → filter (λ x. not (x == m)) (map (λ n. n.0) (cond v ((k, g) ∷ live_from (k + 1) gs) (live_from (k + 1) gs))) ≡ map (λ n. n.0) (cond v ((k, g) ∷ live_from (k + 1) gs) (live_from (k + 1) gs))
    by true rest = ap (λ t. cond (not t) (k ∷ filter (λ x. not (x == m)) (numbers (k + 1) gs)) (filter (λ x. not (x == m)) (numbers (k + 1) gs))) (not_here k m h) ∙ ap (λ l. k ∷ l) rest
    by false rest = rest

-- a change that leaves a generation live, and one after which it isn't
stay_from : (change : GenerationState → GenerationState) (k i : ℕ) (gs : List GenerationState) → IsSomeAnd (slice_get gs i) (λ g. (is_live g ≡ true) × (is_live (change g) ≡ true)) → numbers k (changed_at change i gs) ≡ numbers k gs
stay_from change k i [] h = refl
stay_from change k zero (g ∷ gs) h =
    ap (λ t. map (λ n. n.0) (cond t ((k, change g) ∷ live_from (k + 1) gs) (live_from (k + 1) gs))) h.1
    ∙ sym (ap (λ t. map (λ n. n.0) (cond t ((k, g) ∷ live_from (k + 1) gs) (live_from (k + 1) gs))) h.0)
stay_from change k (suc i) (g ∷ gs) h = by (is_live g) (stay_from change (k + 1) i gs h)
  where
    by : (v : Bool) → numbers (k + 1) (changed_at change i gs) ≡ numbers (k + 1) gs
        → map (λ n. n.0) (cond v ((k, g) ∷ live_from (k + 1) (changed_at change i gs)) (live_from (k + 1) (changed_at change i gs))) ≡ map (λ n. n.0) (cond v ((k, g) ∷ live_from (k + 1) gs) (live_from (k + 1) gs))
    by true rest = ap (λ l. k ∷ l) rest
    by false rest = rest

go_from : (change : GenerationState → GenerationState) (k i m : ℕ) (gs : List GenerationState) → m ≡ k + i → IsSomeAnd (slice_get gs i) (λ g. is_live (change g) ≡ false) → numbers k (changed_at change i gs) ≡ filter (λ x. not (x == m)) (numbers k gs)
go_from change k i m [] e h = absurd h
go_from change k zero m (g ∷ gs) e h = ap (λ t. map (λ n. n.0) (cond t ((k, change g) ∷ live_from (k + 1) gs) (live_from (k + 1) gs))) h ∙ sym (by (is_live g))
  where
    rest : filter (λ x. not (x == m)) (numbers (k + 1) gs) ≡ numbers (k + 1) gs
    rest = kept_later (k + 1) m gs (omega (arith, e))

    by : (v : Bool) → filter (λ x. not (x == m)) (map (λ n. n.0) (cond v ((k, g) ∷ live_from (k + 1) gs) (live_from (k + 1) gs))) ≡ numbers (k + 1) gs
    by true = ap (λ t. cond (not t) (k ∷ filter (λ x. not (x == m)) (numbers (k + 1) gs)) (filter (λ x. not (x == m)) (numbers (k + 1) gs))) ((Decides-eqb k m).1 (omega (arith, e))) ∙ rest
    by false = rest
go_from change k (suc i) m (g ∷ gs) e h = by (is_live g) (go_from change (k + 1) i m gs (omega (arith, e)) h)
  where
    apart : (k == m) ≡ false
    apart = by_cases (k == m) refl
      where
        by_cases : (v : Bool) → (k == m) ≡ v → v ≡ false
        by_cases false q = refl
        by_cases true q = absurd (omega (arith, e, (Decides-eqb k m).0 q))

    by : (v : Bool) → numbers (k + 1) (changed_at change i gs) ≡ filter (λ x. not (x == m)) (numbers (k + 1) gs)
        → map (λ n. n.0) (cond v ((k, g) ∷ live_from (k + 1) (changed_at change i gs)) (live_from (k + 1) (changed_at change i gs)))
        ≡ filter (λ x. not (x == m)) (map (λ n. n.0) (cond v ((k, g) ∷ live_from (k + 1) gs) (live_from (k + 1) gs)))
    by true rest = ap (λ l. k ∷ l) rest ∙ sym (ap (λ t. cond (not t) (k ∷ filter (λ x. not (x == m)) (numbers (k + 1) gs)) (filter (λ x. not (x == m)) (numbers (k + 1) gs))) apart)
    by false rest = rest

pub stays_live : (change : GenerationState → GenerationState) (i : ℕ) (gs : List GenerationState) → IsSomeAnd (slice_get gs i) (λ g. (is_live g ≡ true) × (is_live (change g) ≡ true)) → live_numbers (changed_at change i gs) ≡ live_numbers gs
stays_live change i gs h = stay_from change 0 i gs h

pub goes : (change : GenerationState → GenerationState) (i : ℕ) (gs : List GenerationState) → IsSomeAnd (slice_get gs i) (λ g. is_live (change g) ≡ false) → live_numbers (changed_at change i gs) ≡ filter (λ x. not (x == i)) (live_numbers gs)
goes change i gs h = go_from change 0 i i gs (omega arith) h

-- one more, which is live
added_from : (k : ℕ) (gs : List GenerationState) (new : GenerationState) → is_live new ≡ true → numbers k (gs ++ new ∷ []) ≡ numbers k gs ++ (k + length gs) ∷ []
added_from k [] new h = ap (λ t. map (λ (n : ℕ × GenerationState). n.0) (cond t ((k, new) ∷ []) [])) h ∙ ap (λ n. n ∷ []) (omega arith)
added_from k (g ∷ gs) new h = by (is_live g) (added_from (k + 1) gs new h)
  where
    last : (k + 1) + length gs ≡ k + length (g ∷ gs)
    last = omega arith

    by : (v : Bool) → numbers (k + 1) (gs ++ new ∷ []) ≡ numbers (k + 1) gs ++ ((k + 1) + length gs) ∷ []
        → map (λ n. n.0) (cond v ((k, g) ∷ live_from (k + 1) (gs ++ new ∷ [])) (live_from (k + 1) (gs ++ new ∷ []))) ≡ map (λ n. n.0) (cond v ((k, g) ∷ live_from (k + 1) gs) (live_from (k + 1) gs)) ++ (k + length (g ∷ gs)) ∷ []
    by true rest = ap (λ l. k ∷ l) rest ∙ ap (λ n. k ∷ (numbers (k + 1) gs ++ n ∷ [])) last
    by false rest = rest ∙ ap (λ n. numbers (k + 1) gs ++ n ∷ []) last

pub added_live : (gs : List GenerationState) (new : GenerationState) → is_live new ≡ true → live_numbers (gs ++ new ∷ []) ≡ live_numbers gs ++ length gs ∷ []
added_live gs new h = added_from 0 gs new h ∙ ap (λ n. live_numbers gs ++ n ∷ []) (omega arith)

-- the current generation of a replica
left_as : (replica : ℕ) (g : GenerationState) → left_by replica g ≡ record g { current = cond (is_replica_current replica g) false g.current }
left_as replica g = ap (λ v. record g { current = v }) (by g.current (g.replica == replica))
  where
    by : (c own : Bool) → (c && not own) ≡ cond (c && own) false c
    by true true = refl
    by true false = refl
    by false own = refl

left_same : (replica : ℕ) (g : GenerationState) → is_replica_current replica g ≡ false → left_by replica g ≡ g
left_same replica g h = left_as replica g ∙ ap (λ v. record g { current = cond v false g.current }) h

left_own : (replica : ℕ) (g : GenerationState) → is_replica_current replica g ≡ true → left_by replica g ≡ uncurrent g
left_own replica g h = left_as replica g ∙ ap (λ v. record g { current = cond v false g.current }) h

pub left_none : (replica : ℕ) (gs : List GenerationState) → filter (is_replica_current replica) gs ≡ [] → without_current replica gs ≡ gs
left_none replica [] h = refl
left_none replica (g ∷ gs) h = by (is_replica_current replica g) refl h (left_none replica gs)
  where
    by : (v : Bool) → is_replica_current replica g ≡ v → cond v (g ∷ filter (is_replica_current replica) gs) (filter (is_replica_current replica) gs) ≡ [] → (filter (is_replica_current replica) gs ≡ [] → without_current replica gs ≡ gs)
        → left_by replica g ∷ without_current replica gs ≡ g ∷ gs
    by true e k rest = cc
    by false e k rest = ap (λ x. x ∷ without_current replica gs) (left_same replica g e) ∙ ap (λ l. g ∷ l) (rest k)

empty : {X : Type 0} (xs : List X) → length xs ≤ 0 → xs ≡ []
empty [] h = refl
empty (x ∷ xs) h = absurd (omega (arith, h))

some_current : (replica i : ℕ) (gs : List GenerationState) → IsSomeAnd (slice_get gs i) (λ g. is_replica_current replica g ≡ true) → 1 ≤ length (filter (is_replica_current replica) gs)
some_current replica i [] h = absurd h
some_current replica zero (g ∷ gs) h = omega (arith, ap (λ t. length (cond t (g ∷ filter (is_replica_current replica) gs) (filter (is_replica_current replica) gs))) h)
some_current replica (suc i) (g ∷ gs) h = by (is_replica_current replica g) (some_current replica i gs h)
  where
    by : (v : Bool) → 1 ≤ length (filter (is_replica_current replica) gs) → 1 ≤ length (cond v (g ∷ filter (is_replica_current replica) gs) (filter (is_replica_current replica) gs))
    by true k = omega arith
    by false k = k

pub left_alone : (replica i : ℕ) (gs : List GenerationState) → IsSomeAnd (slice_get gs i) (λ g. is_replica_current replica g ≡ true) → length (filter (is_replica_current replica) gs) ≤ 1 → without_current replica gs ≡ changed_at uncurrent i gs
left_alone replica i [] h one = refl
left_alone replica zero (g ∷ gs) h one = ap (λ x. x ∷ without_current replica gs) (left_own replica g h)
    ∙ ap (λ l. uncurrent g ∷ l) (left_none replica gs (empty (filter (is_replica_current replica) gs) (omega (arith, one, ap (λ t. length (cond t (g ∷ filter (is_replica_current replica) gs) (filter (is_replica_current replica) gs))) h))))
left_alone replica (suc i) (g ∷ gs) h one = by (is_replica_current replica g) refl one (left_alone replica i gs h)
  where
    by : (v : Bool) → is_replica_current replica g ≡ v → length (cond v (g ∷ filter (is_replica_current replica) gs) (filter (is_replica_current replica) gs)) ≤ 1 → (length (filter (is_replica_current replica) gs) ≤ 1 → without_current replica gs ≡ changed_at uncurrent i gs)
        → left_by replica g ∷ without_current replica gs ≡ g ∷ changed_at uncurrent i gs
    by true e k rest = absurd (omega (arith, k, some_current replica i gs h))
    by false e k rest = ap (λ x. x ∷ without_current replica gs) (left_same replica g e) ∙ ap (λ l. g ∷ l) (rest k)

-- a test that only live generations pass
passed_from : (test : GenerationState → Bool) → ((g : GenerationState) → test g ≡ true → is_live g ≡ true) → (k : ℕ) (gs : List GenerationState) → filter (λ n. test n.1) (live_from k gs) ≡ filter (λ n. test n.1) (with_numbers k gs)
passed_from test live k [] = refl
passed_from test live k (g ∷ gs) = by (is_live g) refl (test g) refl (passed_from test live (k + 1) gs)
  where
    by : (u : Bool) → is_live g ≡ u → (v : Bool) → test g ≡ v → filter (λ n. test n.1) (live_from (k + 1) gs) ≡ filter (λ n. test n.1) (with_numbers (k + 1) gs)
        → filter (λ n. test n.1) (cond u ((k, g) ∷ live_from (k + 1) gs) (live_from (k + 1) gs)) ≡ cond (test g) ((k, g) ∷ filter (λ n. test n.1) (with_numbers (k + 1) gs)) (filter (λ n. test n.1) (with_numbers (k + 1) gs))
    by true h v e rest = ap (λ l. cond (test g) ((k, g) ∷ l) l) rest
    by false h true e rest = absurd (let clash : true ≡ false = sym (live g e) ∙ h in cc)
    by false h false e rest = rest ∙ sym (ap (λ t. cond t ((k, g) ∷ filter (λ n. test n.1) (with_numbers (k + 1) gs)) (filter (λ n. test n.1) (with_numbers (k + 1) gs))) e)

first_and : (u v : Bool) → (u && v) ≡ true → u ≡ true
first_and true v h = refl
first_and false v h = cc

pub others_live : (replica : ℕ) (gs : List GenerationState) → others replica gs ≡ filter (λ n. is_other replica n.1) (live_from 0 gs)
unfolding others
others_live replica gs = sym (passed_from (is_other replica) (λ g h. first_and (is_live g) _ h) 0 gs)

or_first : (u v w : Bool) → (u && w) ≡ true → (u || v) ≡ true
or_first true v w h = refl
or_first false v w h = cc

without_numbers : (test : GenerationState → Bool) (k : ℕ) (gs : List GenerationState) → filter (λ n. test n.1) (with_numbers k gs) ≡ [] → filter test gs ≡ []
without_numbers test k [] h = refl
without_numbers test k (g ∷ gs) h = by (test g) h (without_numbers test (k + 1) gs)
  where
    by : (v : Bool) → cond v ((k, g) ∷ filter (λ n. test n.1) (with_numbers (k + 1) gs)) (filter (λ n. test n.1) (with_numbers (k + 1) gs)) ≡ [] → (filter (λ n. test n.1) (with_numbers (k + 1) gs) ≡ [] → filter test gs ≡ [])
        → cond v (g ∷ filter test gs) (filter test gs) ≡ []
    by true k rest = cc
    by false k rest = rest k

pub none_current : (replica : ℕ) (gs : List GenerationState) → filter (λ n. is_replica_current replica n.1) (live_from 0 gs) ≡ [] → filter (is_replica_current replica) gs ≡ []
none_current replica gs h = without_numbers (is_replica_current replica) 0 gs
    (sym (passed_from (is_replica_current replica) (λ g e. or_first g.current (nat_lt 0 g.holders) (g.replica == replica) e) 0 gs) ∙ h)

-- what is kept of the numbers after a change
pub live_after : (change : GenerationState → GenerationState) (i : ℕ) (gs : List GenerationState) (still : Bool) (live : List ℕ) → IsSomeAnd (slice_get gs i) (λ g. (is_live g ≡ true) × (still ≡ is_live (change g)))
    → live ≡ cond still (live_numbers gs) (filter (λ x. not (x == i)) (live_numbers gs)) → live ≡ live_numbers (changed_at change i gs)
live_after change i gs true live h e = e ∙ sym (stays_live change i gs (both_live gs i h))
  where
    both_live : (all : List GenerationState) (n : ℕ) → IsSomeAnd (slice_get all n) (λ g. (is_live g ≡ true) × (true ≡ is_live (change g))) → IsSomeAnd (slice_get all n) (λ g. (is_live g ≡ true) × (is_live (change g) ≡ true))
    both_live [] n k = absurd k
    both_live (g ∷ rest) zero k = (k.0, sym k.1)
    both_live (g ∷ rest) (suc n) k = both_live rest n k
live_after change i gs false live h e = e ∙ sym (goes change i gs (none_live gs i h))
  where
    none_live : (all : List GenerationState) (n : ℕ) → IsSomeAnd (slice_get all n) (λ g. (is_live g ≡ true) × (false ≡ is_live (change g))) → IsSomeAnd (slice_get all n) (λ g. is_live (change g) ≡ false)
    none_live [] n k = absurd k
    none_live (g ∷ rest) zero k = sym k.1
    none_live (g ∷ rest) (suc n) k = none_live rest n k

pub both_parts : (P Q : GenerationState → Type 0) (gs : List GenerationState) (i : ℕ) → IsSomeAnd (slice_get gs i) P → IsSomeAnd (slice_get gs i) Q → IsSomeAnd (slice_get gs i) (λ g. P g × Q g)
both_parts P Q [] i h k = absurd h
both_parts P Q (g ∷ gs) zero h k = (h, k)
both_parts P Q (g ∷ gs) (suc i) h k = both_parts P Q gs i h k

pub weaker : (P Q : GenerationState → Type 0) (gs : List GenerationState) (i : ℕ) → ((g : GenerationState) → P g → Q g) → IsSomeAnd (slice_get gs i) P → IsSomeAnd (slice_get gs i) Q
weaker P Q [] i w h = absurd h
weaker P Q (g ∷ gs) zero w h = w g h
weaker P Q (g ∷ gs) (suc i) w h = weaker P Q gs i w h

pub current_lives : (replica : ℕ) (g : GenerationState) → is_replica_current replica g ≡ true → is_live g ≡ true
current_lives replica g h = or_first g.current (nat_lt 0 g.holders) (g.replica == replica) h

held_lives : (gs : List GenerationState) (i : ℕ) → IsHeld i gs → IsSomeAnd (slice_get gs i) (λ g. is_live g ≡ true)
held_lives gs i h = weaker (λ g. 0 < g.holders) (λ g. is_live g ≡ true) gs i (λ g k. some_live g.current (nat_lt 0 g.holders) (lt-ltb 0 g.holders k)) h
  where
    some_live : (u v : Bool) → v ≡ true → (u || v) ≡ true
    some_live true v k = refl
    some_live false v k = k

pub released_live : (gs all : List GenerationState) (old live : List ℕ) (n : ℕ) (still : Bool) → IsHeld n gs → IsSomeAnd (slice_get gs n) (λ g. still ≡ is_live (held_less g)) → old ≡ live_numbers gs
    → live ≡ (if still then old else filter (λ x. not (x == n)) old) → all ≡ changed_at held_less n gs → live ≡ live_numbers all
released_live gs all old live n still held is e l a =
    live_after held_less n gs still live (both_parts (λ g. is_live g ≡ true) (λ g. still ≡ is_live (held_less g)) gs n (held_lives gs n held) is) (l ∙ ap (λ x. if still then x else filter (λ y. not (y == n)) x) e)
    ∙ ap live_numbers (sym a)

pub left_live : (replica : ℕ) (gs all : List GenerationState) (old live : List ℕ) (n : ℕ) (still : Bool) → IsSomeAnd (slice_get gs n) (λ g. is_replica_current replica g ≡ true) → IsSomeAnd (slice_get gs n) (λ g. still ≡ is_live (uncurrent g))
    → old ≡ live_numbers gs → live ≡ (if still then old else filter (λ x. not (x == n)) old) → all ≡ changed_at uncurrent n gs → live ≡ live_numbers all
left_live replica gs all old live n still own is e l a =
    live_after uncurrent n gs still live (both_parts (λ g. is_live g ≡ true) (λ g. still ≡ is_live (uncurrent g)) gs n (weaker (λ g. is_replica_current replica g ≡ true) (λ g. is_live g ≡ true) gs n (current_lives replica) own) is)
    (l ∙ ap (λ x. if still then x else filter (λ y. not (y == n)) x) e) ∙ ap live_numbers (sym a)

pub left_all : (replica : ℕ) (gs all : List GenerationState) (n : ℕ) → HasOneCurrent gs → IsSomeAnd (slice_get gs n) (λ g. is_replica_current replica g ≡ true) → all ≡ changed_at uncurrent n gs → all ≡ without_current replica gs
unfolding HasOneCurrent
left_all replica gs all n one own a = a ∙ sym (left_alone replica n gs own (one replica))

pub left_nothing : (replica : ℕ) (gs : List GenerationState) → filter (is_replica_current replica) gs ≡ [] → gs ≡ without_current replica gs
left_nothing replica gs h = sym (left_none replica gs h)

pub live_more : (gs : List GenerationState) (j n : ℕ) (g : GenerationState) → j < length (live_numbers gs) → n ≡ get_or (live_numbers gs) j 0 → Some g ≡ slice_get gs n → take (j + 1) (live_from 0 gs) ≡ take j (live_from 0 gs) ++ (n, g) ∷ []
live_more gs j n g h is own =
    let within : j < length (live_from 0 gs) = omega (arith, h, length-map (live_from 0 gs) (λ x. x.0)) in
    let head : get_or (live_from 0 gs) j (n, g) ≡ (n, g) = ap (λ l. get_or l 0 (n, g)) (sym (drop_more (live_from 0 gs) j (n, g) within) ∙ live_step gs j n g h is own) in
    take_more (live_from 0 gs) j (n, g) within ∙ ap (λ x. take j (live_from 0 gs) ++ x ∷ []) head

pub live_settings : (k : ℕ) (gs : List GenerationState) → map (λ n. n.1.rows) (live_from k gs) ≡ map (λ g. g.rows) (filter is_live gs)
live_settings k [] = refl
live_settings k (g ∷ gs) = by (is_live g) (live_settings (k + 1) gs)
  where
    by : (v : Bool) → map (λ n. n.1.rows) (live_from (k + 1) gs) ≡ map (λ g. g.rows) (filter is_live gs)
        → map (λ n. n.1.rows) (cond v ((k, g) ∷ live_from (k + 1) gs) (live_from (k + 1) gs)) ≡ map (λ g. g.rows) (cond v (g ∷ filter is_live gs) (filter is_live gs))
    by true rest = ap (λ l. g.rows ∷ l) rest
    by false rest = rest

pub held_live : (gs all : List GenerationState) (live : List ℕ) (n : ℕ) → MayHold n gs → live ≡ live_numbers gs → all ≡ changed_at held_more n gs → live ≡ live_numbers all
held_live gs all live n may e a = e ∙ sym (stays_live held_more n gs (weaker (λ g. IsTrue (is_live g) × (g.holders + 1 < 2 ^ 32)) (λ g. (is_live g ≡ true) × (is_live (held_more g) ≡ true)) gs n both may)) ∙ ap live_numbers (sym a)
  where
    or_true : (v : Bool) → (v || true) ≡ true
    or_true true = refl
    or_true false = refl

    both : (g : GenerationState) → IsTrue (is_live g) × (g.holders + 1 < 2 ^ 32) → (is_live g ≡ true) × (is_live (held_more g) ≡ true)
    both g h = (h.0, ap (λ v. g.current || v) (lt-ltb 0 (g.holders + 1) (omega arith)) ∙ or_true g.current)

-- a number that is taken out, or not
pub taken_out : (still : Bool) (n : ℕ) (old new : List ℕ) → still ≡ false → new ≡ filter (λ x. not (x == n)) old → new ≡ (if still then old else filter (λ x. not (x == n)) old)
taken_out true n old new h e = cc
taken_out false n old new h e = e

pub added_push : (gs all : List GenerationState) (old live : List ℕ) (n : ℕ) (new : GenerationState) → old ≡ live_numbers gs → n ≡ length gs → is_live new ≡ true → live ≡ old ++ n ∷ [] → all ≡ gs ++ new ∷ [] → live ≡ live_numbers all
added_push gs all old live n new e m h l a = l ∙ ap (λ x. x ++ n ∷ []) e ∙ ap (λ x. live_numbers gs ++ x ∷ []) m ∙ sym (added_live gs new h) ∙ ap live_numbers (sym a)
