-- A core's board has the live generations and the paths that need each provider, in their order.
use Rattle.std.proofs.Common.{◌≡◌, ℕ, zero, suc, ◌+◌, ◌<◌, ◌⊎◌, Bool, true, false, cond, List, [], ◌∷◌, length, map, count_by, Contains, Option, Some, refl, sym, ap, subst, ◌∙◌, inl, inr, arith}
use Rattle.std.specs.Prelude.{◌&&◌, ◌||◌, nat_lt}
use Rattle.std.specs.List.{AllByRecursion, filter, list_any}
use Rattle.std.specs.List.Sorted.{IsStrictlySortedBy}
use Rattle.std.specs.Cmp.{nat_cmp_is}
use Rattle.std.specs.Ordering.{nat_cmp}
use Rattle.std.specs.Str.{bytes_eq}
use Rattle.std.specs.declared.cmp.Ordering.TheVariants.{Less}
use Rattle.std.proofs.lemmas.Bool.{and_parts}
use Rattle.std.proofs.lemmas.Option.{slice_get_within}
use Rattle.std.proofs.lemmas.Slice.Eq.{bytes_eq-Decides}
use Rattle.kr_config.specs.declared.who.Who.{Who}
use Rattle.kr_config.specs.Nexts.{name_cmp}
use Rattle.kr_judge.specs.declared.need.Need.{Need}
use Rattle.kr_judge.specs.Boards.{AreByPath, GenerationState, is_live}
use Rattle.kr_judge.specs.Providers.{same_who}
use Rattle.kr_judge.specs.Scans.{is_for, paths_for, live_from, live_numbers}
use Rattle.kr_judge.specs.Verdicts.{with_numbers}
use Rattle.kr_judge.proofs.Lacking.{filtered, passing, mapped, image}
use Rattle.kr_config.proofs.ListParts.{there, cases}
use Rattle.kr_judge.proofs.Members.{is_one, itself}
use Rattle.kr_opening.proofs.Needing.{own_path}
use Rattle.kr_opening.specs.declared.generation.Generation.{Generation}
use Rattle.kr_rollout.specs.declared.opening.Opening.{Opening}
use Rattle.kr_rollout.specs.States.{State, is_number, judged_generation, judged_generations, board_generations, IsLiveNumber}
use Rattle.kr_rollout.specs.Histories.{state_of}
use Rattle.kr_history.specs.CountLaws.{AreLiveNumbers, BoardCounts}
use Rattle.kr_history.specs.LackLaws.{IsStoredAt}
use Rattle.kr_history.proofs.ContentReads.{need_there}
use Rattle.kr_history.proofs.Fitting.{legal_sound}
use Rattle.kr_history.proofs.Lacking.{needed_stored}
use Rattle.kr_history.proofs.NeedsLive.{AreNeeded, needed_of}
use Rattle.kr_history.proofs.Sound.{IsSound, at_there, contains_at, held_or_none, held_counts, current_there, current_any, positive, none_positive}

-- ---- what a test leaves of a list in order

module _ {X K : Type 0} (key : X → K) (R : K → K → Type 0) (test : X → Bool) where
  above_left : (k : K) (xs : List X) → AllByRecursion (R k) (map key xs)
      → AllByRecursion (R k) (map key (filter test xs))
  above_left k [] all = tt
  above_left k (x ∷ xs) all = by (test x) (above_left k xs all.1)
    where
      by : (v : Bool) → AllByRecursion (R k) (map key (filter test xs))
          → AllByRecursion (R k) (map key (cond v (x ∷ filter test xs) (filter test xs)))
      by true rest = (all.0, rest)
      by false rest = rest

-- ---- the live generations

module _ (current held : List (Option ℕ)) where
  above : (n k : ℕ) (gs : List Generation) → n < k
      → AllByRecursion (λ m. nat_cmp n m ≡ Less)
      (map (λ (x : ℕ × GenerationState). x.0)
      (with_numbers k (judged_generations current held k gs)))
  above n k [] l = tt
  above n k (g ∷ gs) l = (less, above n (k + 1) gs (omega (arith, l)))
    where
      less : nat_cmp n k ≡ Less
      less = sym (nat_cmp_is n k Less l)

  ascending : (k : ℕ) (gs : List Generation)
      → IsStrictlySortedBy nat_cmp (map (λ (x : ℕ × GenerationState). x.0)
      (filter (λ (x : ℕ × GenerationState). is_live x.1)
      (with_numbers k (judged_generations current held k gs))))
  unfolding IsStrictlySortedBy
  ascending k [] = tt
  ascending k (g ∷ gs) = by (is_live (judged_generation current held k g)) (ascending (k + 1) gs)
    where
      rest : List (ℕ × GenerationState)
      rest = filter (λ (x : ℕ × GenerationState). is_live x.1)
          (with_numbers (k + 1) (judged_generations current held (k + 1) gs))

      by : (v : Bool) → IsStrictlySortedBy nat_cmp (map (λ (x : ℕ × GenerationState). x.0) rest)
          → IsStrictlySortedBy nat_cmp (map (λ (x : ℕ × GenerationState). x.0)
          (cond v ((k, judged_generation current held k g) ∷ rest) rest))
      by true s = (
        above_left (λ (x : ℕ × GenerationState). x.0) (λ a b. nat_cmp a b ≡ Less)
            (λ (x : ℕ × GenerationState). is_live x.1) k
            (with_numbers (k + 1) (judged_generations current held (k + 1) gs))
            (above k (k + 1) gs (omega arith)),
        s,
      )
      by false s = s

  -- a number with its generation
  numbered_is : (k : ℕ) (gs : List Generation) (n : ℕ) (t : GenerationState)
      → Contains (with_numbers k (judged_generations current held k gs)) (n, t)
      → (g : Generation) × (t ≡ judged_generation current held n g)
  numbered_is k [] n t m = absurd (omega (arith, m.1))
  numbered_is k (g ∷ gs) n t m =
      elim (cases (k, judged_generation current held k g) (n, t)
      (with_numbers (k + 1) (judged_generations current held (k + 1) gs)) m) [
        | inl e ↦ (
          g,
          sym (ap (λ (x : ℕ × GenerationState). x.1) e)
              ∙ ap (λ (i : ℕ). judged_generation current held i g)
              (ap (λ (x : ℕ × GenerationState). x.0) e),
        )
        | inr more ↦ numbered_is (k + 1) gs n t more
      ]

  numbered_at : (k i : ℕ) (gs : List Generation) → i < length gs
      → (g : Generation) × Contains (with_numbers k (judged_generations current held k gs))
      (k + i, judged_generation current held (k + i) g)
  numbered_at k i [] l = absurd (omega (arith, l))
  numbered_at k zero (g ∷ gs) l = (
    g,
    (0, omega arith, ap (λ (n : ℕ). (n, judged_generation current held n g)) (omega arith)),
  )
  numbered_at k (suc i) (g ∷ gs) l =
      let r = numbered_at (k + 1) i gs (omega (arith, l)) in
      let n : k + 1 + i ≡ k + suc i = omega arith in (
        r.0,
        there (k, judged_generation current held k g)
            (k + suc i, judged_generation current held (k + suc i) r.0)
            (with_numbers (k + 1) (judged_generations current held (k + 1) gs))
            (subst (λ (m : ℕ). Contains (with_numbers (k + 1)
            (judged_generations current held (k + 1) gs))
            (m, judged_generation current held m r.0)) n r.1),
      )

module _ (o : Opening) (st : State) (sound : IsSound o st) where
  -- a generation is live as it is judged exactly where its number is live
  lives : (n : ℕ) (g : Generation) → is_live (judged_generation st.current st.held n g) ≡ true
      → IsLiveNumber st n
  lives n g e = by (list_any (is_number n) st.current) refl e (held_or_none st.held n)
    where
      by : (v : Bool) → list_any (is_number n) st.current ≡ v
          → (v || nat_lt 0 (count_by (is_number n) st.held)) ≡ true
          → (count_by (is_number n) st.held ≡ 0) ⊎ Contains st.held (Some n) → IsLiveNumber st n
      by true h e own = let at = current_there st.current n h in
          inl (contains_at st.current at.0 n at.1)
      by false h e (inr held) = inr held
      by false h e (inl none) =
          let clash : false ≡ true = sym none_positive ∙ ap (nat_lt 0) (sym none) ∙ e in cc

  live_is : (n : ℕ) (g : Generation) → IsLiveNumber st n
      → is_live (judged_generation st.current st.held n g) ≡ true
  live_is n g (inl c) = ap (λ v. v || nat_lt 0 (count_by (is_number n) st.held))
      (current_any st.current c.0 n (at_there st.current c.0 n c.1 c.2))
  live_is n g (inr c) = by (list_any (is_number n) st.current)
      (positive (count_by (is_number n) st.held) (held_counts st.held n c))
    where
      by : (v : Bool) → nat_lt 0 (count_by (is_number n) st.held) ≡ true
          → (v || nat_lt 0 (count_by (is_number n) st.held)) ≡ true
      by true e = refl
      by false e = e

  within : (n : ℕ) → IsLiveNumber st n → n < length st.generations
  within n (inl c) =
      let own = sound.own c.0 n (at_there st.current c.0 n c.1 c.2) in
      slice_get_within st.generations n own.generation own.there
  within n (inr c) = sound.held n c

  counted : (n : ℕ) → Contains (live_numbers (board_generations st)) n → IsLiveNumber st n
  counted n m =
      let r = mapped (λ (x : ℕ × GenerationState). x.0) (live_from 0 (board_generations st)) n m in
      let f = filtered (λ (x : ℕ × GenerationState). is_live x.1)
      (with_numbers 0 (board_generations st)) r.from r.member in
      let g = numbered_is st.current st.held 0 st.generations r.from.0 r.from.1 f.0 in
      subst (IsLiveNumber st) r.of (lives r.from.0 g.0 (sym (ap is_live g.1) ∙ f.1))

  is_counted : (n : ℕ) → IsLiveNumber st n → Contains (live_numbers (board_generations st)) n
  is_counted n l =
      let r = numbered_at st.current st.held 0 n st.generations (within n l) in
      let same : 0 + n ≡ n = omega arith in
      let at = subst (λ (m : ℕ). Contains (with_numbers 0 (board_generations st))
      (m, judged_generation st.current st.held m r.0)) same r.1 in
      image (λ (x : ℕ × GenerationState). x.0) (live_from 0 (board_generations st))
      (n, judged_generation st.current st.held n r.0)
      (passing (λ (x : ℕ × GenerationState). is_live x.1) (with_numbers 0 (board_generations st))
      (n, judged_generation st.current st.held n r.0) at (live_is n r.0 l))

  live_counted : AreLiveNumbers st (live_numbers (board_generations st))
  live_counted = record {
    ascending = ascending st.current st.held 0 st.generations;
    each = λ n. (counted n, is_counted n);
  }

-- ---- the paths that need a provider

paths_ascending : (resource : List ℕ) (who : Who) (needs : List Need) → AreByPath needs
    → IsStrictlySortedBy name_cmp (paths_for resource who needs)
unfolding IsStrictlySortedBy
paths_ascending resource who [] s = tt
paths_ascending resource who (need ∷ needs) s =
    by (is_for resource who need) (paths_ascending resource who needs s.1)
  where
    rest : List Need
    rest = filter (is_for resource who) needs

    by : (v : Bool) → IsStrictlySortedBy name_cmp (map (λ (n : Need). n.path) rest)
        → IsStrictlySortedBy name_cmp (map (λ (n : Need). n.path) (cond v (need ∷ rest) rest))
    by true sorted = (
      above_left (λ (n : Need). n.path) (λ a b. name_cmp a b ≡ Less) (is_for resource who)
          need.path needs s.0,
      sorted,
    )
    by false sorted = sorted

module _ (st : State) (n : AreNeeded st) (resource : List ℕ) (who : Who) where
  needs_it : (path : List ℕ) → Contains (paths_for resource who st.needs) path
      → IsStoredAt st path resource who
  needs_it path m =
      let r = mapped (λ (need : Need). need.path) (filter (is_for resource who) st.needs) path m in
      let f = filtered (is_for resource who) st.needs r.from r.member in
      let p = and_parts (bytes_eq r.from.resource resource) (same_who r.from.who who) f.1 in
      subst (λ (x : List ℕ). IsStoredAt st x resource who) r.of
      (subst (λ (x : Who). IsStoredAt st r.from.path resource x) (is_one r.from.who who p.1)
      (subst (λ (x : List ℕ). IsStoredAt st r.from.path x r.from.who)
      ((bytes_eq-Decides r.from.resource resource).0 p.0) (needed_stored st n r.from f.0)))

  is_among : (path : List ℕ) → IsStoredAt st path resource who
      → Contains (paths_for resource who st.needs) path
  is_among path (row, is, r, at) =
      let need : Need = record { path = path; resource = resource; who = who } in
      image (λ (x : Need). x.path) (filter (is_for resource who) st.needs) need
      (passing (is_for resource who) st.needs need (need_there st.needs path need at)
      (ap (λ v. v && same_who who who) (own_path resource) ∙ itself who))

pub board_counts : BoardCounts
board_counts o history l =
    let st = state_of o history in
    let n = needed_of o history l in
    record {
      live = live_counted o st (legal_sound o history l);
      paths = λ resource who. record {
        ascending = paths_ascending resource who st.needs n.sorted;
        each = λ path. (needs_it st n resource who path, is_among st n resource who path);
      };
    }
