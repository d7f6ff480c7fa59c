-- A replica's current generation changes: what that changes on the board.
use Rattle.std.proofs.Common.{◌≡◌, ℕ, zero, suc, ◌<◌, ◌≤◌, ◌+◌, ◌==◌, ◌⊎◌, Bool, true, false, cond, not, List, [], ◌∷◌, ◌++◌, length, count_by, Option, None, Some, IfSome, refl, sym, ap, subst, ◌∙◌, arith, inl, inr, length-append}
use Rattle.std.specs.Prelude.{IsTrue, ◌||◌, ◌&&◌, slice_set}
use Rattle.std.specs.List.{list_any, slice_get}
use Rattle.std.specs.Option.{option_map}
use Rattle.std.proofs.lemmas.Bool.{cases_eq, eq-eqb, ne_eqb, both_ways}
use Rattle.std.proofs.lemmas.List.{length-set, get_or-set_same}
use Rattle.std.proofs.lemmas.List.Folds.{list_any_at}
use Rattle.std.proofs.lemmas.List.Sums.{sum_by-cons}
use Rattle.std.proofs.lemmas.Option.{none-some, same_Some, slice_get_within}
use Rattle.kr_provider.specs.Publication.{Publication}
use Rattle.kr_store.specs.Stores.{Kept}
use Rattle.kr_judge.specs.Boards.{BoardState, without_current, added_generation, given_to, is_replica_current}
use Rattle.kr_opening.specs.declared.generation.Generation.{Generation}
use Rattle.kr_rollout.specs.declared.opening.Opening.{Opening}
use Rattle.kr_rollout.specs.States.{State, number_at, is_number, judged_generation, judged_generations}
use Rattle.kr_rollout.specs.Openings.{board, room_of}
use Rattle.kr_rollout.specs.inner.Rollouts.{RolloutState, IsRollout, AreNumbers, AreOwn, state_with}
use Rattle.kr_rollout.specs.inner.Membership.{with_generation}
use Rattle.kr_rollout.proofs.Revisions.{get_front}
use Rattle.kr_rollout.proofs.Keeping.{numbers_set, set_cases}

-- ---- whether a number is current

some_number : (n : ℕ) (c : Option ℕ) → is_number n c ≡ true → c ≡ Some n
some_number n None e = absurd (both_ways false refl e)
some_number n (Some m) e = by (cases_eq m n)
  where
    by : (m ≡ n) ⊎ (m ≡ n → ⊥) → ◌≡◌ {A = Option ℕ} (Some m) (Some n)
    by (inl same) = ap Some same
    by (inr other) = absurd (both_ways (m == n) (ne_eqb m n other) e)

not_number : (n : ℕ) (c : Option ℕ) → (c ≡ Some n → ⊥) → is_number n c ≡ false
not_number n None d = refl
not_number n (Some m) d = ne_eqb m n (λ e. d (ap Some e))

none_any : (n : ℕ) (numbers : List (Option ℕ))
    → ((place : ℕ) → number_at numbers place ≡ Some n → ⊥)
    → list_any (is_number n) numbers ≡ false
none_any n [] d = refl
none_any n (c ∷ cs) d = ap (λ b. b || list_any (is_number n) cs) (not_number n c (d zero))
    ∙ none_any n cs (λ place. d (suc place))

none_counted : (n : ℕ) (numbers : List (Option ℕ))
    → ((place : ℕ) → number_at numbers place ≡ Some n → ⊥)
    → count_by (is_number n) numbers ≡ 0
none_counted n [] d = refl
none_counted n (c ∷ cs) d = omega (
  arith,
  sum_by-cons (λ x. cond (is_number n x) 1 0) c cs,
  ap {B = ℕ} (λ b. cond b 1 0) (not_number n c (d zero)),
  none_counted n cs (λ place. d (suc place)),
)

and_when : (b own : Bool) → (b && own) ≡ cond own b false
and_when true true = refl
and_when true false = refl
and_when false true = refl
and_when false false = refl

-- the replicas from `base` on: only the owner can have the number as its current one
abbrev OnlyAt : ℕ → ℕ → ℕ → List (Option ℕ) → Type 0
OnlyAt base owner n current = (place : ℕ) → number_at current place ≡ Some n → base + place ≡ owner

only_further : (base owner n : ℕ) (c : Option ℕ) (cs : List (Option ℕ))
    → OnlyAt base owner n (c ∷ cs) → OnlyAt (base + 1) owner n cs
only_further base owner n c cs own place e = let m = own (suc place) e in omega (arith, m)

-- after another current generation of a replica, a number is current where it was, unless its owner
-- is this replica
left_at : (base owner n : ℕ) (now : Option ℕ) (current : List (Option ℕ)) (replica : ℕ)
    → OnlyAt base owner n current → is_number n now ≡ false
    → (list_any (is_number n) current && not (owner == base + replica))
    ≡ list_any (is_number n) (slice_set current replica now)
left_at base owner n now [] replica own d = refl
left_at base owner n now (c ∷ cs) zero own d = by (cases_eq owner (base + 0))
  where
    by : (owner ≡ base + 0) ⊎ (owner ≡ base + 0 → ⊥)
        → ((is_number n c || list_any (is_number n) cs) && not (owner == base + 0))
        ≡ (is_number n now || list_any (is_number n) cs)
    by (inl same) =
        and_when (is_number n c || list_any (is_number n) cs) (not (owner == base + 0))
        ∙ ap (λ b. cond (not b) (is_number n c || list_any (is_number n) cs) false)
        (eq-eqb owner (base + 0) same)
        ∙ sym (none_any n cs (λ place e. omega (arith, own (suc place) e, same)))
        ∙ ap (λ b. b || list_any (is_number n) cs) (sym d)
    by (inr other) =
        and_when (is_number n c || list_any (is_number n) cs) (not (owner == base + 0))
        ∙ ap (λ b. cond (not b) (is_number n c || list_any (is_number n) cs) false)
        (ne_eqb owner (base + 0) other)
        ∙ ap (λ b. b || list_any (is_number n) cs)
        (not_number n c (λ e. other (sym (own zero e))) ∙ sym d)
left_at base owner n now (c ∷ cs) (suc replica) own d =
    by (is_number n c) refl
    (left_at (base + 1) owner n now cs replica (only_further base owner n c cs own) d)
  where
    by : (b : Bool) → is_number n c ≡ b
        → (list_any (is_number n) cs && not (owner == base + 1 + replica))
        ≡ list_any (is_number n) (slice_set cs replica now)
        → ((is_number n c || list_any (is_number n) cs) && not (owner == base + suc replica))
        ≡ (is_number n c || list_any (is_number n) (slice_set cs replica now))
    by true e again =
        let first : base + 0 ≡ owner = own zero (some_number n c e) in
        ap (λ b. (b || list_any (is_number n) cs) && not (owner == base + suc replica)) e
        ∙ ap (λ b. not b) (ne_eqb owner (base + suc replica) (λ s. omega (arith, s, first)))
        ∙ sym (ap (λ b. b || list_any (is_number n) (slice_set cs replica now)) e)
    by false e again =
        ap (λ b. (b || list_any (is_number n) cs) && not (owner == base + suc replica)) e
        ∙ ap (λ r. list_any (is_number n) cs && not (owner == r))
        (let m : base + suc replica ≡ base + 1 + replica = omega arith in m)
        ∙ again ∙ sym (ap (λ b. b || list_any (is_number n) (slice_set cs replica now)) e)

-- ---- the generations that are there

module _ (current held : List (Option ℕ)) (replica : ℕ) (now : Option ℕ) where
  abbrev IsLeft : ℕ → Generation → Type 0
  IsLeft n g = (list_any (is_number n) current && not (g.replica == replica))
      ≡ list_any (is_number n) (slice_set current replica now)

  all_left : (k : ℕ) (gs : List Generation)
      → ((i : ℕ) (g : Generation) → slice_get gs i ≡ Some g → IsLeft (k + i) g)
      → without_current replica (judged_generations current held k gs)
      ≡ judged_generations (slice_set current replica now) held k gs
  all_left k [] each = refl
  all_left k (g ∷ gs) each =
      let head : IsLeft k g = subst (λ n. IsLeft n g) (let e : k + 0 ≡ k = omega arith in e)
      (each zero g refl) in
      let tail = all_left (k + 1) gs (λ i h e. subst (λ n. IsLeft n h)
      (let m : k + suc i ≡ k + 1 + i = omega arith in m) (each (suc i) h e)) in
      (λ i. record {
        replica = g.replica;
        rows = g.published.rows;
        current = head i;
        holders = count_by (is_number k) held;
      } ∷ tail i)

  pub changed : (gs : List Generation) → AreOwn current gs
      → ((n : ℕ) → now ≡ Some n → length gs ≤ n)
      → without_current replica (judged_generations current held 0 gs)
      ≡ judged_generations (slice_set current replica now) held 0 gs
  changed gs own new = all_left 0 gs each
    where
      each : (i : ℕ) (g : Generation) → slice_get gs i ≡ Some g → IsLeft (0 + i) g
      each i g there =
          let only : OnlyAt 0 g.replica i current = λ place e. let m : g.replica ≡ place =
          same_Some g.replica place (sym (ap (option_map (λ (x : Generation). x.replica)) there)
          ∙ own place i e) in omega (arith, m) in
          let d : is_number i now ≡ false = not_number i now
          (λ e. omega (arith, new i e, slice_get_within gs i g there)) in
          subst (λ n. IsLeft n g) (let e : i ≡ 0 + i = omega arith in e)
          (ap (λ r. list_any (is_number i) current && not (g.replica == r))
          (let e : replica ≡ 0 + replica = omega arith in e)
          ∙ left_at 0 g.replica i now current replica only d)

-- ---- one more generation

judged_more : (current held : List (Option ℕ)) (k : ℕ) (gs : List Generation) (g : Generation)
    → judged_generations current held k (gs ++ g ∷ [])
    ≡ judged_generations current held k gs ++ judged_generation current held (k + length gs) g ∷ []
judged_more current held k [] g = ap (λ n. judged_generation current held n g ∷ [])
    (let e : k ≡ k + 0 = omega arith in e)
judged_more current held k (h ∷ gs) g = ap (λ l. judged_generation current held k h ∷ l)
    (judged_more current held (k + 1) gs g
    ∙ ap (λ n. judged_generations current held (k + 1) gs
    ++ judged_generation current held n g ∷ [])
    (let e : k + 1 + length gs ≡ k + length (h ∷ gs) = omega arith in e))

is_newest : (current held : List (Option ℕ)) (gs : List Generation) (replica : ℕ) (p : Publication)
    → replica < length current → AreNumbers held gs
    → added_generation replica p.rows
    ≡ judged_generation (slice_set current replica (Some (length gs))) held (length gs)
    (record { replica = replica; published = p })
is_newest current held gs replica p l k =
    let m = length gs in
    let live : list_any (is_number m) (slice_set current replica (Some m)) ≡ true =
    list_any_at (is_number m) (slice_set current replica (Some m)) replica None
    (omega (arith, length-set current replica (Some m), l))
    (ap (is_number m) (get_or-set_same current replica (Some m) None l) ∙ eq-eqb m m refl) in
    let free : count_by (is_number m) held ≡ 0 =
    none_counted m held (λ place e. omega (arith, k place m e)) in
    let judged : judged_generation (slice_set current replica (Some m)) held m
    (record { replica = replica; published = p }) ≡ added_generation replica p.rows =
    (λ i. record { replica = replica; rows = p.rows; current = live i; holders = free i }) in
    sym judged

pub board_grown : (current held : List (Option ℕ)) (gs : List Generation) (replica : ℕ)
    (p : Publication) → replica < length current → AreOwn current gs → AreNumbers held gs
    → given_to replica p.rows (judged_generations current held 0 gs)
    ≡ judged_generations (slice_set current replica (Some (length gs))) held 0
    (gs ++ record { replica = replica; published = p } ∷ [])
board_grown current held gs replica p l own k =
    let left = changed current held replica (Some (length gs)) gs own
    (λ n e. omega (arith, same_Some (length gs) n e)) in
    let new = is_newest current held gs replica p l k
    ∙ ap (λ n. judged_generation (slice_set current replica (Some (length gs))) held n
    (record { replica = replica; published = p }))
    (let e : length gs ≡ 0 + length gs = omega arith in e) in
    (λ i. left i ++ new i ∷ [])
    ∙ sym (judged_more (slice_set current replica (Some (length gs))) held 0 gs
    (record { replica = replica; published = p }))

-- ---- numbers

at_end : {X : Type 0} (xs : List X) (x : X) → slice_get (xs ++ x ∷ []) (length xs) ≡ Some x
at_end [] x = refl
at_end (y ∷ ys) x = at_end ys x

numbers_more : (numbers : List (Option ℕ)) (gs more : List Generation) → AreNumbers numbers gs
    → AreNumbers numbers (gs ++ more)
numbers_more numbers gs more k place n e = omega (arith, k place n e, length-append gs more)

own_set : (current : List (Option ℕ)) (gs later : List Generation) (replica : ℕ) (now : Option ℕ)
    → AreOwn current gs → AreNumbers current gs
    → ((n : ℕ) → n < length gs → slice_get later n ≡ slice_get gs n)
    → IfSome now (λ n. option_map (λ (g : Generation). g.replica) (slice_get later n)
    ≡ Some replica)
    → replica < length current → AreOwn (slice_set current replica now) later
own_set current gs later replica now own k front w l place n e =
    elim (set_cases current replica place n now l e) [
      | inl set ↦ subst (λ o. IfSome o (λ m. option_map (λ (g : Generation). g.replica)
          (slice_get later m) ≡ Some replica)) set.1 w ∙ ap Some (sym set.0)
      | inr there ↦ ap (option_map (λ (g : Generation). g.replica)) (front n (k place n there))
          ∙ own place n there
    ]

-- ---- what the board requires of a replica that leaves

any_there : {X : Type 0} (p : X → Bool) (xs : List X) (i : ℕ) (x : X) → slice_get xs i ≡ Some x
    → p x ≡ true → list_any p xs ≡ true
any_there p [] i x e h = absurd (none-some x e)
any_there p (y ∷ ys) zero x e h = ap (λ b. b || list_any p ys) (ap p (same_Some y x e) ∙ h)
any_there p (y ∷ ys) (suc i) x e h = ap (λ b. p y || b) (any_there p ys i x e h) ∙ or_true (p y)
  where
    or_true : (b : Bool) → (b || true) ≡ true
    or_true true = refl
    or_true false = refl

there : (gs : List Generation) (n : ℕ) → n < length gs → (g : Generation) × (slice_get gs n ≡ Some g)
there [] n l = absurd (omega (arith, l))
there (g ∷ gs) zero l = (g, refl)
there (g ∷ gs) (suc n) l = there gs n (omega (arith, l))

judged_at : (current held : List (Option ℕ)) (k i : ℕ) (gs : List Generation) (g : Generation)
    → slice_get gs i ≡ Some g
    → slice_get (judged_generations current held k gs) i
    ≡ Some (judged_generation current held (k + i) g)
judged_at current held k i [] g e = absurd (none-some g e)
judged_at current held k zero (h ∷ gs) g e =
    ap (λ x. Some (judged_generation current held k x)) (same_Some h g e)
    ∙ ap (λ n. Some (judged_generation current held n g))
    (let m : k ≡ k + 0 = omega arith in m)
judged_at current held k (suc i) (h ∷ gs) g e = judged_at current held (k + 1) i gs g e
    ∙ ap (λ n. Some (judged_generation current held n g))
    (let m : k + 1 + i ≡ k + suc i = omega arith in m)

may_leave : (current held : List (Option ℕ)) (replica number : ℕ) (gs : List Generation)
    → number < length gs → replica < length current → number_at current replica ≡ Some number
    → AreOwn current gs
    → IsTrue (list_any (is_replica_current replica) (judged_generations current held 0 gs))
may_leave current held replica number gs l r is own =
    let t = there gs number l in
    let live : list_any (is_number number) current ≡ true =
    list_any_at (is_number number) current replica None r
    (ap (is_number number) is ∙ eq-eqb number number refl) in
    let owner : t.0.replica ≡ replica = same_Some t.0.replica replica
    (sym (ap (option_map (λ (x : Generation). x.replica)) t.1) ∙ own replica number is) in
    let same = eq-eqb t.0.replica replica owner in
    any_there (is_replica_current replica) (judged_generations current held 0 gs) number
    (judged_generation current held number t.0)
    (judged_at current held 0 number gs t.0 t.1
    ∙ ap (λ n. Some (judged_generation current held n t.0))
    (let e : 0 + number ≡ number = omega arith in e))
    (λ i. live i && same i)

-- ---- how long the board is

judged_long : (current held : List (Option ℕ)) (k : ℕ) (gs : List Generation)
    → length (judged_generations current held k gs) ≡ length gs
judged_long current held k [] = refl
judged_long current held k (g ∷ gs) = ap suc (judged_long current held (k + 1) gs)

pub board_long : (o : Opening) (st : State) (kept : BoardState) → IsRollout o st kept
    → length kept.generations ≡ length st.generations
board_long o st kept k = ap (λ (b : BoardState). length b.generations) k.board_is
    ∙ judged_long st.current st.held 0 st.generations

pub board_room : (o : Opening) (st : State) (kept : BoardState) → IsRollout o st kept
    → kept.room ≡ room_of o
board_room o st kept k = ap (λ (b : BoardState). b.room) k.board_is

-- ---- what the caller sees

pub taken_view : (o : Opening) (store : Kept) (kept next : BoardState) (gs later : List Generation)
    (current held : List (Option ℕ)) (replica number : ℕ) (p : Publication) (old : RolloutState)
    → record { opening = o; state = state_with store kept gs current held; torn = store.torn } ≡ old
    → next.needs ≡ kept.needs
    → later ≡ gs ++ record { replica = replica; published = p } ∷ [] → number ≡ length gs
    → ◌≡◌ {A = RolloutState} (record {
      opening = o;
      state = state_with store next later (slice_set current replica (Some number)) held;
      torn = store.torn;
    }) (with_generation old replica p)
taken_view o store kept next gs later current held replica number p old view needs later_is
    number_is =
    let path : ◌≡◌ {A = RolloutState} (record {
      opening = o;
      state = state_with store next later (slice_set current replica (Some number)) held;
      torn = store.torn;
    }) (with_generation
    (record { opening = o; state = state_with store kept gs current held; torn = store.torn })
    replica p) =
    (λ i. record {
      opening = o;
      state = record {
        generations = later_is i;
        current = slice_set current replica (Some (number_is i));
        held = held;
        needs = needs i;
        rows = store.rows;
        count = store.count;
      };
      torn = store.torn;
    }) in
    path ∙ ap (λ (c : RolloutState). with_generation c replica p) view

-- ---- what holds of the rollout

module _ (o : Opening) (store : Kept) (kept next : BoardState) (gs : List Generation)
    (current held : List (Option ℕ))
    (k : IsRollout o (state_with store kept gs current held) kept) where
  pub rollout_grown : (replica : ℕ) (p : Publication) → replica < length o.replicas
      → next ≡ record kept {
        generations = given_to replica p.rows kept.generations;
      }
      → IsRollout o (state_with store next (gs ++ record { replica = replica; published = p } ∷ [])
      (slice_set current replica (Some (length gs))) held) next
  rollout_grown replica p l e =
      let in_current : replica < length current = omega (arith, k.replicas, l) in
      let g : Generation = record { replica = replica; published = p } in
      let later = gs ++ g ∷ [] in
      let now = slice_set current replica (Some (length gs)) in
      let needs_are : next.needs ≡ kept.needs = ap (λ (b : BoardState). b.needs) e in
      record {
        board_is = e
            ∙ ap (λ (b : BoardState). record b {
              generations = given_to replica p.rows b.generations;
            }) k.board_is
            ∙ ap (λ l. record (board o (state_with store kept gs current held)) {
              generations = l;
            })
            (board_grown current held gs replica p in_current k.own k.held)
            ∙ ap (λ n. record (board o (state_with store kept later now held)) { needs = n })
            (sym needs_are);
        current = numbers_set current later replica (Some (length gs))
            (numbers_more current gs (g ∷ []) k.current) in_current
            (omega (arith, length-append gs (g ∷ [])));
        own = own_set current gs later replica (Some (length gs)) k.own k.current
            (get_front gs (g ∷ []))
            (ap (option_map (λ (x : Generation). x.replica)) (at_end gs g)) in_current;
        held = numbers_more held gs (g ∷ []) k.held;
        replicas = length-set current replica (Some (length gs)) ∙ k.replicas;
        seats = k.seats;
        few = k.few;
      }

  pub rollout_left : (replica : ℕ) → replica < length o.replicas
      → next ≡ record kept { generations = without_current replica kept.generations }
      → IsRollout o (state_with store next gs (slice_set current replica None) held) next
  rollout_left replica l e =
      let in_current : replica < length current = omega (arith, k.replicas, l) in
      let now = slice_set current replica None in
      let needs_are : next.needs ≡ kept.needs = ap (λ (b : BoardState). b.needs) e in
      record {
        board_is = e
            ∙ ap (λ (b : BoardState). record b {
              generations = without_current replica b.generations;
            }) k.board_is
            ∙ ap (λ l. record (board o (state_with store kept gs current held)) {
              generations = l;
            })
            (changed current held replica None gs k.own (λ n e. absurd (none-some n e)))
            ∙ ap (λ n. record (board o (state_with store kept gs now held)) { needs = n })
            (sym needs_are);
        current = numbers_set current gs replica None k.current in_current tt;
        own = own_set current gs gs replica None k.own k.current (λ n m. refl) tt in_current;
        held = k.held;
        replicas = length-set current replica None ∙ k.replicas;
        seats = k.seats;
        few = k.few;
      }

  pub board_leaves : (replica number : ℕ) → replica < length o.replicas
      → number_at current replica ≡ Some number
      → IsTrue (list_any (is_replica_current replica) kept.generations)
  board_leaves replica number l is =
      subst (λ (b : BoardState). IsTrue (list_any (is_replica_current replica) b.generations))
      (sym k.board_is)
      (may_leave current held replica number gs (k.current replica number is)
      (omega (arith, k.replicas, l)) is k.own)
