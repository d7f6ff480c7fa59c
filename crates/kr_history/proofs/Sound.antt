-- What holds of the state of each legal history: numbers are those of generations, which keep their
-- rules, and the state fits.
use Rattle.std.proofs.Common.{◌≡◌, ℕ, zero, suc, ◌<◌, ◌+◌, ◌⊎◌, Bool, true, false, cond, List, [], ◌∷◌, ◌++◌, length, get_or, count_by, Contains, Option, None, Some, refl, sym, ap, subst, ◌∙◌, arith, inl, inr}
use Rattle.std.specs.Prelude.{◌&&◌, ◌||◌, ◌==◌, not, nat_lt, slice_set}
use Rattle.std.specs.List.{filter, slice_get, list_any}
use Rattle.std.specs.Option.{option_map}
use Rattle.std.proofs.lemmas.Bool.{cases_eq, eq-eqb, eqb-true, eqb-false, ne_eqb}
use Rattle.std.proofs.lemmas.Bool.Decides.{nat_tests}
use Rattle.std.proofs.lemmas.List.{length-set, get_or-set_same, get_or-set_other}
use Rattle.std.proofs.lemmas.List.Folds.{list_any_at}
use Rattle.std.proofs.lemmas.List.Sums.{sum_by-cons}
use Rattle.std.proofs.lemmas.Option.{none-some, same_Some, slice_get_within}
use Rattle.kr_config.specs.declared.class.Class.{Class}
use Rattle.kr_config.specs.Kept.{ConfigEntry}
use Rattle.kr_config.specs.Lists.{list_of, class_list}
use Rattle.kr_provider.specs.Publication.{Publication, IsPublished}
use Rattle.kr_judge.specs.declared.need.Need.{Need}
use Rattle.kr_judge.specs.declared.verdict.Verdict.TheVariants.{Pass}
use Rattle.kr_judge.specs.Boards.{GenerationState}
use Rattle.kr_judge.specs.Fits.{ReadsWriter}
use Rattle.kr_judge.specs.Verdicts.{with_numbers, is_other, others}
use Rattle.kr_judge.proofs.Passing.{passes_exactly}
use Rattle.kr_opening.specs.declared.generation.Generation.{Generation}
use Rattle.kr_rollout.specs.declared.opening.Opening.{Opening}
use Rattle.kr_rollout.specs.Entries.{published_at}
use Rattle.kr_rollout.specs.States.{State, number_at, is_number, judged_generation, judged_generations, board_generations, verdict_on, IsLive}
use Rattle.kr_rollout.specs.Fits.{IsFit}
use Rattle.kr_rollout.specs.Judgements.{with_configuration}
use Rattle.kr_history.specs.LackLaws.{IsBeside}
use Rattle.kr_judge.proofs.Lacking.{reads_own}
use Rattle.kr_opening.proofs.Passing.{passed, AreReadable}

-- ---- numbers at places

pub there_at : (numbers : List (Option ℕ)) (place n : ℕ) → number_at numbers place ≡ Some n
    → (place < length numbers) × (get_or numbers place (Some n) ≡ Some n)
there_at [] place n e = absurd (none-some n e)
there_at (x ∷ xs) zero n e = (omega arith, e)
there_at (x ∷ xs) (suc place) n e =
    let r = there_at xs place n e in (omega (arith, r.0), r.1)

pub at_there : (numbers : List (Option ℕ)) (place n : ℕ) → place < length numbers
    → get_or numbers place (Some n) ≡ Some n → number_at numbers place ≡ Some n
at_there [] place n l e = absurd (omega arith)
at_there (x ∷ xs) zero n l e = e
at_there (x ∷ xs) (suc place) n l e = at_there xs place n (omega arith) e

pub contains_at : (numbers : List (Option ℕ)) (place n : ℕ) → number_at numbers place ≡ Some n
    → Contains numbers (Some n)
contains_at numbers place n e = let r = there_at numbers place n e in (place, r.0, r.1)

-- what is there after one place was set
pub set_there : {X : Type 0} (xs : List X) (i : ℕ) (x y : X) → Contains (slice_set xs i x) y
    → (x ≡ y) ⊎ ((place : ℕ) × (place ≡ i → ⊥) × (place < length xs) × (get_or xs place y ≡ y))
set_there xs i x y c =
    let l : c.0 < length xs = omega (arith, c.1, length-set xs i x) in
    elim (cases_eq c.0 i) [
      | inl same ↦ inl (sym (get_or-set_same xs i x y (omega (arith, l, same)))
          ∙ ap (λ k. get_or (slice_set xs i x) k y) (sym same) ∙ c.2)
      | inr other ↦ inr (c.0, other, l, sym (get_or-set_other xs i c.0 x y other) ∙ c.2)
    ]

-- ---- generations by their numbers

pub get_old : {X : Type 0} (xs ys : List X) (k : ℕ) → k < length xs
    → slice_get (xs ++ ys) k ≡ slice_get xs k
get_old [] ys k l = absurd (omega arith)
get_old (x ∷ xs) ys zero l = refl
get_old (x ∷ xs) ys (suc k) l = get_old xs ys k (omega arith)

pub get_new : {X : Type 0} (xs : List X) (x : X) → slice_get (xs ++ x ∷ []) (length xs) ≡ Some x
get_new [] x = refl
get_new (y ∷ xs) x = get_new xs x

pub old_more : {X : Type 0} (xs ys : List X) (n : ℕ) (x : X) → slice_get xs n ≡ Some x
    → slice_get (xs ++ ys) n ≡ Some x
old_more xs ys n x e = get_old xs ys n (slice_get_within xs n x e) ∙ e

-- the replica's number is that of a generation of its own
pub record IsOwn (generations : List Generation) (replica number : ℕ) : Type 0 where
  pub generation : Generation
  pub there : slice_get generations number ≡ Some generation
  pub replica_is : generation.replica ≡ replica

pub record IsSound (o : Opening) (st : State) : Type 0 where
  pub replicas : length st.current ≡ length o.replicas
  pub own : (replica number : ℕ) → number_at st.current replica ≡ Some number
      → IsOwn st.generations replica number
  pub held : (number : ℕ) → Contains st.held (Some number) → number < length st.generations
  pub kept : (number : ℕ) (g : Generation) → slice_get st.generations number ≡ Some g
      → IsPublished g.published
  pub fit : IsFit st

-- ---- the generations that are judged

is_itself : (n : ℕ) → is_number n (Some n) ≡ true
is_itself n = eq-eqb n n refl

number_is : (n : ℕ) (x : Option ℕ) → is_number n x ≡ true → x ≡ Some n
number_is n None e = cc
number_is n (Some m) e = ap Some (eqb-true m n e)

-- a number is held, or nobody holds it
pub held_or_none : (held : List (Option ℕ)) (n : ℕ)
    → (count_by (is_number n) held ≡ 0) ⊎ Contains held (Some n)
held_or_none [] n = inl refl
held_or_none (x ∷ xs) n = by (is_number n x) refl (held_or_none xs n)
  where
    by : (b : Bool) → is_number n x ≡ b
        → (count_by (is_number n) xs ≡ 0) ⊎ Contains xs (Some n)
        → (count_by (is_number n) (x ∷ xs) ≡ 0) ⊎ Contains (x ∷ xs) (Some n)
    by true e r = inr (0, omega arith, number_is n x e)
    by false e (inr c) = inr (suc c.0, omega (arith, c.1), c.2)
    by false e (inl none) =
        let s = sum_by-cons (λ y. cond (is_number n y) 1 0) x xs in
        let z : cond (is_number n x) 1 0 ≡ 0 = ap {B = ℕ} (λ b. cond b 1 0) e in
        inl (omega (arith, s, z, none))

pub held_counts : (held : List (Option ℕ)) (n : ℕ) → Contains held (Some n)
    → 0 < count_by (is_number n) held
held_counts [] n c = absurd (omega (arith, c.1))
held_counts (x ∷ xs) n (zero, l, e) =
    let s = sum_by-cons (λ y. cond (is_number n y) 1 0) x xs in
    let one : cond (is_number n x) 1 0 ≡ 1 =
    ap {B = ℕ} (λ b. cond b 1 0) (ap (is_number n) e ∙ is_itself n) in
    omega (arith, s, one)
held_counts (x ∷ xs) n (suc k, l, e) =
    let s = sum_by-cons (λ y. cond (is_number n y) 1 0) x xs in
    omega (arith, s, held_counts xs n (k, omega arith, e))

pub current_there : (current : List (Option ℕ)) (n : ℕ) → list_any (is_number n) current ≡ true
    → (place : ℕ) × (number_at current place ≡ Some n)
current_there [] n e = absurd (cc)
current_there (x ∷ xs) n e = by (is_number n x) refl e (current_there xs n)
  where
    by : (b : Bool) → is_number n x ≡ b → (b || list_any (is_number n) xs) ≡ true
        → (list_any (is_number n) xs ≡ true → (place : ℕ) × (number_at xs place ≡ Some n))
        → (place : ℕ) × (number_at (x ∷ xs) place ≡ Some n)
    by true is e again = (zero, number_is n x is)
    by false is e again = let r = again e in (suc r.0, r.1)

pub current_any : (current : List (Option ℕ)) (place n : ℕ) → number_at current place ≡ Some n
    → list_any (is_number n) current ≡ true
current_any current place n e = list_any_at (is_number n) current place None
    (there_at current place n e).0 (ap (is_number n) e ∙ is_itself n)

-- the test of others
abbrev other_test : (cur more same none : Bool) → Bool
other_test cur more same none = (cur || more) && not (same && (cur && none))

held_tested : (cur same : Bool) → other_test cur true same false ≡ true
held_tested true true = refl
held_tested true false = refl
held_tested false true = refl
held_tested false false = refl

tested : (cur more same none : Bool) → other_test cur more same none ≡ true → more ≡ false
    → none ≡ true → (cur ≡ true) × (same ≡ false)
tested true more true true e m n = absurd (clash more e)
  where
    clash : (more : Bool) → other_test true more true true ≡ true → ⊥
    clash true e = cc
    clash false e = cc
tested true more false none e m n = (refl, refl)
tested false true same none e m n = absurd (cc)
tested other more same none e m n = absurd (cc)

pub positive : (n : ℕ) → 0 < n → nat_lt 0 n ≡ true
positive n l = grind (arith, nat_tests)

pub none_positive : nat_lt 0 0 ≡ false
none_positive = grind (arith, nat_tests)

module _ (o : Opening) (st : State) (sound : IsSound o st) (replica : ℕ) where
  other_judged : (n : ℕ) (g : Generation) → slice_get st.generations n ≡ Some g
      → IsBeside st replica n
      → is_other replica (judged_generation st.current st.held n g) ≡ true
  other_judged n g there (inl (place, apart, e)) =
      let own = sound.own place n e in
      let same = same_Some own.generation g (sym own.there ∙ there) in
      let differs : (g.replica == replica) ≡ false = ne_eqb g.replica replica
      (λ d. apart (sym own.replica_is ∙ ap (λ (x : Generation). x.replica) same ∙ d)) in
      let holders = count_by (is_number n) st.held in
      ap (λ c. other_test c (nat_lt 0 holders) (g.replica == replica) (holders == 0))
      (current_any st.current place n e)
      ∙ ap (λ s. other_test true (nat_lt 0 holders) s (holders == 0)) differs
  other_judged n g there (inr held) =
      let holders = count_by (is_number n) st.held in
      let some = held_counts st.held n held in
      ap (λ m. other_test (list_any (is_number n) st.current) m (g.replica == replica)
      (holders == 0)) (positive holders some)
      ∙ ap (λ z. other_test (list_any (is_number n) st.current) true (g.replica == replica) z)
      (ne_eqb holders 0 (λ e. omega (arith, e, some)))
      ∙ held_tested (list_any (is_number n) st.current) (g.replica == replica)

  judged_other : (n : ℕ) (g : Generation) → slice_get st.generations n ≡ Some g
      → is_other replica (judged_generation st.current st.held n g) ≡ true
      → IsBeside st replica n
  judged_other n g there e = elim (held_or_none st.held n) [
    | inr held ↦ inr held
    | inl none ↦
        (let t = tested (list_any (is_number n) st.current) (nat_lt 0 (count_by (is_number n)
        st.held)) (g.replica == replica) (count_by (is_number n) st.held == 0) e
        (ap (nat_lt 0) none ∙ none_positive) (eq-eqb (count_by (is_number n) st.held) 0 none) in
        let at = current_there st.current n t.0 in
        let own = sound.own at.0 n at.1 in
        let same = same_Some own.generation g (sym own.there ∙ there) in
        inl (
          at.0,
          (λ d. eqb-false g.replica replica t.1
              (sym (ap (λ (x : Generation). x.replica) same) ∙ own.replica_is ∙ d)),
          at.1,
        ))
  ]

-- judged generations are those of the state
pub judged_there : (current held : List (Option ℕ)) (k i : ℕ) (gs : List Generation) (g : Generation)
    → slice_get gs i ≡ Some g
    → Contains (judged_generations current held k gs) (judged_generation current held (k + i) g)
judged_there current held k i [] g e = absurd (none-some g e)
judged_there current held k zero (x ∷ gs) g e = (
  0,
  omega arith,
  ap (judged_generation current held k) (same_Some x g e)
      ∙ ap (λ n. judged_generation current held n g) (omega arith),
)
judged_there current held k (suc i) (x ∷ gs) g e =
    let r = judged_there current held (k + 1) i gs g e in
    let n : k + 1 + i ≡ k + suc i = omega arith in
    subst (λ m. Contains (judged_generations current held k (x ∷ gs))
    (judged_generation current held m g)) n
    (suc r.0, omega (arith, r.1), r.2)

pub record IsJudgedAt (current held : List (Option ℕ)) (k : ℕ) (gs : List Generation)
    (t : GenerationState) : Type 0 where
  pub number : ℕ
  pub generation : Generation
  pub there : slice_get gs number ≡ Some generation
  pub is : judged_generation current held (k + number) generation ≡ t

pub judged_at : (current held : List (Option ℕ)) (k : ℕ) (gs : List Generation) (t : GenerationState)
    → Contains (judged_generations current held k gs) t → IsJudgedAt current held k gs t
judged_at current held k [] t c = absurd (omega (arith, c.1))
judged_at current held k (g ∷ gs) t (zero, l, e) = record {
  number = 0;
  generation = g;
  there = refl;
  is = ap (λ n. judged_generation current held n g) (omega arith) ∙ e;
}
judged_at current held k (g ∷ gs) t (suc i, l, e) =
    let r = judged_at current held (k + 1) gs t (i, omega arith, e) in
    record {
      number = suc r.number;
      generation = r.generation;
      there = r.there;
      is = ap (λ n. judged_generation current held n r.generation) (omega arith) ∙ r.is;
    }

-- ---- what is live with a new configuration

-- the settings of a generation that is live beside it
pub record AreOther (st : State) (replica : ℕ) (rows : List ConfigEntry) : Type 0 where
  pub number : ℕ
  pub generation : Generation
  pub there : slice_get st.generations number ≡ Some generation
  pub live : IsBeside st replica number
  pub rows_are : generation.published.rows ≡ rows

pub rows_of_number : (generations : List Generation) (n : ℕ) (rows : List ConfigEntry)
    → option_map (λ (p : Publication). p.rows) (published_at generations (Some n)) ≡ Some rows
    → (g : Generation) × (slice_get generations n ≡ Some g) × (g.published.rows ≡ rows)
rows_of_number generations n rows e = by (slice_get generations n) refl e
  where
    by : (x : Option Generation) → slice_get generations n ≡ x
        → option_map (λ (p : Publication). p.rows) (option_map (λ (g : Generation). g.published) x)
        ≡ Some rows
        → (g : Generation) × (slice_get generations n ≡ Some g) × (g.published.rows ≡ rows)
    by None is e = absurd (none-some rows e)
    by (Some g) is e = (g, is, same_Some g.published.rows rows e)

pub number_rows : (generations : List Generation) (n : ℕ) (g : Generation)
    → slice_get generations n ≡ Some g
    → option_map (λ (p : Publication). p.rows) (published_at generations (Some n))
    ≡ Some g.published.rows
number_rows generations n g e = ap (λ o. option_map (λ (p : Publication). p.rows)
    (option_map (λ (x : Generation). x.published) o)) e

module _ (o : Opening) (st : State) (sound : IsSound o st) (replica : ℕ) (p : Publication) where
  abbrev next : State
  next = with_configuration st replica p

  was_live : (rows : List ConfigEntry) → AreOther st replica rows → IsLive st rows
  was_live rows a = (
    a.number,
    elim a.live [
      | inl at ↦ inl (contains_at st.current at.0 a.number at.2)
      | inr held ↦ inr held
    ],
    number_rows st.generations a.number a.generation a.there ∙ ap Some a.rows_are,
  )

  stays_live : (rows : List ConfigEntry) → AreOther st replica rows → IsLive next rows
  stays_live rows a = (
    a.number,
    elim a.live [
      | inl at ↦ inl (contains_at next.current at.0 a.number
          (get_or-set_other st.current replica at.0 (Some (length st.generations)) None at.1
          ∙ at.2))
      | inr held ↦ inr held
    ],
    number_rows next.generations a.number a.generation
        (get_old st.generations (record { replica = replica; published = p } ∷ []) a.number
        (slice_get_within st.generations a.number a.generation a.there) ∙ a.there)
        ∙ ap Some a.rows_are,
  )

  own_live : replica < length o.replicas → IsLive next p.rows
  own_live l = (
    length st.generations,
    inl (contains_at next.current replica (length st.generations)
        (get_or-set_same st.current replica (Some (length st.generations)) None
        (omega (arith, l, sound.replicas)))),
    number_rows next.generations (length st.generations)
        (record { replica = replica; published = p })
        (get_new st.generations (record { replica = replica; published = p })),
  )

  other_within : (n : ℕ) → IsBeside st replica n → n < length st.generations
  other_within n (inl at) = let own = sound.own at.0 n at.2 in
      slice_get_within st.generations n own.generation own.there
  other_within n (inr held) = sound.held n held

  -- its own number is that of its settings
  own_rows : (n : ℕ) (rows : List ConfigEntry) → length st.generations ≡ n
      → option_map (λ (q : Publication). q.rows) (published_at next.generations (Some n))
      ≡ Some rows → p.rows ≡ rows
  own_rows n rows same e =
      let r = rows_of_number next.generations n rows e in
      ap (λ (g : Generation). g.published.rows) (same_Some
      (record { replica = replica; published = p }) r.0
      (sym (get_new st.generations (record { replica = replica; published = p }))
      ∙ ap (slice_get next.generations) same ∙ r.1))
      ∙ r.2

  other_rows : (n : ℕ) (rows : List ConfigEntry) → IsBeside st replica n
      → option_map (λ (q : Publication). q.rows) (published_at next.generations (Some n))
      ≡ Some rows → AreOther st replica rows
  other_rows n rows live e =
      let r = rows_of_number next.generations n rows e in
      record {
        number = n;
        generation = r.0;
        there = sym (get_old st.generations (record { replica = replica; published = p } ∷ []) n
            (other_within n live)) ∙ r.1;
        live = live;
        rows_are = r.2;
      }

  new_live : (rows : List ConfigEntry) → IsLive next rows → AreOther st replica rows ⊎ (p.rows ≡ rows)
  new_live rows (n, inr held, e) = inl (other_rows n rows (inr held) e)
  new_live rows (n, inl at, e) =
      elim (set_there st.current replica (Some (length st.generations)) (Some n) at) [
        | inl same ↦ inr (own_rows n rows (same_Some (length st.generations) n same) e)
        | inr far ↦ inl (other_rows n rows
            (inl (far.0, far.1, at_there st.current far.0 n far.2 far.3)) e)
      ]

  -- ---- where the verdict passes it fits

  pub other_state : (rows : List ConfigEntry) (a : AreOther st replica rows)
      → (t : GenerationState) × Contains (board_generations st) t
      × (is_other replica t ≡ true) × (t.rows ≡ rows)
  other_state rows a =
      let zero_more : 0 + a.number ≡ a.number = omega arith in (
        judged_generation st.current st.held a.number a.generation,
        subst (λ n. Contains (board_generations st)
            (judged_generation st.current st.held n a.generation)) zero_more
            (judged_there st.current st.held 0 a.number st.generations a.generation a.there),
        other_judged o st sound replica a.number a.generation a.there a.live,
        a.rows_are,
      )

  module _ (published : IsPublished p) where
    pub next_fits : verdict_on st replica p.rows ≡ Pass → IsFit next
    next_fits pass = record {
      writers = λ a b class la lb. by a b class (new_live a la) (new_live b lb);
      stored = λ a need la there. kept a need there (new_live a la);
    }
      where
        r : AreReadable st.needs (board_generations st) replica p.rows
        r = passed st.needs (board_generations st) replica p.rows pass

        by : (a b : List ConfigEntry) (class : Class) → AreOther st replica a ⊎ (p.rows ≡ a)
            → AreOther st replica b ⊎ (p.rows ≡ b)
            → ReadsWriter (class_list b class) (class_list a class)
        by a b class (inl oa) (inl ob) =
            sound.fit.writers a b class (was_live a oa) (was_live b ob)
        by a b class (inl oa) (inr eb) =
            let t = other_state a oa in
            subst (λ (x : List ConfigEntry). ReadsWriter (class_list x class) (class_list a class)) eb
            (subst (λ (x : List ConfigEntry). ReadsWriter (class_list p.rows class) (class_list x class))
            t.3 (r.is_read t.0 t.1 t.2 class))
        by a b class (inr ea) (inl ob) =
            let t = other_state b ob in
            subst (λ (x : List ConfigEntry). ReadsWriter (class_list b class) (class_list x class)) ea
            (subst (λ (x : List ConfigEntry). ReadsWriter (class_list x class) (class_list p.rows class))
            t.3 (r.reads t.0 t.1 t.2 class))
        by a b class (inr ea) (inr eb) =
            subst (λ (x : List ConfigEntry). ReadsWriter (class_list b class) (class_list x class)) ea
            (subst (λ (x : List ConfigEntry). ReadsWriter (class_list x class) (class_list p.rows class))
            eb (reads_own (class_list p.rows class)))

        kept : (a : List ConfigEntry) (need : Need) → Contains st.needs need
            → AreOther st replica a ⊎ (p.rows ≡ a)
            → Contains (list_of a need.resource) need.who
        kept a need there (inl oa) = sound.fit.stored a need (was_live a oa) there
        kept a need there (inr ea) = subst (λ x. Contains (list_of x need.resource) need.who) ea
            (r.stored need there)

-- ---- where it fits the verdict passes

filtered : {X : Type 0} (test : X → Bool) (xs : List X) (x : X) → Contains (filter test xs) x
    → Contains xs x × (test x ≡ true)
filtered test [] x c = absurd (omega (arith, c.1))
filtered test (y ∷ ys) x c = by (test y) refl (filtered test ys x) c
  where
    more : Contains ys x × (test x ≡ true) → Contains (y ∷ ys) x × (test x ≡ true)
    more r = ((suc r.0.0, omega (arith, r.0.1), r.0.2), r.1)

    by : (v : Bool) → test y ≡ v → (Contains (filter test ys) x → Contains ys x × (test x ≡ true))
        → Contains (cond v (y ∷ filter test ys) (filter test ys)) x
        → Contains (y ∷ ys) x × (test x ≡ true)
    by true is again (zero, l, e) = ((0, omega arith, e), sym (ap test e) ∙ is)
    by true is again (suc k, l, e) = more (again (k, omega arith, e))
    by false is again c = more (again c)

numbered_there : (k : ℕ) (generations : List GenerationState) (n : ℕ × GenerationState)
    → Contains (with_numbers k generations) n → Contains generations n.1
numbered_there k [] n c = absurd (omega (arith, c.1))
numbered_there k (g ∷ gs) n (zero, l, e) =
    (0, omega arith, ap (λ (x : ℕ × GenerationState). x.1) e)
numbered_there k (g ∷ gs) n (suc i, l, e) =
    let r = numbered_there (k + 1) gs n (i, omega arith, e) in
    (suc r.0, omega (arith, r.1), r.2)

others_there : (replica : ℕ) (generations : List GenerationState) (n : ℕ × GenerationState)
    → Contains (others replica generations) n
    → Contains generations n.1 × (is_other replica n.1 ≡ true)
unfolding others
others_there replica generations n c =
    let f = filtered (λ m. is_other replica m.1) (with_numbers 0 generations) n c in
    (numbered_there 0 generations n f.0, f.1)

-- one of the others that are judged is live beside a new configuration
pub other_at : (o : Opening) (st : State) → IsSound o st → (replica : ℕ)
    (other : ℕ × GenerationState) → Contains (others replica (board_generations st)) other
    → AreOther st replica other.1.rows
other_at o st sound replica other there =
    let t = others_there replica (board_generations st) other there in
    let j = judged_at st.current st.held 0 st.generations other.1 t.0 in
    let zero_more : j.number ≡ 0 + j.number = omega arith in
    let is = ap (λ n. judged_generation st.current st.held n j.generation) zero_more ∙ j.is in
    record {
      number = j.number;
      generation = j.generation;
      there = j.there;
      live = judged_other o st sound replica j.number j.generation j.there
          (ap (is_other replica) is ∙ t.1);
      rows_are = ap (λ (x : GenerationState). x.rows) is;
    }

-- it is enough that the others fit with the new settings
pub others_pass : (o : Opening) (st : State) → IsSound o st → (replica : ℕ) (rows : List ConfigEntry)
    → ((need : Need) → Contains st.needs need → Contains (list_of rows need.resource) need.who)
    → ((other : List ConfigEntry) → AreOther st replica other → (class : Class)
    → ReadsWriter (class_list other class) (class_list rows class))
    → ((other : List ConfigEntry) → AreOther st replica other → (class : Class)
    → ReadsWriter (class_list rows class) (class_list other class))
    → verdict_on st replica rows ≡ Pass
others_pass o st sound replica rows stored writers readers =
    (passes_exactly st.needs (board_generations st) replica rows).1 (record {
      stored = stored;
      writers = λ other class there judged.
          writers other.1.rows (other_at o st sound replica other there) class;
      readers = λ other class there judged.
          readers other.1.rows (other_at o st sound replica other there) class;
    })

pub next_passes : (o : Opening) (st : State) → IsSound o st → (replica : ℕ) (p : Publication)
    → replica < length o.replicas → IsFit (with_configuration st replica p)
    → verdict_on st replica p.rows ≡ Pass
next_passes o st sound replica p l f =
    let own = own_live o st sound replica p l in
    others_pass o st sound replica p.rows
    (λ need there. f.stored p.rows need own there)
    (λ other a class. f.writers p.rows other class own (stays_live o st sound replica p other a))
    (λ other a class. f.writers other p.rows class (stays_live o st sound replica p other a) own)

-- settings of which some live generation is are no news
pub same_passes : (o : Opening) (st : State) → IsSound o st → (replica : ℕ) (rows : List ConfigEntry)
    → IsLive st rows → verdict_on st replica rows ≡ Pass
same_passes o st sound replica rows own =
    others_pass o st sound replica rows
    (λ need there. sound.fit.stored rows need own there)
    (λ other a class. sound.fit.writers rows other class own
    (was_live o st sound replica (record { rows = rows; seeds = [] }) other a))
    (λ other a class. sound.fit.writers other rows class
    (was_live o st sound replica (record { rows = rows; seeds = [] }) other a) own)
