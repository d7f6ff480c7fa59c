-- The board of a state in the midst of a planned rollout.
use Rattle.std.proofs.Common.{◌≡◌, ℕ, suc, ◌+◌, ◌<◌, Bool, true, false, cond, List, [], ◌∷◌, Contains, Option, None, Some, IsSome, refl, sym, ap, subst, ◌∙◌, inl, inr, arith, count_by}
use Rattle.std.specs.Prelude.{◌&&◌, ◌||◌, ◌==◌, nat_lt}
use Rattle.std.specs.List.{list_any, slice_get}
use Rattle.std.specs.Option.{option_map}
use Rattle.std.proofs.lemmas.Bool.{eq-eqb, eqb-true, ltb-true}
use Rattle.std.proofs.lemmas.List.Folds.{Any-from_list_any, list_any_at}
use Rattle.std.proofs.lemmas.List.Sums.{sum_by-cons}
use Rattle.kr_config.specs.Kept.{ConfigEntry}
use Rattle.kr_provider.specs.Publication.{Publication}
use Rattle.kr_judge.specs.Boards.{GenerationState, is_live, is_replica_current}
use Rattle.kr_judge.specs.Lacks.{IsLiveIn}
use Rattle.kr_judge.specs.LiveFits.{AreFit}
use Rattle.kr_plan.specs.Merges.{wide_rows, turned_rows}
use Rattle.kr_plan.specs.Rollouts.{IsBetween}
use Rattle.kr_plan.proofs.Passing.{wide_passes, turned_passes, target_passes}
use Rattle.kr_opening.specs.declared.generation.Generation.{Generation}
use Rattle.kr_rollout.specs.declared.opening.Opening.{Opening}
use Rattle.kr_rollout.specs.Entries.{published_at}
use Rattle.kr_rollout.specs.Fits.{IsFit}
use Rattle.kr_rollout.specs.Histories.{state_of}
use Rattle.kr_rollout.specs.States.{State, current_of, held_by, is_number, judged_generation, board_generations, IsLive, IsLiveNumber}
use Rattle.kr_history.proofs.Fitting.{legal_sound}
use Rattle.kr_history.proofs.Sound.{IsSound, at_there, contains_at, judged_at, judged_there}
use Rattle.kr_plan_laws.specs.PlannedLaws.{WideIsNotRefused, TurnedIsNotRefused, TargetIsNotRefused}
use Rattle.kr_plan_laws.specs.PlannedStates.{IsMidway}

-- ---- numbers

number_is : (n : ℕ) (x : Option ℕ) → is_number n x ≡ true → x ≡ Some n
number_is n None e = cc
number_is n (Some m) e = ap Some (eqb-true m n e)

current_number : (current : List (Option ℕ)) (n : ℕ) → list_any (is_number n) current ≡ true
    → Contains current (Some n)
current_number current n e =
    let some = Any-from_list_any (is_number n) current e in
    subst (Contains current) (number_is n some.1 some.4) (some.0, some.2, some.3)

held_number : (held : List (Option ℕ)) (n : ℕ) → 0 < count_by (is_number n) held
    → Contains held (Some n)
held_number [] n l = absurd (omega (arith, l))
held_number (x ∷ xs) n l = by (is_number n x) refl (held_number xs n)
  where
    by : (v : Bool) → is_number n x ≡ v
        → (0 < count_by (is_number n) xs → Contains xs (Some n)) → Contains (x ∷ xs) (Some n)
    by true e rest = (0, omega arith, number_is n x e)
    by false e rest =
        let s = sum_by-cons (λ y. cond (is_number n y) 1 0) x xs in
        let z : cond (is_number n x) 1 0 ≡ 0 = ap {B = ℕ} (λ b. cond b 1 0) e in
        let c = rest (omega (arith, s, z, l)) in (suc c.0, omega (arith, c.1), c.2)

there_number : (numbers : List (Option ℕ)) (n : ℕ) → Contains numbers (Some n)
    → list_any (is_number n) numbers ≡ true
there_number numbers n c = list_any_at (is_number n) numbers c.0 (Some n) c.1
    (ap (is_number n) c.2 ∙ eq-eqb n n refl)

-- ---- the state as a board

-- a generation that is judged is one of the state, with this number
record HasNumber (st : State) (own : GenerationState) : Type 0 where
  number : ℕ
  generation : Generation
  there : slice_get st.generations number ≡ Some generation
  rows_are : option_map (λ (p : Publication). p.rows) (published_at st.generations (Some number))
      ≡ Some own.rows
  current_is : list_any (is_number number) st.current ≡ own.current
  holders_are : count_by (is_number number) st.held ≡ own.holders

has_number : (st : State) (own : GenerationState) → Contains (board_generations st) own
    → HasNumber st own
has_number st own m =
    let j = judged_at st.current st.held 0 st.generations own m in
    let n : ℕ = j.number in
    let same : n ≡ 0 + n = omega arith in
    let is : judged_generation st.current st.held n j.generation ≡ own =
    ap (λ k. judged_generation st.current st.held k j.generation) same ∙ j.is in
    record {
      number = n;
      generation = j.generation;
      there = j.there;
      rows_are = ap (λ o. option_map (λ (p : Publication). p.rows)
          (option_map (λ (g : Generation). g.published) o)) j.there
          ∙ ap (λ (g : GenerationState). Some g.rows) is;
      current_is = ap (λ (g : GenerationState). g.current) is;
      holders_are = ap (λ (g : GenerationState). g.holders) is;
    }

live_one : (st : State) (own : GenerationState) → HasNumber st own → is_live own ≡ true
    → IsLive st own.rows
live_one st own h live = (h.number, by own.current refl live, h.rows_are)
  where
    by : (v : Bool) → own.current ≡ v → (v || nat_lt 0 own.holders) ≡ true
        → IsLiveNumber st h.number
    by true e k = inl (current_number st.current h.number (h.current_is ∙ e))
    by false e k = inr (held_number st.held h.number
        (subst (λ n. 0 < n) (sym h.holders_are) (ltb-true 0 own.holders k)))

judged_live : (st : State) (rows : List ConfigEntry) → IsLiveIn (board_generations st) rows → IsLive st rows
judged_live st rows (own, m, live, is) =
    subst (IsLive st) is (live_one st own (has_number st own m) live)

readable : (st : State) → IsFit st → AreFit (IsLiveIn (board_generations st)) st.needs
readable st fit = record {
  stored = λ rows need live m. fit.stored rows need (judged_live st rows live) m;
  writers = λ rows other class live beside.
      fit.writers rows other class (judged_live st rows live) (judged_live st other beside);
}

module _ (o : Opening) (st : State) (sound : IsSound o st) (one other : List ConfigEntry) (replica : ℕ)
    (midway : IsMidway one other st replica) where
  held_is_current : (own : GenerationState) → Contains (board_generations st) own
      → 0 < own.holders → own.current ≡ true
  held_is_current own m l =
      let h = has_number st own m in
      let c = held_number st.held h.number (subst (λ n. 0 < n) (sym h.holders_are) l) in
      let at : held_by st c.0 ≡ Some h.number = at_there st.held c.0 h.number c.1 c.2 in
      let current : current_of st h.generation.replica ≡ Some h.number =
      midway.held c.0 h.number h.generation at h.there in
      sym h.current_is
      ∙ there_number st.current h.number
      (contains_at st.current h.generation.replica h.number current)

  is_there : (n : ℕ) → current_of st replica ≡ Some n
      → list_any (is_replica_current replica) (board_generations st) ≡ true
  is_there n e =
      let own = sound.own replica n e in
      let g : Generation = own.generation in
      let judged = judged_there st.current st.held 0 n st.generations g own.there in
      let number : 0 + n ≡ n = omega arith in
      let c : Contains (board_generations st) (judged_generation st.current st.held n g) =
      subst (λ k. Contains (board_generations st) (judged_generation st.current st.held k g)) number
      judged in
      list_any_at (is_replica_current replica) (board_generations st) c.0
      (judged_generation st.current st.held n g) c.1
      (ap (is_replica_current replica) c.2
      ∙ ap (λ v. v && (g.replica == replica))
      (there_number st.current n (contains_at st.current replica n e))
      ∙ eq-eqb g.replica replica own.replica_is)

  in_there : list_any (is_replica_current replica) (board_generations st) ≡ true
  in_there = by (current_of st replica) refl midway.is_in
    where
      by : (x : Option ℕ) → current_of st replica ≡ x → IsSome x
          → list_any (is_replica_current replica) (board_generations st) ≡ true
      by None e s = absurd cc
      by (Some n) e s = is_there n e

  pub between : IsBetween one other st.needs (board_generations st) replica
  between = record {
    fit = readable st sound.fit;
    is_in = in_there;
    held = held_is_current;
    gives = λ own class m current.
        let h = has_number st own m in
        midway.gives h.number own.rows class
        (current_number st.current h.number (h.current_is ∙ current)) h.rows_are;
  }

-- ---- the laws

pub wide_is_not_refused : WideIsNotRefused
wide_is_not_refused o history from to replica legal kept midway =
    let st : State = state_of o history in
    wide_passes from to st.needs (board_generations st) replica kept
    (between o st (legal_sound o history legal) from (wide_rows from to) replica midway)

pub turned_is_not_refused : TurnedIsNotRefused
turned_is_not_refused o history from to replica legal midway =
    let st : State = state_of o history in
    turned_passes from to st.needs (board_generations st) replica
    (between o st (legal_sound o history legal) (wide_rows from to) (turned_rows from to) replica
    midway)

pub target_is_not_refused : TargetIsNotRefused
target_is_not_refused o history from to replica legal kept midway stored =
    let st : State = state_of o history in
    target_passes from to st.needs (board_generations st) replica kept
    (between o st (legal_sound o history legal) (turned_rows from to) to replica midway) stored
