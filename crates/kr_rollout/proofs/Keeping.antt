-- What holds of a rollout holds after a seat takes or gives up a generation.
use Rattle.std.proofs.Common.{◌≡◌, ℕ, zero, suc, ◌∷◌, [], ◌<◌, ◌⊎◌, List, length, get_or, Option, None, Some, IfSome, sym, ap, subst, ◌∙◌, arith, inl, inr}
use Rattle.std.specs.Prelude.{slice_set}
use Rattle.std.proofs.lemmas.Bool.{cases_eq}
use Rattle.std.proofs.lemmas.List.{length-set, get_or-set_same, get_or-set_other}
use Rattle.kr_store.specs.Stores.{Kept}
use Rattle.kr_judge.specs.Boards.{BoardState, GenerationState, changed_at, held_more, held_less, MayHold, IsHeld}
use Rattle.kr_opening.specs.declared.generation.Generation.{Generation}
use Rattle.kr_rollout.specs.declared.event.Event.{Event}
use Rattle.kr_rollout.specs.declared.event.Event.TheVariants as event
use Rattle.kr_rollout.specs.declared.opening.Opening.{Opening}
use Rattle.kr_rollout.specs.Entries.{published_at}
use Rattle.kr_rollout.specs.States.{State, number_at, current_of, held_by}
use Rattle.kr_rollout.specs.Openings.{board}
use Rattle.kr_rollout.specs.inner.Rollouts.{RolloutState, IsRollout, AreNumbers, HoldsOne, MayServe, state_with}
use Rattle.kr_rollout.proofs.Holders.{takes, gives, moved, may_hold, may_release}

-- another number at a place
pub set_cases : (numbers : List (Option ℕ)) (at place number : ℕ) (now : Option ℕ)
    → at < length numbers → number_at (slice_set numbers at now) place ≡ Some number
    → ((place ≡ at) × (now ≡ Some number)) ⊎ (number_at numbers place ≡ Some number)
set_cases numbers at place number now l e = elim (cases_eq place at) [
  | inl same ↦ inl (
    same,
    sym (ap (number_at (slice_set numbers at now)) same
        ∙ get_or-set_same numbers at now None l) ∙ e,
  )
  | inr other ↦ inr (sym (get_or-set_other numbers at place now None other) ∙ e)
]

pub numbers_set : (numbers : List (Option ℕ)) (generations : List Generation) (at : ℕ)
    (now : Option ℕ) → AreNumbers numbers generations → at < length numbers
    → IfSome now (λ n. n < length generations) → AreNumbers (slice_set numbers at now) generations
numbers_set numbers generations at now k l w place number e =
    elim (set_cases numbers at place number now l e) [
      | inl set ↦ subst (λ o. IfSome o (λ n. n < length generations)) set.1 w
      | inr there ↦ k place number there
    ]

abbrev pub with_seat : State → ℕ → Option ℕ → State
with_seat st seat now = record st { held = slice_set st.held seat now }

abbrev pub with_board : BoardState → (GenerationState → GenerationState) → ℕ → BoardState
with_board kept change number = record kept {
  generations =
      changed_at change number kept.generations;
}

pub rollout_takes : (o : Opening) (st : State) (kept : BoardState) (seat replica number : ℕ)
    → IsRollout o st kept → seat < length o.reloads
    → held_by st seat ≡ None → current_of st replica ≡ Some number
    → IsRollout o (with_seat st seat (Some number)) (with_board kept held_more number)
rollout_takes o st kept seat replica number k l none is =
    let in_held : seat < length st.held = omega (arith, k.seats) in
    let there = k.current replica number is in
    record {
      board_is = subst (λ (b : BoardState). with_board b held_more number
          ≡ board o (with_seat st seat (Some number))) (sym k.board_is)
          (ap (λ gs. record (board o st) { generations = gs })
          (moved st.current st.held (slice_set st.held seat (Some number)) number held_more 0 number
          st.generations (takes st.current st.held seat number in_held none)
          (omega arith) there));
      current = k.current;
      own = k.own;
      held = numbers_set st.held st.generations seat (Some number) k.held in_held there;
      replicas = k.replicas;
      seats = length-set st.held seat (Some number) ∙ k.seats;
      few = k.few;
    }

pub rollout_gives : (o : Opening) (st : State) (kept : BoardState) (seat number : ℕ)
    → IsRollout o st kept → seat < length o.reloads
    → held_by st seat ≡ Some number → IsRollout o (with_seat st seat None)
    (with_board kept held_less number)
rollout_gives o st kept seat number k l is =
    let in_held : seat < length st.held = omega (arith, k.seats) in
    let there = k.held seat number is in
    record {
      board_is = subst (λ (b : BoardState). with_board b held_less number
          ≡ board o (with_seat st seat None)) (sym k.board_is)
          (ap (λ gs. record (board o st) { generations = gs })
          (moved st.current st.held (slice_set st.held seat None) number held_less 0 number
          st.generations (gives st.current st.held seat number in_held is)
          (omega arith) there));
      current = k.current;
      own = k.own;
      held = numbers_set st.held st.generations seat None k.held in_held tt;
      replicas = k.replicas;
      seats = length-set st.held seat None ∙ k.seats;
      few = k.few;
    }

pub board_holds : (o : Opening) (st : State) (kept : BoardState) (seat replica number : ℕ)
    → IsRollout o st kept → replica < length o.replicas
    → current_of st replica ≡ Some number → MayHold number kept.generations
board_holds o st kept seat replica number k l is =
    subst (λ (b : BoardState). MayHold number b.generations) (sym k.board_is)
    (may_hold st.current st.held replica number st.generations (k.current replica number is)
    (omega (arith, k.replicas)) is (omega (arith, k.seats, k.few)))

pub board_releases : (o : Opening) (st : State) (kept : BoardState) (seat number : ℕ)
    → IsRollout o st kept → seat < length o.reloads
    → held_by st seat ≡ Some number → IsHeld number kept.generations
board_releases o st kept seat number k l is =
    subst (λ (b : BoardState). IsHeld number b.generations) (sym k.board_is)
    (may_release st.current st.held seat number st.generations (k.held seat number is)
    (omega (arith, k.seats)) is)

-- ---- over the fields

-- what holds where the caller sees it holds of the fields
pub may_before : {here old : RolloutState} → here ≡ old → (seat : ℕ) (asked : Event)
    → MayServe old seat asked → MayServe here seat asked
may_before e seat asked may = subst (λ (c : RolloutState). MayServe c seat asked) (sym e) may

pub seat_before : {here old : RolloutState} → here ≡ old → (seat : ℕ)
    → seat < length old.opening.reloads → seat < length here.opening.reloads
seat_before e seat l = subst (λ (c : RolloutState). seat < length c.opening.reloads) (sym e) l

-- what is read at a place
pub read_number : (numbers : List (Option ℕ)) (place : ℕ) (x : Option ℕ) → place < length numbers
    → x ≡ get_or numbers place x → number_at numbers place ≡ x
read_number [] place x l e = absurd (omega arith)
read_number (y ∷ ys) zero x l e = sym e
read_number (y ∷ ys) (suc place) x l e = read_number ys place x (omega arith) e

pub read_current : {o : Opening} {st : State} {kept : BoardState} → IsRollout o st kept
    → (replica : ℕ) (x : Option ℕ) → replica < length o.replicas
    → x ≡ get_or st.current replica x → current_of st replica ≡ x
read_current {st = st} k replica x l e =
    read_number st.current replica x (omega (arith, l, k.replicas)) e

pub read_held : {o : Opening} {st : State} {kept : BoardState} → IsRollout o st kept
    → (seat : ℕ) (x : Option ℕ) → seat < length o.reloads
    → x ≡ get_or st.held seat x → held_by st seat ≡ x
read_held {st = st} k seat x l e = read_number st.held seat x (omega (arith, l, k.seats)) e

-- a replica's current generation that is read may be adopted
pub read_adopted : {here old : RolloutState} {kept : BoardState} → here ≡ old
    → IsRollout here.opening here.state kept → (seat replica : ℕ) (x : Option ℕ)
    → MayServe old seat (event.Adopt replica) → x ≡ get_or here.state.current replica x
    → MayServe here seat (event.Adopt replica) × (current_of here.state replica ≡ x)
read_adopted view k seat replica x may e =
    let m = may_before view seat (event.Adopt replica) may in (m, read_current k replica x m.0 e)

-- the generation that a seat holds is there
pub holds_one : {o : Opening} {st : State} {kept : BoardState} → IsRollout o st kept
    → (seat number : ℕ) (generations : List Generation) (held : List (Option ℕ))
    → generations ≡ st.generations → held ≡ st.held → seat < length o.reloads
    → held_by st seat ≡ Some number → HoldsOne held generations seat
holds_one {st = st} k seat number generations held gs hs l is =
    subst (λ xs. HoldsOne xs generations seat) (sym hs)
    (subst (λ xs. HoldsOne st.held xs seat) (sym gs)
    (omega (arith, l, k.seats), number, is, k.held seat number is))

pub read_published : (generations : List Generation) (number : ℕ) (g : Generation)
    → number < length generations → g ≡ get_or generations number g
    → published_at generations (Some number) ≡ Some g.published
read_published [] number g l e = absurd (omega arith)
read_published (y ∷ ys) zero g l e = ap (λ (x : Generation). Some x.published) (sym e)
read_published (y ∷ ys) (suc number) g l e = read_published ys number g (omega arith) e

module _ (o : Opening) (store : Kept) (kept next : BoardState) (generations : List Generation)
    (current held : List (Option ℕ)) (k : IsRollout o
    (state_with store kept generations current held) kept) where
  pub rollout_taken : (seat replica number : ℕ) → next ≡ with_board kept held_more number
      → seat < length o.reloads → number_at held seat ≡ None
      → number_at current replica ≡ Some number
      → IsRollout o (state_with store next generations current (slice_set held seat (Some number)))
      next
  rollout_taken seat replica number e l none is =
      subst (λ (b : BoardState). IsRollout o (state_with store b generations current
      (slice_set held seat (Some number))) b) (sym e)
      (rollout_takes o (state_with store kept generations current held) kept seat replica number k l
      none is)

  pub rollout_given : (seat number : ℕ) → next ≡ with_board kept held_less number
      → seat < length o.reloads → number_at held seat ≡ Some number
      → IsRollout o (state_with store next generations current (slice_set held seat None)) next
  rollout_given seat number e l is =
      subst (λ (b : BoardState). IsRollout o (state_with store b generations current
      (slice_set held seat None)) b) (sym e)
      (rollout_gives o (state_with store kept generations current held) kept seat number k l is)
