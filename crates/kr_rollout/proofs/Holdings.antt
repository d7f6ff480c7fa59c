-- What a seat's own entries say that it holds is what the state says.
use Rattle.std.proofs.Common.{◌≡◌, ℕ, zero, suc, ◌<◌, ◌⊎◌, cond, Bool, List, [], ◌∷◌, ◌++◌, length, get_or, replicate, Option, None, Some, IsSome, IfSome, refl, sym, ap, subst, ◌∙◌, arith, inl, inr, length-append}
use Rattle.std.specs.List.{slice_get}
use Rattle.std.specs.Option.{option_map}
use Rattle.std.proofs.lemmas.Bool.{cases_eq, eq-eqb, ne_eqb}
use Rattle.std.proofs.lemmas.List.{length-set, get_or-set_same, get_or-set_other, length-replicate}
use Rattle.std.proofs.lemmas.Option.{same_Some, none-some}
use Rattle.kr_provider.specs.Publication.{Publication}
use Rattle.kr_rollout.specs.declared.event.Event.{Event}
use Rattle.kr_rollout.specs.declared.event.Event.TheVariants as event
use Rattle.kr_opening.specs.declared.generation.Generation.{Generation}
use Rattle.kr_rollout.specs.declared.line.Did.{Did}
use Rattle.kr_rollout.specs.declared.line.Did.TheVariants.{Adopt}
use Rattle.kr_rollout.specs.declared.line.Gave.{Gave}
use Rattle.kr_rollout.specs.declared.line.Gave.TheVariants.{Adopted, Released}
use Rattle.kr_rollout.specs.declared.opening.Entry.{Entry}
use Rattle.kr_rollout.specs.declared.opening.Opening.{Opening}
use Rattle.kr_base.specs.Lines.{of_seat}
use Rattle.kr_store.specs.Rows.{put_at}
use Rattle.kr_rollout.specs.Entries.{published_at, generation_named_by, seat_of}
use Rattle.kr_rollout.specs.States.{State, number_at, held_by}
use Rattle.kr_rollout.specs.Openings.{start_of, room_of}
use Rattle.kr_rollout.specs.Answers.{IsAnswer}
use Rattle.kr_rollout.specs.Steps.{after, new_generations, held_after, IsStep}
use Rattle.kr_rollout.specs.Histories.{state_from, state_of, IsRun, IsLegal}
use Rattle.kr_rollout.specs.Callers.{with_published, number_with, holding_then, holding_from, holding, reloads_in, Allows, MayAsk}
use Rattle.kr_rollout.specs.Laws.{HoldingIsHeld, FoundIsThere}
use Rattle.kr_rollout.specs.inner.Rollouts.{AreNumbers, KeepsBudgets, MayServe}
use Rattle.kr_rollout.proofs.Findings.{IsIn, found_there}
use Rattle.kr_rollout.proofs.Revisions.{published_front}
use Rattle.kr_rollout.proofs.Keeping.{numbers_set}
use Rattle.kr_rollout.proofs.Budgets.{room_for}

pair_front : (generations more : List Generation) (number : Option ℕ)
    → IfSome number (λ n. n < length generations)
    → number_with generations number ≡ number_with (generations ++ more) number
pair_front generations more None l = refl
pair_front generations more (Some n) l = ap (with_published n)
    (sym (published_front generations more (Some n) l))

in_bounds : (numbers : List (Option ℕ)) (generations : List Generation) (place : ℕ)
    → AreNumbers numbers generations → IfSome (number_at numbers place)
    (λ n. n < length generations)
in_bounds numbers generations place k = by (number_at numbers place) refl
  where
    by : (o : Option ℕ) → number_at numbers place ≡ o → IfSome o (λ n. n < length generations)
    by None e = tt
    by (Some n) e = k place n e

-- ---- one answer

module _ (generations more : List Generation) (held : List (Option ℕ)) (seat : ℕ)
    (k : AreNumbers held generations) (l : seat < length held) where
  stays_there : (place : ℕ) → number_with generations (number_at held place)
      ≡ number_with (generations ++ more) (number_at held place)
  stays_there place = pair_front generations more (number_at held place)
      (in_bounds held generations place k)

  -- at the seat
  own_then : (gave : Gave) (p : Option Publication)
      → ((n : ℕ) → gave ≡ Adopted n → p ≡ published_at (generations ++ more) (Some n))
      → holding_then gave p (number_with generations (number_at held seat))
      ≡ number_with (generations ++ more) (number_at (held_after gave seat held) seat)
  own_then (Adopted n) p a = ap (with_published n) (a n refl)
      ∙ sym (ap (number_with (generations ++ more)) (get_or-set_same held seat (Some n) None l))
  own_then Released p a = sym (ap (number_with (generations ++ more))
      (get_or-set_same held seat None None l))
  own_then other p a = stays_there seat

  -- at another seat
  other_then : (gave : Gave) (place : ℕ) → (place ≡ seat → ⊥)
      → number_with generations (number_at held place)
      ≡ number_with (generations ++ more) (number_at (held_after gave seat held) place)
  other_then (Adopted n) place d = stays_there place
      ∙ sym (ap (number_with (generations ++ more))
      (get_or-set_other held seat place (Some n) None d))
  other_then Released place d = stays_there place
      ∙ sym (ap (number_with (generations ++ more)) (get_or-set_other held seat place None None d))
  other_then other place d = stays_there place

  grown_numbers : AreNumbers held (generations ++ more)
  grown_numbers place n e = omega (arith, k place n e, length-append generations more)

  numbers_then : (gave : Gave) → ((n : ℕ) → gave ≡ Adopted n → n < length (generations ++ more))
      → AreNumbers (held_after gave seat held) (generations ++ more)
  numbers_then (Adopted n) a = numbers_set held (generations ++ more) seat (Some n) grown_numbers l
      (a n refl)
  numbers_then Released a = numbers_set held (generations ++ more) seat None grown_numbers l tt
  numbers_then other a = grown_numbers

length_then : (gave : Gave) (seat : ℕ) (held : List (Option ℕ))
    → length (held_after gave seat held) ≡ length held
length_then (Adopted n) seat held = length-set held seat (Some n)
length_then Released seat held = length-set held seat None
length_then other seat held = refl

-- ---- one step

-- only a seat that holds nothing adopts
adopts_from_none : (did : Did) (n : ℕ) (st : State) (held : Option ℕ)
    → IsAnswer did (Adopted n) st held → held ≡ None
adopts_from_none (Adopt replica) n st held a = a.0
adopts_from_none other n st held a = absurd a

names_adopted : (o : Opening) (st : State) (e : Entry) (n : ℕ) → IsStep o st e
    → e.line.gave ≡ Adopted n → generation_named_by e.line.held e.line.gave ≡ Some n
names_adopted o st e n s g =
    let none = adopts_from_none e.line.did n st e.line.held
    (subst (λ gave. IsAnswer e.line.did gave st e.line.held) g s.answer) in
    (λ i. generation_named_by (none i) (g i))

adopted_published : (o : Opening) (st : State) (e : Entry) → IsStep o st e → (n : ℕ)
    → e.line.gave ≡ Adopted n
    → e.published ≡ published_at (st.generations ++ new_generations e.line.gave e.line.did) (Some n)
adopted_published o st e s n g = ap (λ (x : Entry). x.published) s.payload
    ∙ ap (published_at (st.generations ++ new_generations e.line.gave e.line.did))
    (names_adopted o st e n s g)

adopted_in_bounds : (o : Opening) (st : State) (e : Entry) → IsStep o st e → (n : ℕ)
    → e.line.gave ≡ Adopted n → n < length (st.generations ++ new_generations e.line.gave
    e.line.did)
adopted_in_bounds o st e s n g =
    subst (λ x. IfSome x (λ m. m < length (st.generations ++ new_generations e.line.gave
    e.line.did))) (names_adopted o st e n s g) s.reaches.generation

numbers_after : (o : Opening) (st : State) (e : Entry) → IsStep o st e
    → AreNumbers st.held st.generations → length st.held ≡ length o.reloads
    → AreNumbers (after st e).held (after st e).generations
numbers_after o st e s k l =
    numbers_then st.generations (new_generations e.line.gave e.line.did) st.held e.line.seat k
    (omega (arith, l, s.seat)) e.line.gave (adopted_in_bounds o st e s)

-- ---- a history

-- of the seat's entries and the others' what the seat holds follows from its own
pub holding_is : (o : Opening) (st : State) (history : List Entry) (seat : ℕ) → IsRun o st history
    → AreNumbers st.held st.generations → length st.held ≡ length o.reloads
    → seat < length o.reloads
    → holding_from (number_with st.generations (held_by st seat)) (of_seat seat_of seat history)
    ≡ number_with (state_from st history).generations (held_by (state_from st history) seat)
holding_is o st [] seat r k l w = refl
holding_is o st (e ∷ history) seat r k l w =
    let rest = holding_is o (after st e) history seat r.1 (numbers_after o st e r.0 k l)
    (length_then e.line.gave e.line.seat st.held ∙ l) w in
    by (cases_eq e.line.seat seat) rest
  where
    in_held : e.line.seat < length st.held
    in_held = omega (arith, l, r.0.seat)

    Goal : Option (ℕ × Publication) → Type 0
    Goal end = holding_from (number_with st.generations (held_by st seat))
        (of_seat seat_of seat (e ∷ history)) ≡ end

    by : (e.line.seat ≡ seat) ⊎ (e.line.seat ≡ seat → ⊥)
        → holding_from (number_with (after st e).generations (held_by (after st e) seat))
        (of_seat seat_of seat history)
        ≡ number_with (state_from (after st e) history).generations
        (held_by (state_from (after st e) history) seat)
        → holding_from (number_with st.generations (held_by st seat))
        (of_seat seat_of seat (e ∷ history))
        ≡ number_with (state_from (after st e) history).generations
        (held_by (state_from (after st e) history) seat)
    by (inl same) rest =
        ap (λ b. holding_from (number_with st.generations (held_by st seat))
        (cond b (e ∷ of_seat seat_of seat history) (of_seat seat_of seat history)))
        (eq-eqb e.line.seat seat same)
        ∙ ap (λ now. holding_from now (of_seat seat_of seat history))
        (subst (λ s. holding_then e.line.gave e.published
        (number_with st.generations (held_by st s))
        ≡ number_with (after st e).generations (held_by (after st e) s)) same
        (own_then st.generations (new_generations e.line.gave e.line.did) st.held e.line.seat k
        in_held e.line.gave e.published (adopted_published o st e r.0)))
        ∙ rest
    by (inr other) rest =
        ap (λ b. holding_from (number_with st.generations (held_by st seat))
        (cond b (e ∷ of_seat seat_of seat history) (of_seat seat_of seat history)))
        (ne_eqb e.line.seat seat other)
        ∙ ap (λ now. holding_from now (of_seat seat_of seat history))
        (other_then st.generations (new_generations e.line.gave e.line.did) st.held e.line.seat k
        in_held e.line.gave seat (λ d. other (sym d)))
        ∙ rest

-- ---- from an opening on

none_there : (n place : ℕ) → number_at (replicate n None) place ≡ None
none_there zero place = refl
none_there (suc n) zero = refl
none_there (suc n) (suc place) = none_there n place

none_numbers : (n : ℕ) (generations : List Generation) → AreNumbers (replicate n None) generations
none_numbers n generations place number e = absurd (none-some number (sym (none_there n place) ∙ e))

pub holding_of : (o : Opening) (history : List Entry) (seat : ℕ) → IsLegal o history
    → seat < length o.reloads
    → holding (of_seat seat_of seat history)
    ≡ number_with (state_of o history).generations (held_by (state_of o history) seat)
holding_of o history seat l w =
    ap (λ now. holding_from now (of_seat seat_of seat history))
    (sym (ap (number_with (start_of o).generations) (none_there (length o.reloads) seat)))
    ∙ holding_is o (start_of o) history seat l.runs
    (none_numbers (length o.reloads) (start_of o).generations)
    (length-replicate (length o.reloads) None) w

numbers_run : (o : Opening) (st : State) (history : List Entry) → IsRun o st history
    → AreNumbers st.held st.generations → length st.held ≡ length o.reloads
    → AreNumbers (state_from st history).held (state_from st history).generations
numbers_run o st [] r k l = k
numbers_run o st (e ∷ history) r k l = numbers_run o (after st e) history r.1
    (numbers_after o st e r.0 k l) (length_then e.line.gave e.line.seat st.held ∙ l)

-- what seats hold are generations
pub numbers_of : (o : Opening) (history : List Entry) → IsLegal o history
    → AreNumbers (state_of o history).held (state_of o history).generations
numbers_of o history l = numbers_run o (start_of o) history l.runs
    (none_numbers (length o.reloads) (start_of o).generations)
    (length-replicate (length o.reloads) None)

-- ---- what a seat may ask

there : {X : Type 0} (xs : List X) (i : ℕ) → i < length xs → (x : X) × (slice_get xs i ≡ Some x)
there [] i l = absurd (omega arith)
there (x ∷ xs) zero l = (x, refl)
there (x ∷ xs) (suc i) l = there xs i (omega arith)

nothing_held : (generations : List Generation) (number : Option ℕ)
    → IfSome number (λ n. n < length generations) → number_with generations number ≡ None
    → number ≡ None
nothing_held generations None l e = refl
nothing_held generations (Some n) l e =
    let g = there generations n l in
    absurd (none-some (n, g.0.published) (sym e
    ∙ ap (λ o. with_published n (option_map (λ (x : Generation). x.published) o)) g.1))

pub pair_parts : (generations : List Generation) (number : Option ℕ) (h : ℕ × Publication)
    → number_with generations number ≡ Some h
    → (number ≡ Some h.0) × (published_at generations (Some h.0) ≡ Some h.1)
pair_parts generations None h e = absurd (none-some h e)
pair_parts generations (Some n) h e = by (published_at generations (Some n)) refl e
  where
    by : (q : Option Publication) → published_at generations (Some n) ≡ q
        → with_published n q ≡ Some h → (◌≡◌ {A = Option ℕ} (Some n) (Some h.0))
        × (published_at generations (Some h.0) ≡ Some h.1)
    by None is e = absurd (none-some h e)
    by (Some p) is e =
        let s = same_Some (n, p) h e in (
          ap (λ (x : ℕ × Publication). Some x.0) s,
          subst
              (λ (x : ℕ × Publication). published_at generations (Some x.0) ≡ Some x.1) s is,
        )

something_held : (generations : List Generation) (number : Option ℕ)
    → IsSome (number_with generations number) → IsSome number
something_held generations None s = s
something_held generations (Some n) s = refl

pub may_serve : (o : Opening) (st : State) (torn : Bool) (history : List Entry) (seat : ℕ)
    (asked : Event)
    → IsLegal o history → KeepsBudgets o history → st ≡ state_of o history
    → MayAsk o seat (of_seat seat_of seat history) asked
    → MayServe (record { opening = o; state = st; torn = torn }) seat asked
may_serve o st torn history seat asked l budgets is may = by asked may.allowed
  where
    k : AreNumbers st.held st.generations
    k = subst (λ (s : State). AreNumbers s.held s.generations) (sym is) (numbers_of o history l)

    same : holding (of_seat seat_of seat history) ≡ number_with st.generations (held_by st seat)
    same = holding_of o history seat l may.seat_in
        ∙ ap (λ (s : State). number_with s.generations (held_by s seat)) (sym is)

    some : IsSome (holding (of_seat seat_of seat history)) → IsSome (held_by st seat)
    some s = something_held st.generations (held_by st seat) (subst (λ h. IsSome h) same s)

    room : reloads_in (of_seat seat_of seat history) < get_or o.reloads seat 0
        → length st.generations < room_of o
    room m = subst (λ (s : State). length s.generations < room_of o) (sym is)
        (room_for o history seat l budgets may.seat_in m)

    by : (asked : Event) → Allows o seat (of_seat seat_of seat history) asked
        → MayServe (record { opening = o; state = st; torn = torn }) seat asked
    by (event.Put path resource plain stored) a =
        let q = pair_parts st.generations (held_by st seat) a.2 (sym same ∙ a.3) in
        (a.0, a.1, a.2.0, a.2.1, q.0, q.1, a.4)
    by (event.Delete path) a = a
    by (event.Replace path revision stored) a =
        let q = pair_parts st.generations (held_by st seat) a.1 (sym same ∙ a.2) in
        let found = subst (λ (s : State). IsIn s.rows a.3) (sym is)
        (subst (λ r. IfSome r (IsIn (state_of o history).rows)) a.4
        (found_there o history seat l)) in
        (a.0, a.1.0, a.1.1, a.3, q.0, q.1, ap (put_at st.rows) (sym a.6) ∙ found.is, a.7)
    by (event.Adopt replica) a = (
      a.0,
      nothing_held st.generations (held_by st seat)
          (in_bounds st.held st.generations seat k) (sym same ∙ a.1),
    )
    by (event.Fetch path) a = (a.0, some a.1)
    by (event.After path) a = (a.0, some a.1)
    by event.LetGo a = some a
    by (event.Reload replica p expect) a = (a.0, a.1, room a.2)
    by (event.Join replica p) a = (a.0, a.1, room a.2)
    by (event.Leave replica) a = a

pub holding_law : HoldingIsHeld
holding_law o history seat l w = holding_of o history seat l w

pub found_law : FoundIsThere
found_law o history seat row l e = (subst (λ r. IfSome r (IsIn (state_of o history).rows)) e
    (found_there o history seat l)).is
