-- Serving an event: that its line's entry is a step.
use Rattle.std.proofs.Common.{◌≡◌, ℕ, ◌<◌, ◌≤◌, ◌++◌, Bool, List, [], length, Option, None, Some, IsSome, IfSome, Result, Ok, Err, IfOk, refl, sym, ap, subst, ◌∙◌, arith, append-nil}
use Rattle.std.specs.Prelude.{⊤, slice_set}
use Rattle.kr_base.specs.declared.errors.NoMemory.{NoMemory}
use Rattle.kr_store.specs.declared.rows.LogRow.{LogRow}
use Rattle.kr_store.specs.declared.rows.Row.{Row}
use Rattle.kr_store.specs.Rows.{live}
use Rattle.kr_store.specs.Stores.{Kept, IsNext}
use Rattle.kr_provider.specs.Publication.{Publication}
use Rattle.kr_judge.specs.Boards.{BoardState, held_more}
use Rattle.kr_rollout.specs.declared.answer.Answer.{Answer}
use Rattle.kr_rollout.specs.declared.answer.Answer.TheVariants as answer
use Rattle.kr_rollout.specs.declared.event.Event.{Event}
use Rattle.kr_rollout.specs.declared.event.Event.TheVariants as event
use Rattle.kr_opening.specs.declared.generation.Generation.{Generation}
use Rattle.kr_rollout.specs.declared.line.Did.{Did}
use Rattle.kr_rollout.specs.declared.line.Did.TheVariants.{Adopt, Fetch, After}
use Rattle.kr_rollout.specs.declared.line.Gave.{Gave}
use Rattle.kr_rollout.specs.declared.line.Gave.TheVariants.{Adopted, Found, Absent, Written, Refused, Moved, Present, Gone, StoreFailed, Nothing}
use Rattle.kr_rollout.specs.declared.line.Line.{Line}
use Rattle.kr_rollout.specs.declared.opening.Entry.{Entry}
use Rattle.kr_rollout.specs.declared.opening.Opening.{Opening}
use Rattle.kr_rollout.specs.Entries.{entry_of, published_at, generation_named_by, revision_in, revision_replaced_in, HasWhatItNames}
use Rattle.kr_rollout.specs.States.{State, number_at, current_of, held_by}
use Rattle.kr_rollout.specs.Answers.{IsAnswer, IsFetchAnswer, FindsNext}
use Rattle.kr_rollout.specs.Writes.{Writes}
use Rattle.kr_rollout.specs.Steps.{after, tears, HidesNoFault, IsStep, KeepsRules}
use Rattle.kr_rollout.specs.Callers.{did_of, gave_of, Records, ShowsEntry, StoresIt}
use Rattle.kr_rollout.specs.inner.Rollouts.{RolloutState, IsRollout, AreNumbers, line_now, state_with, MayServe, Serves}
use Rattle.kr_rollout.specs.inner.Telling.{found_as}
use Rattle.kr_rollout.proofs.Revisions.{live_at}
use Rattle.kr_rollout.proofs.Keeping.{with_board}

-- an answer that changes nothing
abbrev pub IsStill : Gave → Type 0
IsStill (Found revision) = ⊤
IsStill Absent = ⊤
IsStill (Refused verdict) = ⊤
IsStill (Moved number) = ⊤
IsStill (Present number) = ⊤
IsStill (Gone replica) = ⊤
IsStill Nothing = ⊤
IsStill other = ⊥

abbrev with_held : State → List (Option ℕ) → State
with_held st held = record {
  generations = st.generations ++ [];
  current = st.current;
  held = held;
  needs = st.needs;
  rows = st.rows ++ [];
  count = st.count;
}

held_only : (st : State) (held : List (Option ℕ)) → with_held st held ≡ record st { held = held }
held_only st held =
    let g = append-nil st.generations in let r = append-nil st.rows in
    (λ i. record {
      generations = g i;
      current = st.current;
      held = held;
      needs = st.needs;
      rows =
          r i;
      count = st.count;
    })

-- the entry of a line in this state
abbrev pub entry_now : State → ℕ → Did → Gave → Entry
entry_now st seat did gave = entry_of st.rows st.generations (line_now st seat did gave)

still : (st : State) (seat : ℕ) (did : Did) (gave : Gave) → IsStill gave
    → after st (entry_now st seat did gave) ≡ st
still st seat did (Found revision) s = held_only st st.held
still st seat did Absent s = held_only st st.held
still st seat did (Refused verdict) s = held_only st st.held
still st seat did (Moved number) s = held_only st st.held
still st seat did (Present number) s = held_only st st.held
still st seat did (Gone replica) s = held_only st st.held
still st seat did Nothing s = held_only st st.held
still st seat did other s = absurd s

writes_still : (o : Opening) (st : State) (gave : Gave) (e : Entry) → IsStill gave
    → Writes gave o st e
writes_still o st (Found revision) e s = tt
writes_still o st Absent e s = tt
writes_still o st (Refused verdict) e s = tt
writes_still o st (Moved number) e s = tt
writes_still o st (Present number) e s = tt
writes_still o st (Gone replica) e s = tt
writes_still o st Nothing e s = tt
writes_still o st other e s = absurd s

-- an answer that changes nothing wrote nothing
stores_still : (asked : Event) (given : Answer) (e : Entry) → IsStill (gave_of given)
    → StoresIt asked given e
stores_still asked (answer.Gone replica) e s = tt
stores_still asked (answer.Found row) e s = tt
stores_still asked answer.Absent e s = tt
stores_still asked (answer.Refused verdict) e s = tt
stores_still asked (answer.Moved number) e s = tt
stores_still asked (answer.Present number) e s = tt
stores_still asked answer.NoMemory e s = tt
stores_still asked other e s = absurd s

-- an answer that changes nothing hides no fault
none_hidden : (gave : Gave) (count : ℕ) → IsStill gave → HidesNoFault gave count count
none_hidden StoreFailed count s = absurd s
none_hidden other count s = refl

-- nor a write that failed, and it tells of none
tears_nothing : (gave : Gave) (torn : Bool) → IsStill gave → torn ≡ tears gave torn
tears_nothing StoreFailed torn s = absurd s
tears_nothing (Written revision) torn s = absurd s
tears_nothing other torn s = refl

-- a step to a state with the same rows and generations
step_to : (o : Opening) (st next : State) (seat : ℕ) (did : Did) (gave : Gave)
    → seat < length o.reloads → KeepsRules did o
    → IsAnswer did gave st (held_by st seat) → Writes gave o st (entry_now st seat did gave)
    → after st (entry_now st seat did gave) ≡ next → next.rows ≡ st.rows
    → next.generations ≡ st.generations
    → HasWhatItNames st.rows st.generations (line_now st seat did gave)
    → HidesNoFault gave st.count st.count
    → IsStep o st (entry_now st seat did gave)
step_to o st next seat did gave l rules answer writes is rows generations reach faults =
    let r : (after st (entry_now st seat did gave)).rows ≡ st.rows = ap (λ (s : State). s.rows) is
    ∙ rows in
    let g : (after st (entry_now st seat did gave)).generations ≡ st.generations =
    ap (λ (s : State). s.generations) is ∙ generations in
    record {
      seat = l;
      held = refl;
      rules = rules;
      answer = answer;
      writes = writes;
      counted = omega arith;
      faults = faults;
      payload = (λ i. entry_of (sym r i) (sym g i) (line_now st seat did gave));
      reaches = subst (λ gs. HasWhatItNames (after st (entry_now st seat did gave)).rows gs
          (line_now st seat did gave)) (sym g)
          (subst (λ rs. HasWhatItNames rs st.generations (line_now st seat did gave)) (sym r) reach);
    }

-- the entry of an answer's line records it
pub recorded : (rows : List LogRow) (generations : List Generation) (st : State) (seat : ℕ)
    (asked : Event) (given : Answer)
    → ShowsEntry given (entry_of rows generations (line_now st seat (did_of asked) (gave_of given)))
    → StoresIt asked given
    (entry_of rows generations (line_now st seat (did_of asked) (gave_of given)))
    → Records seat asked given
    (entry_of rows generations (line_now st seat (did_of asked) (gave_of given)))
recorded rows generations st seat asked given shows stores =
    record { seat_is = refl; did_is = refl; gave_is = refl; shows = shows; stores = stores }

-- nothing but the journal changes
pub told : (c : RolloutState) (seat : ℕ) (event : Event) (answer : Answer) → IsStill (gave_of answer)
    → seat < length c.opening.reloads
    → KeepsRules (did_of event) c.opening → IsAnswer (did_of event) (gave_of answer) c.state
    (held_by c.state seat)
    → HasWhatItNames c.state.rows c.state.generations
    (line_now c.state seat (did_of event) (gave_of answer))
    → ShowsEntry answer (entry_now c.state seat (did_of event) (gave_of answer))
    → Serves c seat event answer (line_now c.state seat (did_of event) (gave_of answer)) c
told c seat event answer s l rules is reach shows =
    let a = still c.state seat (did_of event) (gave_of answer) s in
    record {
      opening = refl;
      state = sym a;
      step = step_to c.opening c.state c.state seat (did_of event) (gave_of answer) l rules is
          (writes_still c.opening c.state (gave_of answer) _ s) a refl refl reach
          (none_hidden (gave_of answer) c.state.count s);
      records = recorded c.state.rows c.state.generations c.state seat event answer shows
          (stores_still event answer _ s);
      torn = tears_nothing (gave_of answer) c.torn s;
    }

-- a held generation is one of those that are there
pub held_in : (st : State) (seat : ℕ) → AreNumbers st.held st.generations
    → IfSome (held_by st seat) (λ n. n < length st.generations)
held_in st seat k = by (held_by st seat) refl
  where
    by : (o : Option ℕ) → held_by st seat ≡ o → IfSome o (λ n. n < length st.generations)
    by None e = tt
    by (Some n) e = k seat n e

-- what a line that finds no row names, for a seat that holds something or adopts nothing
names_held : (generations : ℕ) (held : Option ℕ) (gave : Gave) → IsSome held
    → IfSome held (λ n. n < generations) → IfSome (generation_named_by held gave) (λ n. n < generations)
names_held generations None gave s l = absurd (none_is s)
  where
    none_is : (is_some_none : IsSome {T = ℕ} None) → ⊥
    none_is e = cc
names_held generations (Some n) gave s l = l

-- ---- the events

module _ (c : RolloutState) (kept : BoardState) (seat : ℕ) (asked : Event)
    (k : IsRollout c.opening c.state kept) (l : seat < length c.opening.reloads)
    (rules : KeepsRules (did_of asked) c.opening) (held : IsSome (held_by c.state seat))
    (none : revision_replaced_in (did_of asked) ≡ 0) where
  -- a seat that holds something reads
  told_holder : (given : Answer) → IsStill (gave_of given)
      → IsAnswer (did_of asked) (gave_of given) c.state (held_by c.state seat)
      → revision_in (gave_of given) ≤ length c.state.rows
      → ShowsEntry given (entry_now c.state seat (did_of asked) (gave_of given))
      → Serves c seat asked given (line_now c.state seat (did_of asked) (gave_of given)) c
  told_holder given s is within shows =
      told c seat asked given s l rules is
      (record {
        row = within;
        replaced = omega (arith, none);
        generation =
            names_held (length c.state.generations) (held_by c.state seat) (gave_of given) held
            (held_in c.state seat k.held);
      })
      shows

  -- it finds a live row or none
  told_found : (found : Result (Option Row) NoMemory)
      → IsAnswer (did_of asked) (gave_of (found_as found)) c.state (held_by c.state seat)
      → IfOk found (λ o. IfSome o (λ row. live c.state.rows row.path ≡ Some row))
      → Serves c seat asked (found_as found)
      (line_now c.state seat (did_of asked) (gave_of (found_as found))) c
  told_found (Ok (Some row)) is there =
      let at = live_at c.state.rows row.path row there in
      told_holder (answer.Found row) tt is at.within at.row_is
  told_found (Ok None) is there = told_holder answer.Absent tt is (omega arith) tt
  told_found (Err why) is there = told_holder answer.NoMemory tt is (omega arith) tt

-- a seat that holds nothing names nothing
names_none : (generations : ℕ) (held : Option ℕ) (gave : Gave) → held ≡ None
    → IfSome (generation_named_by None gave) (λ n. n < generations)
    → IfSome (generation_named_by held gave) (λ n. n < generations)
names_none generations held gave e l = subst (λ h. IfSome (generation_named_by h gave) (λ n. n < generations))
    (sym e) l

-- the seat holds something else
abbrev pub holds_now : RolloutState → ℕ → Option ℕ → RolloutState
holds_now c seat number = record {
  opening = c.opening;
  state =
      record c.state { held = slice_set c.state.held seat number };
  torn = c.torn;
}

pub adopted : (c : RolloutState) (kept : BoardState) (seat replica number : ℕ) (p : Publication)
    → IsRollout c.opening c.state kept → seat < length c.opening.reloads
    → MayServe c seat (event.Adopt replica) → current_of c.state replica ≡ Some number
    → published_at c.state.generations (Some number) ≡ Some p
    → Serves c seat (event.Adopt replica) (answer.Adopted number p)
    (line_now c.state seat (Adopt replica) (Adopted number)) (holds_now c seat (Some number))
adopted c kept seat replica number p k l may is there =
    let a = held_only c.state (slice_set c.state.held seat (Some number)) in
    record {
      opening = refl;
      state = sym a;
      step = step_to c.opening c.state (holds_now c seat (Some number)).state seat (Adopt replica)
          (Adopted number) l may.0 (may.1, is) tt a refl refl
          (record {
            row = omega arith;
            replaced = omega arith;
            generation = names_none (length c.state.generations) (held_by c.state seat)
                (Adopted number) may.1 (k.current replica number is);
          }) refl;
      records = record {
        seat_is = refl;
        did_is = refl;
        gave_is = refl;
        shows = ap (λ h. published_at c.state.generations (generation_named_by h (Adopted number))) may.1
            ∙ there;
        stores = tt;
      };
      torn = refl;
    }

-- what a search came to, as the caller sees it
module _ {here old : RolloutState} {kept : BoardState} (seat : ℕ) {path asked : List ℕ}
    (k : IsRollout here.opening here.state kept) (view : here ≡ old)
    (l : seat < length old.opening.reloads) (same : asked ≡ path) where
  seen_rollout : IsRollout old.opening old.state kept
  seen_rollout = subst (λ (c : RolloutState). IsRollout c.opening c.state kept) view k

  fetched : (found : Result (Option Row) NoMemory) → IsSome (held_by old.state seat)
      → IfOk found (λ o. o ≡ live old.state.rows path)
      → IsFetchAnswer path (gave_of (found_as found)) old.state (held_by old.state seat)
      × IfOk found (λ o. IfSome o (λ row. live old.state.rows row.path ≡ Some row))
  fetched (Ok (Some row)) held is =
      let at = live_at old.state.rows path row (sym is) in
      ((held, row, sym is, refl), ap (live old.state.rows) at.path_is ∙ sym is)
  fetched (Ok None) held is = ((held, sym is), tt)
  fetched (Err why) held is = (held, tt)

  pub fetch_serves : (found : Result (Option Row) NoMemory) → MayServe old seat (event.Fetch path)
      → IfOk found (λ o. o ≡ live here.state.rows asked)
      → Serves old seat (event.Fetch path) (found_as found)
      (line_now old.state seat (Fetch path) (gave_of (found_as found))) old
  fetch_serves found may is =
      let there = subst (λ (c : RolloutState). IfOk found (λ o. o ≡ live c.state.rows path)) view
      (subst (λ p. IfOk found (λ o. o ≡ live here.state.rows p)) same is) in
      let f = fetched found may.1 there in
      told_found old kept seat (event.Fetch path) seen_rollout l may.0 may.1 refl found f.0 f.1

  next_found : (found : Result (Option Row) NoMemory) → IsSome (held_by old.state seat)
      → IfOk found (IsNext old.state.rows path)
      → FindsNext path (gave_of (found_as found)) old.state (held_by old.state seat)
      × IfOk found (λ o. IfSome o (λ row. live old.state.rows row.path ≡ Some row))
  next_found (Ok (Some row)) held is = ((held, row, is, refl), is.1)
  next_found (Ok None) held is = ((held, is), tt)
  next_found (Err why) held is = (held, tt)

  pub next_serves : (found : Result (Option Row) NoMemory) → MayServe old seat (event.After path)
      → IfOk found (IsNext here.state.rows asked)
      → Serves old seat (event.After path) (found_as found)
      (line_now old.state seat (After path) (gave_of (found_as found))) old
  next_serves found may is =
      let there = subst (λ (c : RolloutState). IfOk found (IsNext c.state.rows path)) view
      (subst (λ p. IfOk found (IsNext here.state.rows p)) same is) in
      let f = next_found found may.1 there in
      told_found old kept seat (event.After path) seen_rollout l may.0 may.1 refl found f.0 f.1

-- the same over the fields, for the course that the caller sees
pub adopted_at : (o : Opening) (store : Kept) (kept next : BoardState)
    (generations : List Generation) (current held : List (Option ℕ)) (old : RolloutState) (line : Line)
    (seat replica number : ℕ) (p : Publication)
    → IsRollout o (state_with store kept generations current held) kept
    → record {
      opening = o;
      state = state_with store kept generations current held;
      torn = store.torn;
    } ≡ old
    → next ≡ with_board kept held_more number → seat < length old.opening.reloads
    → MayServe old seat (event.Adopt replica)
    → number_at current replica ≡ Some number → published_at generations (Some number) ≡ Some p
    → line ≡ line_now old.state seat (Adopt replica) (Adopted number)
    → Serves old seat (event.Adopt replica) (answer.Adopted number p) line
    (record {
      opening = o;
      state = state_with store next generations current
          (slice_set held seat (Some number));
      torn = store.torn;
    })
adopted_at o store kept next generations current held old line seat replica number p k view e l may
    is there line_is =
    let here : RolloutState = record {
      opening = o;
      state =
          state_with store kept generations current held;
      torn = store.torn;
    } in
    let l2 = subst (λ (c : RolloutState). seat < length c.opening.reloads) (sym view) l in
    let may2 = subst (λ (c : RolloutState). MayServe c seat (event.Adopt replica)) (sym view) may in
    let base = adopted here kept seat replica number p k l2 may2 is there in
    let now : record {
      opening = o;
      state =
          state_with store next generations current (slice_set held seat (Some number));
      torn = store.torn;
    }
    ≡ holds_now here seat (Some number) =
    ap (λ (b : BoardState). record {
      opening = o;
      state =
          state_with store b generations current (slice_set held seat (Some number));
      torn = store.torn;
    }) e in
    let lines : line ≡ line_now here.state seat (Adopt replica) (Adopted number) = line_is
    ∙ ap (λ (c : RolloutState). line_now c.state seat (Adopt replica) (Adopted number)) (sym view) in
    subst (λ (c : RolloutState). Serves c seat (event.Adopt replica) (answer.Adopted number p) line
    (record {
      opening = o;
      state = state_with store next generations current
          (slice_set held seat (Some number));
      torn = store.torn;
    })) view
    (subst (λ x. Serves here seat (event.Adopt replica) (answer.Adopted number p) x
    (record {
      opening = o;
      state = state_with store next generations current
          (slice_set held seat (Some number));
      torn = store.torn;
    })) (sym lines)
    (subst (λ x. Serves here seat (event.Adopt replica) (answer.Adopted number p)
    (line_now here.state seat (Adopt replica) (Adopted number)) x) (sym now) base))
