-- One more line: the entries before it stay, and the history is legal and leads to the state with
-- it.
use Rattle.std.proofs.Common.{◌≡◌, ℕ, ◌<◌, ◌≤◌, ◌+◌, Bool, List, [], ◌∷◌, ◌++◌, length, map, Option, None, Some, IfSome, refl, sym, ap, subst, ◌∙◌, arith, length-append}
use Rattle.std.specs.Prelude.{⊤}
use Rattle.std.proofs.lemmas.List.{map-append}
use Rattle.kr_store.specs.declared.rows.LogRow.{LogRow}
use Rattle.kr_rollout.specs.declared.answer.Answer.{Answer}
use Rattle.kr_rollout.specs.declared.event.Event.{Event}
use Rattle.kr_opening.specs.declared.generation.Generation.{Generation}
use Rattle.kr_rollout.specs.declared.line.Line.{Line}
use Rattle.kr_rollout.specs.declared.opening.Entry.{Entry}
use Rattle.kr_rollout.specs.declared.opening.Opening.{Opening}
use Rattle.kr_rollout.specs.Entries.{entry_of, generation_named_in, revision_in, revision_replaced_in, HasWhatItNames, seat_of}
use Rattle.kr_rollout.specs.States.{State}
use Rattle.kr_rollout.specs.Openings.{start_of}
use Rattle.kr_rollout.specs.Steps.{after, new_generations, new_rows, tears, IsStep}
use Rattle.kr_rollout.specs.Histories.{ends_torn, state_from, state_of, torn_from, IsRun, IsLegal}
use Rattle.kr_rollout.specs.Cores.{CoreState, Applies}
use Rattle.kr_rollout.specs.Laws.{FrontIsLegal}
use Rattle.kr_base.specs.Lines.{of_seat}
use Rattle.kr_rollout.specs.Callers.{MayAsk}
use Rattle.kr_rollout.specs.inner.Rollouts.{RolloutState, Serves, entries_by, KeepsBudgets, IsCore}
use Rattle.kr_store.proofs.Places.{row_stays}
use Rattle.kr_rollout.proofs.Revisions.{published_front}
use Rattle.kr_rollout.proofs.Budgets.{budgets_more}

-- ---- rows and generations only grow

pub rows_grow : (st : State) (history : List Entry)
    → length st.rows ≤ length (state_from st history).rows
rows_grow st [] = omega arith
rows_grow st (e ∷ history) =
    let rest = rows_grow (after st e) history in
    omega (arith, rest, length-append st.rows (new_rows e.line.gave e.line.did e.row))

pub generations_grow : (st : State) (history : List Entry)
    → length st.generations ≤ length (state_from st history).generations
generations_grow st [] = omega arith
generations_grow st (e ∷ history) =
    let rest = generations_grow (after st e) history in
    omega (arith, rest, length-append st.generations (new_generations e.line.gave e.line.did))

below_more : (number : Option ℕ) (a b : ℕ) → a ≤ b → IfSome number (λ n. n < a)
    → IfSome number (λ n. n < b)
below_more None a b l w = tt
below_more (Some n) a b l w = omega arith

reaches_more : (rows next : List LogRow) (generations later : List Generation) (line : Line)
    → length rows ≤ length next → length generations ≤ length later
    → HasWhatItNames rows generations line → HasWhatItNames next later line
reaches_more rows next generations later line l m r = record {
  row = omega (arith, r.row);
  replaced = omega (arith, r.replaced);
  generation = below_more (generation_named_in line) (length generations) (length later) m r.generation;
}

-- all that the lines name is there
abbrev AllReach : List LogRow → List Generation → List Line → Type 0
AllReach rows generations [] = ⊤
AllReach rows generations (line ∷ lines) = HasWhatItNames rows generations line
    × AllReach rows generations lines

all_reach : (o : Opening) (st : State) (rows : List LogRow) (generations : List Generation)
    (lines : List Line) → IsRun o st (map (entry_of rows generations) lines)
    → AllReach (state_from st (map (entry_of rows generations) lines)).rows
    (state_from st (map (entry_of rows generations) lines)).generations lines
all_reach o st rows generations [] r = tt
all_reach o st rows generations (line ∷ lines) r =
    let next = after st (entry_of rows generations line) in
    let rest = map (entry_of rows generations) lines in (
      reaches_more next.rows (state_from next rest).rows next.generations
          (state_from next rest).generations line
          (rows_grow next rest) (generations_grow next rest) r.0.reaches,
      all_reach o next rows generations lines r.1,
    )

-- ---- the entries stay

entry_stays : (rows more : List LogRow) (generations others : List Generation) (line : Line)
    → HasWhatItNames rows generations line
    → entry_of (rows ++ more) (generations ++ others) line ≡ entry_of rows generations line
entry_stays rows more generations others line r =
    let p = published_front generations others (generation_named_in line) r.generation in
    let a = row_stays rows more (revision_in line.gave) r.row in
    let b = row_stays rows more (revision_replaced_in line.did) r.replaced in
    (λ i. record { line = line; published = p i; row = a i; replaced = b i })

pub entries_stay : (rows more : List LogRow) (generations others : List Generation)
    (lines : List Line) → AllReach rows generations lines
    → map (entry_of (rows ++ more) (generations ++ others)) lines
    ≡ map (entry_of rows generations) lines
entries_stay rows more generations others [] r = refl
entries_stay rows more generations others (line ∷ lines) r =
    let head = entry_stays rows more generations others line r.0 in
    let tail = entries_stay rows more generations others lines r.1 in
    (λ i. head i ∷ tail i)

-- ---- one more entry

pub run_more : (o : Opening) (st : State) (history : List Entry) (e : Entry) → IsRun o st history
    → IsStep o (state_from st history) e → IsRun o st (history ++ e ∷ [])
run_more o st [] e r s = (s, tt)
run_more o st (first ∷ history) e r s = (r.0, run_more o (after st first) history e r.1 s)

pub state_more : (st : State) (history : List Entry) (e : Entry)
    → state_from st (history ++ e ∷ []) ≡ after (state_from st history) e
state_more st [] e = refl
state_more st (first ∷ history) e = state_more (after st first) history e

pub torn_more : (torn : Bool) (history : List Entry) (e : Entry)
    → torn_from torn (history ++ e ∷ []) ≡ tears e.line.gave (torn_from torn history)
torn_more torn [] e = refl
torn_more torn (first ∷ history) e = torn_more (tears first.line.gave torn) history e

pub legal_more : (o : Opening) (history : List Entry) (e : Entry) → IsLegal o history
    → IsStep o (state_of o history) e → IsLegal o (history ++ e ∷ [])
legal_more o history e l s = record {
  opens = l.opens;
  fit = l.fit;
  runs = run_more o (start_of o) history e l.runs s;
}

-- what a core's lines name is there
core_reaches : (o : Opening) (st : State) (torn : Bool) (lines : List Line) (spare room : ℕ)
    → IsCore o st torn lines spare room → AllReach st.rows st.generations lines
core_reaches o st torn lines spare room c =
    subst (λ (s : State). AllReach s.rows s.generations lines) (sym c.leads)
    (all_reach o (start_of o) st.rows st.generations lines c.legal.runs)

pub entries_more : (o : Opening) (st next : State) (torn : Bool) (lines : List Line) (line : Line)
    (spare room : ℕ) → IsCore o st torn lines spare room
    → next ≡ after st (entry_of next.rows next.generations line)
    → entries_by next (lines ++ line ∷ []) ≡ entries_by st lines ++ entry_of next.rows
    next.generations line ∷ []
entries_more o st next torn lines line spare room c is =
    let e = entry_of next.rows next.generations line in
    let r : next.rows ≡ st.rows ++ new_rows line.gave line.did e.row =
    ap (λ (s : State). s.rows) is in
    let g : next.generations ≡ st.generations ++ new_generations line.gave line.did =
    ap (λ (s : State). s.generations) is in
    map-append (entry_of next.rows next.generations) lines (line ∷ [])
    ∙ ap (λ es. es ++ e ∷ []) (
    (λ i. map (entry_of (r i) (g i)) lines)
    ∙ entries_stay st.rows (new_rows line.gave line.did e.row) st.generations
    (new_generations line.gave line.did) lines (core_reaches o st torn lines spare room c)
    )

pub core_more : (o : Opening) (st next : State) (torn tail : Bool) (lines : List Line)
    (line : Line) (spare left room : ℕ) → IsCore o st torn lines spare room
    → next ≡ after st (entry_of next.rows next.generations line)
    → IsStep o st (entry_of next.rows next.generations line)
    → KeepsBudgets o (entries_by st lines ++ entry_of next.rows next.generations line ∷ [])
    → tail ≡ tears line.gave torn
    → left + 1 ≡ spare → IsCore o next tail (lines ++ line ∷ []) left room
core_more o st next torn tail lines line spare left room c is step budgets tail_is l =
    let e = entry_of next.rows next.generations line in
    let h = entries_by st lines in
    let same = entries_more o st next torn lines line spare room c is in
    let here : IsStep o (state_of o h) e = subst (λ (s : State). IsStep o s e) c.leads step in
    record {
      legal = subst (IsLegal o) (sym same) (legal_more o h e c.legal here);
      leads = is ∙ ap (λ (s : State). after s e) c.leads ∙ sym (state_more (start_of o) h e)
          ∙ ap (state_of o) (sym same);
      ends = tail_is ∙ ap (tears line.gave) c.ends ∙ sym (torn_more o.torn h e)
          ∙ ap (ends_torn o) (sym same);
      budgets = subst (KeepsBudgets o) (sym same) budgets;
      room_in = omega (arith, c.room_in, length-append lines (line ∷ []));
    }

-- ---- a front

run_front : (o : Opening) (st : State) (front more : List Entry) → IsRun o st (front ++ more)
    → IsRun o st front
run_front o st [] more r = tt
run_front o st (e ∷ front) more r = (r.0, run_front o (after st e) front more r.1)

pub front_law : FrontIsLegal
front_law o front more l = record {
  opens = l.opens;
  fit = l.fit;
  runs = run_front o (start_of o) front more l.runs;
}

-- ---- the core

module _ (old : CoreState) (before now : RolloutState) (lines more : List Line) (line : Line)
    (spare left room seat : ℕ) (event : Event) (answer : Answer)
    (view : record {
      opening = before.opening;
      history = entries_by before.state lines;
      room = room;
    } ≡ old)
    (core : IsCore before.opening before.state before.torn lines spare room)
    (serves : Serves before seat event answer line now)
    (pushed : more ≡ lines ++ line ∷ []) where
  pub core_after : MayAsk before.opening seat
      (of_seat seat_of seat (entries_by before.state lines)) event
      → left + 1 ≡ spare → IsCore now.opening now.state now.torn more left room
  core_after may l =
      subst (λ ls. IsCore now.opening now.state now.torn ls left room) (sym pushed)
      (subst (λ o. IsCore o now.state now.torn (lines ++ line ∷ []) left room) (sym serves.opening)
      (core_more before.opening before.state now.state before.torn now.torn lines line spare left room
      core serves.state serves.step
      (budgets_more before.opening (entries_by before.state lines)
      (entry_of now.state.rows now.state.generations line) seat event core.budgets may
      serves.records.seat_is serves.records.did_is) serves.torn l))

  pub applied : Applies old seat event answer
      (record { opening = now.opening; history = entries_by now.state more; room = room })
  applied =
      subst (λ (c : CoreState). Applies c seat event answer
      (record { opening = now.opening; history = entries_by now.state more; room = room })) view
      (record {
        entry = entry_of now.state.rows now.state.generations line;
        new_is = (let h = ap (entries_by now.state) pushed
            ∙ entries_more before.opening before.state now.state before.torn lines line spare room core
            serves.state in
            (λ i. record { opening = serves.opening i; history = h i; room = room }));
        step = subst (λ (s : State). IsStep before.opening s
            (entry_of now.state.rows now.state.generations line)) core.leads serves.step;
        records = serves.records;
      })

-- the lines of entries
pub lines_are : (rows : List LogRow) (generations : List Generation) (lines : List Line)
    → map (λ (e : Entry). e.line) (map (entry_of rows generations) lines) ≡ lines
lines_are rows generations [] = refl
lines_are rows generations (line ∷ lines) = ap (λ l. line ∷ l) (lines_are rows generations lines)
