-- A caller that is alone in a core of one replica and one seat: what its events add to what it
use Rattle.std.proofs.Common.{◌≡◌, ℕ, ◌<◌, ◌≤◌, List, [], ◌∷◌, ◌++◌, length, cond, Option, None, Some, refl, sym, ◌∙◌, ap, subst, append-nil, arith}
use Rattle.std.specs.Option.{option_map}
use Rattle.std.specs.Prelude.{slice_get, get_or, ⊤}
use Rattle.std.proofs.lemmas.Bool.{eq-eqb}
use Rattle.std.proofs.lemmas.Option.{same_Some, slice_get_within, get_or_from_slice_get}
use Rattle.kr_base.specs.Faults.{Rose}
use Rattle.kr_base.specs.Lines.{of_seat}
use Rattle.kr_provider.specs.Publication.{Publication, list_at}
use Rattle.kr_provider.specs.Reading.{HasSomeReading, data_of}
use Rattle.kr_provider.specs.Sealing.{IsSealing}
use Rattle.kr_store.specs.declared.format.Format.{Format}
use Rattle.kr_store.specs.declared.rows.LogRow.{LogRow}
use Rattle.kr_store.specs.declared.rows.Row.{Row}
use Rattle.kr_store.specs.Rows.{live, put_of, row_of}
use Rattle.kr_store.specs.Stores.{IsNext}
use Rattle.kr_rollout.specs.declared.answer.Answer.{Answer}
use Rattle.kr_rollout.specs.declared.answer.Answer.TheVariants as answer
use Rattle.kr_rollout.specs.declared.event.Event.{Event}
use Rattle.kr_rollout.specs.declared.event.Event.TheVariants as event
use Rattle.kr_opening.specs.declared.generation.Generation.{Generation}
use Rattle.kr_rollout.specs.declared.line.Did.{Did}
use Rattle.kr_rollout.specs.declared.line.Did.TheVariants as did
use Rattle.kr_rollout.specs.declared.line.Gave.{Gave}
use Rattle.kr_rollout.specs.declared.line.Gave.TheVariants as gave
use Rattle.kr_rollout.specs.declared.opening.Entry.{Entry}
use Rattle.kr_rollout.specs.declared.opening.Opening.{Opening}
use Rattle.kr_history.specs.Acting.{Caller, IsCaller, AddsEntry}
use Rattle.kr_rollout.specs.Answers.{IsAnswer}
use Rattle.kr_rollout.specs.Callers.{did_of, gave_of, holding}
use Rattle.kr_history.specs.CallLaws.{NamesHeld}
use Rattle.kr_opening.specs.Checks.{written_check}
use Rattle.kr_history.specs.ContentLaws.{IsRowFor}
use Rattle.kr_rollout.specs.Entries.{generation_named_by, published_at, seat_of}
use Rattle.kr_rollout.specs.Histories.{IsLegal, IsRun, state_from, state_of}
use Rattle.kr_rollout.specs.Openings.{start_of}
use Rattle.kr_history.specs.SizeLaws.{TellsSize}
use Rattle.kr_rollout.specs.States.{State}
use Rattle.kr_rollout.specs.Steps.{HidesNoFault, IsStep, after, current_after, new_generation, new_generations, new_rows, put_row, with_current}
use Rattle.kr_rollout.specs.Writes.{IsSealedAnew, WouldWrite, Writes, file_size}
use Rattle.kr_rollout.proofs.Appending.{state_more}
use Rattle.kr_history.proofs.FoundRows.{found_is_live}
use Rattle.kr_history.proofs.FullExact.{full_is_exact}
use Rattle.kr_history.proofs.HeldFacts.{held_is_named}
use Rattle.kr_history.proofs.Nexts.{caller_next, legal_now, opening_is, seat_is, seen_is}
use Rattle.kr_cmd_steps.specs.RewriteSteps.{row_anew}

-- sees.

-- the one generation
abbrev pub generation : Publication → Generation
generation p = record { replica = 0; published = p }

-- a caller that is alone, at the opening or further on
pub record IsLone (o : Opening) (p : Publication) (c : Caller) : Type 0 where
  pub opening : c.opening ≡ o
  pub seat : c.seat ≡ 0
  pub caller : IsCaller c
  pub generations : (state_of o c.seen).generations ≡ generation p ∷ []
  pub current : (state_of o c.seen).current ≡ Some 0 ∷ []

-- ---- no other has entries

run_tail : (o : Opening) (st : State) (seen others : List Entry) → IsRun o st (seen ++ others)
    → IsRun o (state_from st seen) others
run_tail o st [] others r = r
run_tail o st (e ∷ seen) others r = run_tail o (after st e) seen others r.1

none_apart : (o : Opening) (st : State) (others : List Entry) → o.reloads ≡ 0 ∷ []
    → IsRun o st others → of_seat seat_of 0 others ≡ [] → others ≡ []
none_apart o st [] one r own = refl
none_apart o st (x ∷ more) one r own =
    let within : x.line.seat < 1 = subst (λ l. x.line.seat < length l) one r.0.seat in
    let is : of_seat seat_of 0 (x ∷ more) ≡ x ∷ of_seat seat_of 0 more =
    ap (λ b. cond b (x ∷ of_seat seat_of 0 more) (of_seat seat_of 0 more))
    (eq-eqb x.line.seat 0 (omega (arith, within))) in
    absurd (let clash : x ∷ of_seat seat_of 0 more ≡ [] = sym is ∙ own in cc)

-- ---- one more event

-- what is known of its entry
pub record Entered (o : Opening) (old new : Caller) (asked : Event) (given : Answer) (e : Entry)
    : Type 0 where
  pub did_is : e.line.did ≡ did_of asked
  pub gave_is : e.line.gave ≡ gave_of given
  pub seen : new.seen ≡ old.seen ++ e ∷ []
  pub state : state_of o new.seen ≡ after (state_of o old.seen) e
  pub step : IsStep o (state_of o old.seen) e
  pub legal : IsLegal o (old.seen ++ e ∷ [])

-- an event that brings no configuration and takes no replica out
abbrev pub IsQuiet : Did → Type 0
IsQuiet (did.Adopt replica) = ⊤
IsQuiet (did.After path) = ⊤
IsQuiet (did.Replace path revision) = ⊤
IsQuiet did.LetGo = ⊤
IsQuiet asked = ⊥

quiet_generation : (asked : Did) → IsQuiet asked → new_generation asked ≡ []
quiet_generation (did.Adopt replica) q = refl
quiet_generation (did.After path) q = refl
quiet_generation (did.Replace path revision) q = refl
quiet_generation did.LetGo q = refl
quiet_generation other q = absurd q

quiet_current : (asked : Did) (number : Option ℕ) (current : List (Option ℕ)) → IsQuiet asked
    → with_current asked number current ≡ current
quiet_current (did.Adopt replica) number current q = refl
quiet_current (did.After path) number current q = refl
quiet_current (did.Replace path revision) number current q = refl
quiet_current did.LetGo number current q = refl
quiet_current other number current q = absurd q

no_generation : (given : Gave) (asked : Did) → IsQuiet asked → new_generations given asked ≡ []
no_generation (gave.Reloaded number) asked q = quiet_generation asked q
no_generation (gave.Joined number) asked q = quiet_generation asked q
no_generation other asked q = refl

same_current : (given : Gave) (asked : Did) (current : List (Option ℕ)) → IsQuiet asked
    → current_after given asked current ≡ current
same_current (gave.Reloaded number) asked current q = quiet_current asked (Some number) current q
same_current (gave.Joined number) asked current q = quiet_current asked (Some number) current q
same_current (gave.Departed number) asked current q = quiet_current asked None current q
same_current other asked current q = refl

module _ (o : Opening) (p : Publication) (one : o.reloads ≡ 0 ∷ []) (old new : Caller)
    (asked : Event) (given : Answer) (lone : IsLone o p old)
    (a : AddsEntry old asked given new) where
  no_others : a.others ≡ []
  no_others = none_apart o (state_from (start_of o) old.seen) a.others one
      (run_tail o (start_of o) old.seen a.others
      (subst (λ (x : Opening). IsRun x (start_of x) (old.seen ++ a.others)) lone.opening
      a.legal.runs))
      (subst (λ s. of_seat seat_of s a.others ≡ []) lone.seat a.apart)

  front_is : old.seen ++ a.others ≡ old.seen
  front_is = ap (λ l. old.seen ++ l) no_others ∙ append-nil old.seen

  now_seen : new.seen ≡ old.seen ++ a.entry ∷ []
  now_seen = seen_is old new asked given a ∙ ap (λ l. l ++ a.entry ∷ []) front_is

  pub entered : Entered o old new asked given a.entry
  entered = record {
    did_is = a.records.did_is;
    gave_is = a.records.gave_is;
    seen = now_seen;
    state = ap (state_of o) now_seen ∙ state_more (start_of o) old.seen a.entry;
    step = subst (λ h. IsStep o (state_of o h) a.entry) front_is
        (subst (λ (x : Opening). IsStep x (state_of x (old.seen ++ a.others)) a.entry) lone.opening
        a.step);
    legal = subst (λ h. IsLegal o (h ++ a.entry ∷ [])) front_is
        (subst (λ (x : Opening). IsLegal x ((old.seen ++ a.others) ++ a.entry ∷ [])) lone.opening
        (legal_now old new asked given a));
  }

  pub lone_next : IsQuiet (did_of asked) → IsLone o p new
  lone_next quiet =
      let e = a.entry in
      let q = subst IsQuiet (sym a.records.did_is) quiet in
      let st = state_of o old.seen in record {
        opening = opening_is old new asked given a ∙ lone.opening;
        seat = seat_is old new asked given a ∙ lone.seat;
        caller = caller_next old new asked given a lone.caller;
        generations = ap (λ (s : State). s.generations) entered.state
            ∙ ap (λ l. st.generations ++ l) (no_generation e.line.gave e.line.did q)
            ∙ append-nil st.generations ∙ lone.generations;
        current = ap (λ (s : State). s.current) entered.state
            ∙ same_current e.line.gave e.line.did st.current q ∙ lone.current;
      }

  -- the rows after it
  pub rows_next : (state_of o new.seen).rows
      ≡ (state_of o old.seen).rows ++ new_rows a.entry.line.gave a.entry.line.did a.entry.row
  rows_next = ap (λ (s : State). s.rows) entered.state

  -- where nothing was written they are the same
  pub rows_stay : new_rows a.entry.line.gave a.entry.line.did a.entry.row ≡ []
      → (state_of o new.seen).rows ≡ (state_of o old.seen).rows
  rows_stay none = rows_next ∙ ap (λ l. (state_of o old.seen).rows ++ l) none
      ∙ append-nil (state_of o old.seen).rows

  pub count_next : (state_of o new.seen).count ≡ a.entry.line.faults
  count_next = ap (λ (s : State). s.count) entered.state

  pub count_later : (state_of o old.seen).count ≤ (state_of o new.seen).count
  count_later = omega (arith, entered.step.counted, count_next)

  -- the count rises only where the store is said to have failed
  pub faults_next : HidesNoFault (gave_of given) (state_of o old.seen).count
      (state_of o new.seen).count
  faults_next = subst (λ n. HidesNoFault (gave_of given) (state_of o old.seen).count n)
      (sym count_next)
      (subst (λ g. HidesNoFault g (state_of o old.seen).count a.entry.line.faults) entered.gave_is
      entered.step.faults)

-- ---- what is adopted is the one configuration

one_published : (p q : Publication) (number : ℕ)
    → published_at (generation p ∷ []) (Some number) ≡ Some q → p ≡ q
one_published p q number is = by (slice_get (generation p ∷ []) number) refl is
  where
    by : (found : Option Generation) → slice_get (generation p ∷ []) number ≡ found
        → option_map (λ (g : Generation). g.published) found ≡ Some q → p ≡ q
    by None none is = absurd (cc)
    by (Some g) there is =
        let within = slice_get_within (generation p ∷ []) number g there in
        let zero_is : number ≡ 0 = omega (arith, within) in
        let same : get_or (generation p ∷ []) number g ≡ g =
        get_or_from_slice_get (generation p ∷ []) number g g there in
        let first : generation p ≡ g =
        sym (ap (λ n. get_or (generation p ∷ []) n g) zero_is) ∙ same in
        ap (λ (x : Generation). x.published) first ∙ same_Some g.published q is

module _ (o : Opening) (p : Publication) (one : o.reloads ≡ 0 ∷ []) (old new : Caller)
    (lone : IsLone o p old) where
  pub adopts_it : (number : ℕ) (q : Publication)
      → AddsEntry old (event.Adopt 0) (answer.Adopted number q) new → p ≡ q
  adopts_it number q a =
      let asked = event.Adopt 0 in
      let given = answer.Adopted number q in
      let e = a.entry in
      let st = state_of o old.seen in
      let s = entered o p one old new asked given lone a in
      let next = lone_next o p one old new asked given lone a tt in
      let answered : IsAnswer (did.Adopt 0) (gave.Adopted number) st e.line.held =
      subst (λ d. IsAnswer d (gave.Adopted number) st e.line.held) s.did_is
      (subst (λ g. IsAnswer e.line.did g st e.line.held) s.gave_is s.step.answer) in
      let named : generation_named_by e.line.held e.line.gave ≡ Some number =
      (λ i. generation_named_by (answered.0 i) (s.gave_is i)) in
      let generations : (after st e).generations ≡ generation p ∷ [] =
      sym (ap (λ (x : State). x.generations) s.state) ∙ next.generations in
      let published : e.published ≡ published_at (generation p ∷ []) (Some number) =
      ap (λ (x : Entry). x.published) s.step.payload
      ∙ (λ i. published_at (generations i) (named i)) in
      one_published p q number (sym published ∙ a.records.shows)

  -- the replica isn't gone
  pub not_gone : AddsEntry old (event.Adopt 0) (answer.Gone 0) new → ⊥
  not_gone a =
      let asked = event.Adopt 0 in
      let given = answer.Gone 0 in
      let e = a.entry in
      let st = state_of o old.seen in
      let s = entered o p one old new asked given lone a in
      let answered : IsAnswer (did.Adopt 0) (gave.Gone 0) st e.line.held =
      subst (λ d. IsAnswer d (gave.Gone 0) st e.line.held) s.did_is
      (subst (λ g. IsAnswer e.line.did g st e.line.held) s.gave_is s.step.answer) in
      let clash : ◌≡◌ {A = Option ℕ} (Some 0) None =
      subst (λ (c : List (Option ℕ)). get_or c 0 None ≡ None) lone.current answered.2 in
      absurd cc

  -- ---- the next row

  pub finds_next : (above : List ℕ) (row : Row)
      → AddsEntry old (event.After above) (answer.Found row) new
      → IsNext (state_of o old.seen).rows above (Some row)
  finds_next above row a =
      let asked = event.After above in
      let given = answer.Found row in
      let s = entered o p one old new asked given lone a in
      let f = found_is_live o old.seen a.entry row.revision s.legal s.gave_is in
      subst (λ (r : Row). IsRowFor (did.After above) (state_of o old.seen).rows r)
      (same_Some f.0 row (sym f.1 ∙ a.records.shows))
      (subst (λ d. IsRowFor d (state_of o old.seen).rows f.0) s.did_is f.2)

  pub finds_none : (above : List ℕ)
      → AddsEntry old (event.After above) answer.Absent new
      → IsNext (state_of o old.seen).rows above None
  finds_none above a =
      let asked = event.After above in
      let e = a.entry in
      let st = state_of o old.seen in
      let s = entered o p one old new asked answer.Absent lone a in
      let answered : IsAnswer (did.After above) gave.Absent st e.line.held =
      subst (λ d. IsAnswer d gave.Absent st e.line.held) s.did_is
      (subst (λ g. IsAnswer e.line.did g st e.line.held) s.gave_is s.step.answer) in answered.1

-- ---- a row in another's place

written_is : (format : Format) (p q : Publication) (row own : Row) (stored value : List ℕ) (n : ℕ)
    (found : Option Row) (line : LogRow) → q ≡ p → own ≡ row
    → line ≡ put_of row.path own.resource value (written_check format q own.resource)
    → found ≡ row_of n line.path line.change
    → option_map (λ (r : Row). r.stored) found ≡ Some stored
    → put_row found ≡ row_anew format p row stored ∷ []
written_is format p q row own stored value n found line same it is found_is stores =
    let new : Row = record {
      path = row.path;
      resource = own.resource;
      revision = n;
      stored = value;
      check = written_check format q own.resource;
    } in
    let e : found ≡ Some new = found_is ∙ ap (λ (l : LogRow). row_of n l.path l.change) is in
    let value_is : value ≡ stored =
    same_Some value stored (sym (ap (option_map (λ (r : Row). r.stored)) e) ∙ stores) in
    ap put_row e
    ∙ (λ i. put_of row.path (it i).resource (value_is i)
    (written_check format (same i) (it i).resource) ∷ [])

module _ (o : Opening) (p : Publication) (one : o.reloads ≡ 0 ∷ []) (old new : Caller) (row : Row)
    (plain stored : List ℕ) (number : ℕ) (lone : IsLone o p old)
    (holds : holding old.mine ≡ Some (number, p))
    (is_live : live (state_of o old.seen).rows row.path ≡ Some row)
    (reads : HasSomeReading (list_at p row.resource) row.path row.stored (data_of plain))
    (sealing : IsSealing p row.resource row.path plain stored) where
  abbrev Asked : Event
  Asked = event.Replace row.path row.revision stored

  abbrev Rows : List LogRow
  Rows = (state_of o old.seen).rows

  abbrev New : LogRow
  New = row_anew o.format p row stored

  module _ (given : Answer) (a : AddsEntry old Asked given new) where
    names : NamesHeld (state_of old.opening (old.seen ++ a.others)) number p a.entry
    names = held_is_named old new Asked given number p lone.caller a holds

    -- how large the file is with it, the answer tells
    pub tells : TellsSize (gave_of given) o.limit (file_size o.format Rows New)
    tells =
        let s = entered o p one old new Asked given lone a in
        let anew : IsSealedAnew o.format p row.path row New = record {
          plain = plain;
          reads = reads;
          sealed = record { stored = stored; sealing = sealing; row_is = refl };
        } in
        subst (λ g. TellsSize g o.limit (file_size o.format Rows New)) s.gave_is
        (full_is_exact o old.seen a.entry New s.legal
        (subst (λ d. WouldWrite o.format d Rows a.entry.published New) (sym s.did_is)
        (p, row, names.published, is_live, refl, anew)))

  -- it was written
  pub replaces : (n : ℕ) → (a : AddsEntry old Asked (answer.Written n) new)
      → (state_of o new.seen).rows ≡ Rows ++ New ∷ []
  replaces n a =
      let given = answer.Written n in
      let e = a.entry in
      let s = entered o p one old new Asked given lone a in
      let w : Writes (gave.Written n) o (state_of o old.seen) e =
      subst (λ g. Writes g o (state_of o old.seen) e) s.gave_is s.step.writes in
      let would : WouldWrite o.format (did.Replace row.path row.revision) Rows e.published w.0 =
      subst (λ d. WouldWrite o.format d Rows e.published w.0) s.did_is w.1 in
      let q = would.0 in
      let own = would.1 in
      let same : q ≡ p = same_Some q p (sym would.2 ∙ (names given a).published) in
      let it : own ≡ row = same_Some own row (sym would.3 ∙ is_live) in
      let put_is : put_row e.row ≡ New ∷ [] =
      written_is o.format p q row own stored would.5.sealed.stored n e.row w.0 same it
      would.5.sealed.row_is w.3 a.records.stores in
      rows_next o p one old new Asked given lone a
      ∙ ap (λ l. Rows ++ l) ((λ i. new_rows (s.gave_is i) (s.did_is i) e.row) ∙ put_is)

  -- the tape failed
  pub replace_failed : AddsEntry old Asked answer.StoreFailed new
      → Rose (state_of o old.seen).count (state_of o new.seen).count
  replace_failed a =
      let e = a.entry in
      let s = entered o p one old new Asked answer.StoreFailed lone a in
      let w : Writes gave.StoreFailed o (state_of o old.seen) e =
      subst (λ g. Writes g o (state_of o old.seen) e) s.gave_is s.step.writes in
      subst (λ n. Rose (state_of o old.seen).count n)
      (sym (count_next o p one old new Asked answer.StoreFailed lone a)) w.3

  -- the row hasn't changed
  pub not_changed : (last : ℕ) → AddsEntry old Asked (answer.Changed last) new → ⊥
  not_changed last a =
      let e = a.entry in
      let st = state_of o old.seen in
      let s = entered o p one old new Asked (answer.Changed last) lone a in
      let answered : IsAnswer (did.Replace row.path row.revision) (gave.Changed last) st
      e.line.held = subst (λ d. IsAnswer d (gave.Changed last) st e.line.held) s.did_is
      (subst (λ g. IsAnswer e.line.did g st e.line.held) s.gave_is s.step.answer) in
      answered.1 (row, record { is = is_live; revision_is = refl })
