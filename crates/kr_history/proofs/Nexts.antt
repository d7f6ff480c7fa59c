-- What is known of a caller behind one more event of its own.
use Rattle.std.proofs.Common.{◌≡◌, ℕ, ◌≤◌, ◌==◌, List, [], ◌∷◌, ◌++◌, length, cond, Some, sym, ap, subst, ◌∙◌, append-nil}
use Rattle.std.specs.Prelude.{Contains}
use Rattle.std.proofs.lemmas.Bool.{eq-eqb}
use Rattle.std.proofs.lemmas.List.Elements.{filter-append, All-contains}
use Rattle.std.proofs.lemmas.Option.{same_Some}
use Rattle.kr_base.specs.Limits.{value_limit}
use Rattle.kr_base.specs.Lines.{of_seat}
use Rattle.kr_config.specs.Kept.{ConfigEntry as settings_row, plugins_in}
use Rattle.kr_provider.specs.Names.{HasLinks}
use Rattle.kr_provider.specs.Publication.{Publication}
use Rattle.kr_store.specs.declared.rows.Row.{Row}
use Rattle.kr_store.specs.Rows.{live}
use Rattle.kr_rollout.specs.declared.answer.Answer.{Answer}
use Rattle.kr_rollout.specs.declared.answer.Answer.TheVariants as answer
use Rattle.kr_rollout.specs.declared.event.Event.{Event}
use Rattle.kr_rollout.specs.declared.event.Event.TheVariants as event
use Rattle.kr_rollout.specs.declared.line.Did.TheVariants as did
use Rattle.kr_rollout.specs.declared.opening.Entry.{Entry}
use Rattle.kr_rollout.specs.declared.opening.Opening.{Opening}
use Rattle.kr_history.specs.Acting.{Caller, AddsEntry, IsCaller}
use Rattle.kr_history.specs.ContentLaws.{IsRowFor}
use Rattle.kr_rollout.specs.Entries.{seat_of}
use Rattle.kr_rollout.specs.Histories.{IsLegal, state_of}
use Rattle.kr_rollout.specs.Openings.{IsAdmitted, NamesAmong}
use Rattle.kr_rollout.proofs.Appending.{legal_more}
use Rattle.kr_history.proofs.Following.{adopted_law}
use Rattle.kr_history.proofs.FoundRows.{found_is_live}
use Rattle.kr_history.proofs.FoundRules.{handed_out_keeps_rules}
use Rattle.kr_history.proofs.HeldFacts.{held_is_admitted}
use Rattle.kr_history.specs.Calls.{AreServed}

module _ (old new : Caller) (asked : Event) (given : Answer)
    (a : AddsEntry old asked given new) where
  -- what was seen when the event was made
  abbrev pub front : List Entry
  front = old.seen ++ a.others

  pub opening_is : new.opening ≡ old.opening
  opening_is = ap (λ (c : Caller). c.opening) a.new_is

  pub seat_is : new.seat ≡ old.seat
  seat_is = ap (λ (c : Caller). c.seat) a.new_is

  pub seen_is : new.seen ≡ front ++ a.entry ∷ []
  seen_is = ap (λ (c : Caller). c.seen) a.new_is

  pub legal_now : IsLegal old.opening (front ++ a.entry ∷ [])
  legal_now = legal_more old.opening front a.entry a.legal a.step

  -- others' entries aren't the seat's
  pub front_own : IsCaller old → of_seat seat_of old.seat front ≡ old.mine
  front_own k =
      filter-append (λ (x : Entry). seat_of x == old.seat) old.seen a.others
      ∙ ap (λ more. of_seat seat_of old.seat old.seen ++ more) a.apart
      ∙ append-nil (of_seat seat_of old.seat old.seen) ∙ k.own

  own_entry : of_seat seat_of old.seat (a.entry ∷ []) ≡ a.entry ∷ []
  own_entry = ap (λ b. cond b (a.entry ∷ []) [])
      (eq-eqb a.entry.line.seat old.seat a.records.seat_is)

  pub caller_next : IsCaller old → IsCaller new
  caller_next k = subst (λ (c : Caller). IsCaller c) (sym a.new_is) (record {
    legal = legal_now;
    own = filter-append (λ (x : Entry). seat_of x == old.seat) front (a.entry ∷ [])
        ∙ (λ i. front_own k i ++ own_entry i);
    seat_in = k.seat_in;
  })

-- ---- what was adopted

pub adopted_admitted : (old new : Caller) (replica number : ℕ) (p : Publication) → IsCaller old
    → AddsEntry old (event.Adopt replica) (answer.Adopted number p) new
    → IsAdmitted old.opening.names p
adopted_admitted old new replica number p k a =
    let asked = event.Adopt replica in
    let given = answer.Adopted number p in
    let next = caller_next old new asked given a k in
    subst (λ (o : Opening). IsAdmitted o.names p) (opening_is old new asked given a)
    (held_is_admitted new number p next (adopted_law old new replica number p a))

-- the bench's links serve what was adopted
pub serves : (names linked : List (List ℕ)) (rows : List settings_row)
    → AreServed names linked → NamesAmong names rows → HasLinks linked rows
serves names linked rows served among name there =
    All-contains (λ n. Contains linked n) names name served
    (All-contains (λ n. Contains names n) (plugins_in rows) name among there)

-- ---- what was found

pub record IsFoundRow (old : Caller) (path : List ℕ) (row : Row) (front : List Entry) : Type 0 where
  pub live_is : live (state_of old.opening front).rows path ≡ Some row
  pub path_is : row.path ≡ path
  pub short : length row.stored ≤ value_limit

pub found_row : (old new : Caller) (path : List ℕ) (row : Row) → IsCaller old
    → (a : AddsEntry old (event.Fetch path) (answer.Found row) new)
    → IsFoundRow old path row (old.seen ++ a.others)
found_row old new path row k a =
    let asked = event.Fetch path in
    let given = answer.Found row in
    let h = old.seen ++ a.others in
    let st = state_of old.opening h in
    let f = found_is_live old.opening h a.entry row.revision
    (legal_now old new asked given a) a.records.gave_is in
    let same = same_Some f.0 row (sym f.1 ∙ a.records.shows) in
    let fits = subst (λ (r : Row). IsRowFor (did.Fetch path) st.rows r) same
    (subst (λ d. IsRowFor d st.rows f.0) a.records.did_is f.2) in
    record {
      live_is = fits.0;
      path_is = fits.1;
      short = (handed_out_keeps_rules old new asked row k a).1.1;
    }
