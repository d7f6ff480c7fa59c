-- What a seat holds keeps its rules, is live, and is named by each entry of the seat.
use Rattle.std.proofs.Common.{◌≡◌, ℕ, zero, suc, ◌<◌, ◌+◌, ◌==◌, List, [], ◌∷◌, ◌++◌, length, Option, None, Some, IfSome, refl, sym, ap, subst, ◌∙◌, arith, inr, append-nil}
use Rattle.std.specs.Prelude.{All}
use Rattle.std.specs.List.{slice_get}
use Rattle.std.specs.Option.{option_map}
use Rattle.std.proofs.lemmas.List.Elements.{All-nil, All-cons, All-append, filter-append}
use Rattle.std.proofs.lemmas.Option.{none-some, same_Some, slice_get_within}
use Rattle.kr_base.specs.Lines.{of_seat}
use Rattle.kr_store.specs.declared.rows.Row.{Row}
use Rattle.kr_store.specs.Rows.{put_at}
use Rattle.kr_store.proofs.Places.{row_stays}
use Rattle.kr_provider.specs.Publication.{Publication}
use Rattle.kr_rollout.specs.declared.answer.Answer.{Answer}
use Rattle.kr_rollout.specs.declared.event.Event.{Event}
use Rattle.kr_rollout.specs.declared.event.Event.TheVariants as event
use Rattle.kr_opening.specs.declared.generation.Generation.{Generation}
use Rattle.kr_rollout.specs.declared.line.Did.{Did}
use Rattle.kr_rollout.specs.declared.line.Did.TheVariants as did
use Rattle.kr_rollout.specs.declared.line.Gave.{Gave}
use Rattle.kr_rollout.specs.declared.line.Gave.TheVariants.{Reloaded, Joined}
use Rattle.kr_rollout.specs.declared.opening.Entry.{Entry}
use Rattle.kr_rollout.specs.declared.opening.Opening.{Opening}
use Rattle.kr_rollout.specs.Entries.{published_at, generation_named_by, revision_replaced_in, seat_of}
use Rattle.kr_rollout.specs.States.{State, held_by}
use Rattle.kr_rollout.specs.Openings.{IsAdmitted, start_of}
use Rattle.kr_opening.specs.Replicas.{generations_from}
use Rattle.kr_rollout.specs.Steps.{KeepsRules, after, new_generation, new_generations, new_rows}
use Rattle.kr_rollout.specs.Histories.{IsLegal, IsRun, state_from, state_of}
use Rattle.kr_rollout.specs.Callers.{holding, found_in}
use Rattle.kr_history.specs.Acting.{Caller, IsCaller, AddsEntry}
use Rattle.kr_history.specs.Honesty.{SeedsOpen}
use Rattle.kr_history.specs.CallLaws.{HeldIsAdmitted, HeldOpens, NamesHeld, HeldIsNamed, FoundIsNamed}
use Rattle.kr_rollout.proofs.Revisions.{published_front}
use Rattle.kr_rollout.proofs.Findings.{IsIn, found_there}
use Rattle.kr_rollout.proofs.Holdings.{holding_of, pair_parts}
use Rattle.kr_history.proofs.Sound.{contains_at}
use Rattle.kr_history.proofs.HonestPaths.{history_opened}

-- ---- each generation is admitted

abbrev pub IsAdmittedIn : List (List ℕ) → Generation → Type 0
IsAdmittedIn names g = IsAdmitted names g.published

from_admitted : (names : List (List ℕ)) (k : ℕ) (rs : List (Option Publication))
    → All (λ replica. IfSome replica (IsAdmitted names)) rs
    → All (IsAdmittedIn names) (generations_from k rs)
from_admitted names k [] a = All-nil (IsAdmittedIn names)
from_admitted names k (None ∷ rs) a =
    from_admitted names (k + 1) rs (λ i d l. a (suc i) d (omega arith))
from_admitted names k (Some p ∷ rs) a =
    All-cons (IsAdmittedIn names) (record { replica = k; published = p })
    (generations_from (k + 1) rs) (a 0 None (omega arith))
    (from_admitted names (k + 1) rs (λ i d l. a (suc i) d (omega arith)))

module _ (o : Opening) where
  none_new : All (IsAdmittedIn o.names) []
  none_new = All-nil (IsAdmittedIn o.names)

  one_new : (replica : ℕ) (p : Publication) → IsAdmitted o.names p
      → All (IsAdmittedIn o.names) (record { replica = replica; published = p } ∷ [])
  one_new replica p a = All-cons (IsAdmittedIn o.names)
      (record { replica = replica; published = p }) [] a none_new

  brought_admitted : (done : Did) → KeepsRules done o
      → All (IsAdmittedIn o.names) (new_generation done)
  brought_admitted (did.Reload replica p expect) k = one_new replica p k.1
  brought_admitted (did.Join replica p) k = one_new replica p k.1
  brought_admitted other k = none_new

  new_admitted : (gave : Gave) (done : Did) → KeepsRules done o
      → All (IsAdmittedIn o.names) (new_generations gave done)
  new_admitted (Reloaded n) done k = brought_admitted done k
  new_admitted (Joined n) done k = brought_admitted done k
  new_admitted other done k = none_new

  pub admitted_after : (st : State) (e : Entry) → KeepsRules e.line.did o
      → All (IsAdmittedIn o.names) st.generations
      → All (IsAdmittedIn o.names) (after st e).generations
  admitted_after st e k a = All-append (IsAdmittedIn o.names) st.generations
      (new_generations e.line.gave e.line.did) a (new_admitted e.line.gave e.line.did k)

  admitted_run : (st : State) (history : List Entry)
      → All (IsAdmittedIn o.names) st.generations → IsRun o st history
      → All (IsAdmittedIn o.names) (state_from st history).generations
  admitted_run st [] a r = a
  admitted_run st (e ∷ history) a r =
      admitted_run (after st e) history (admitted_after st e r.0.rules a) r.1

  pub start_admitted : All (λ replica. IfSome replica (IsAdmitted o.names)) o.replicas
      → All (IsAdmittedIn o.names) (start_of o).generations
  start_admitted a = from_admitted o.names 0 o.replicas a

  pub all_admitted : (history : List Entry) → IsLegal o history
      → All (IsAdmittedIn o.names) (state_of o history).generations
  all_admitted history l =
      admitted_run (start_of o) history (start_admitted l.opens.admitted) l.runs

-- ---- the configuration of a generation

pub record IsOf (generations : List Generation) (number : ℕ) (p : Publication) : Type 0 where
  pub g : Generation
  pub there : slice_get generations number ≡ Some g
  pub is : g.published ≡ p

pub of_number : (generations : List Generation) (number : ℕ) (p : Publication)
    → published_at generations (Some number) ≡ Some p → IsOf generations number p
of_number generations number p e = by (slice_get generations number) refl e
  where
    by : (x : Option Generation) → slice_get generations number ≡ x
        → option_map (λ (g : Generation). g.published) x ≡ Some p → IsOf generations number p
    by None is e = absurd (none-some p e)
    by (Some g) is e = record { g = g; there = is; is = same_Some g.published p e }

pub there_holds : {X : Type 0} (P : X → Type 0) (xs : List X) (m : ℕ) (x : X)
    → All P xs → slice_get xs m ≡ Some x → P x
there_holds P [] m x a e = absurd (none-some x e)
there_holds P (y ∷ ys) zero x a e = subst P (same_Some y x e) (a 0 y (omega arith))
there_holds P (y ∷ ys) (suc m) x a e =
    there_holds P ys m x (λ i d l. a (suc i) d (omega arith)) e

pub published_admitted : (o : Opening) (generations : List Generation) (number : ℕ)
    (p : Publication) → All (IsAdmittedIn o.names) generations
    → published_at generations (Some number) ≡ Some p → IsAdmitted o.names p
published_admitted o generations number p a e =
    let f = of_number generations number p e in
    subst (IsAdmitted o.names) f.is
    (there_holds (IsAdmittedIn o.names) generations number f.g a f.there)

-- ---- what a caller holds

-- in this state the seat holds the generation, with this configuration
pub record HoldsNow (st : State) (seat number : ℕ) (p : Publication) : Type 0 where
  pub held : held_by st seat ≡ Some number
  pub published : published_at st.generations (Some number) ≡ Some p

holds_now : (o : Opening) (history mine : List Entry) (seat number : ℕ) (p : Publication)
    → IsLegal o history → seat < length o.reloads → of_seat seat_of seat history ≡ mine
    → holding mine ≡ Some (number, p) → HoldsNow (state_of o history) seat number p
holds_now o history mine seat number p l w own h =
    let st = state_of o history in
    let q = pair_parts st.generations (held_by st seat) (number, p)
    (sym (holding_of o history seat l w) ∙ ap holding own ∙ h) in
    record { held = q.0; published = q.1 }

caller_holds : (c : Caller) (number : ℕ) (p : Publication) → IsCaller c
    → holding c.mine ≡ Some (number, p)
    → HoldsNow (state_of c.opening c.seen) c.seat number p
caller_holds c number p k h =
    holds_now c.opening c.seen c.mine c.seat number p k.legal k.seat_in k.own h

pub held_is_admitted : HeldIsAdmitted
held_is_admitted c number p k h =
    published_admitted c.opening (state_of c.opening c.seen).generations number p
    (all_admitted c.opening c.seen k.legal) (caller_holds c number p k h).published

pub held_opens : HeldOpens
held_opens opens c number p k honest h =
    let f = of_number (state_of c.opening c.seen).generations number p
    (caller_holds c number p k h).published in
    subst (λ q. SeedsOpen opens q) f.is
    (history_opened opens c.opening c.seen k.legal honest number f.g f.there)

-- ---- what the entry of its event names

module _ (old new : Caller) (asked : Event) (given : Answer) (k : IsCaller old)
    (a : AddsEntry old asked given new) where
  abbrev before : List Entry
  before = old.seen ++ a.others

  abbrev st : State
  st = state_of old.opening before

  own_before : of_seat seat_of old.seat before ≡ old.mine
  own_before = filter-append (λ (e : Entry). seat_of e == old.seat) old.seen a.others
      ∙ ap (λ more. of_seat seat_of old.seat old.seen ++ more) a.apart
      ∙ append-nil (of_seat seat_of old.seat old.seen) ∙ k.own

  names_held : (number : ℕ) (p : Publication) → holding old.mine ≡ Some (number, p)
      → NamesHeld st number p a.entry
  names_held number p h =
      let e = a.entry in
      let now = holds_now old.opening before old.mine old.seat number p a.legal k.seat_in
      own_before h in
      let f = of_number st.generations number p now.published in
      let held : e.line.held ≡ Some number =
      a.step.held ∙ ap (held_by st) a.records.seat_is ∙ now.held in
      record {
        held = held;
        published = ap (λ (x : Entry). x.published) a.step.payload
            ∙ ap (λ h. published_at (after st e).generations
            (generation_named_by h e.line.gave)) held
            ∙ published_front st.generations (new_generations e.line.gave e.line.did)
            (Some number) (slice_get_within st.generations number f.g f.there)
            ∙ now.published;
        live = (
          number,
          inr (contains_at st.held old.seat number now.held),
          ap (option_map (λ (q : Publication). q.rows)) now.published,
        );
      }

  found_now : (row : Row) → found_in old.mine ≡ Some row → IsIn st.rows row
  found_now row h = subst (λ r. IfSome r (IsIn st.rows)) (ap found_in own_before ∙ h)
      (found_there old.opening before old.seat a.legal)

pub held_is_named : HeldIsNamed
held_is_named old new asked given number p k a h = names_held old new asked given k a number p h

pub found_is_named : FoundIsNamed
found_is_named old new path revision stored given row k a h is =
    let asked : Event = event.Replace path revision stored in
    let e = a.entry in
    let now = st old new asked given k a in
    let more = new_rows e.line.gave e.line.did e.row in
    let i = found_now old new asked given k a row h in
    ap (λ (x : Entry). x.replaced) a.step.payload
    ∙ ap (λ d. put_at (now.rows ++ more) (revision_replaced_in d)) a.records.did_is
    ∙ ap (put_at (now.rows ++ more)) (sym is)
    ∙ row_stays now.rows more row.revision i.within ∙ i.is
