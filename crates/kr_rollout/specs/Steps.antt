-- A step of a rollout: the condition in which an entry may stand behind a state, and the state
-- after it.
use Rattle.std.specs.Prelude.{◌≡◌, ℕ, ◌<◌, ◌≤◌, ◌⊎◌, Bool, true, false, List, [], ◌∷◌, ◌++◌, length, slice_set, All, Option, None, Some, ⊤}
use Rattle.kr_base.specs.Numbering.{next_number}
use Rattle.kr_base.specs.Rules.{IsPath, IsResource}
use Rattle.kr_store.specs.declared.rows.LogRow.{LogRow}
use Rattle.kr_store.specs.declared.rows.Row.{Row}
use Rattle.kr_store.specs.Rows.{put_of, delete_of}
use Rattle.kr_provider.specs.Publication.{Publication, list_at}
use Rattle.kr_provider.specs.Readers.{writer_of}
use Rattle.kr_judge.specs.declared.need.Need.{Need}
use Rattle.kr_judge.specs.Boards.{set_need, drop_need}
use Rattle.kr_opening.specs.declared.generation.Generation.{Generation}
use Rattle.kr_rollout.specs.declared.line.Did.{Did}
use Rattle.kr_rollout.specs.declared.line.Did.TheVariants.{Adopt, Fetch, After, Put, Delete, Replace, LetGo, Reload, Join, Leave}
use Rattle.kr_rollout.specs.declared.line.Gave.{Gave}
use Rattle.kr_rollout.specs.declared.line.Gave.TheVariants.{Adopted, Written, Released, Reloaded, Joined, Departed, StoreFailed}
use Rattle.kr_rollout.specs.declared.opening.Entry.{Entry}
use Rattle.kr_rollout.specs.declared.opening.Opening.{Opening}
use Rattle.kr_rollout.specs.Entries.{entry_of, HasWhatItNames}
use Rattle.kr_rollout.specs.States.{State, held_by}
use Rattle.kr_rollout.specs.Openings.{IsAdmitted}
use Rattle.kr_rollout.specs.Answers.{IsAnswer}
use Rattle.kr_rollout.specs.Writes.{Writes}

-- ---- the state after an entry: what isn't named stays

-- the configuration that a replica was given
abbrev pub new_generation : Did → List Generation
new_generation (Reload replica p expect) = record { replica = replica; published = p } ∷ []
new_generation (Join replica p) = record { replica = replica; published = p } ∷ []
new_generation did = []

abbrev pub new_generations : Gave → Did → List Generation
new_generations (Reloaded number) did = new_generation did
new_generations (Joined number) did = new_generation did
new_generations gave did = []

-- the replica whose current generation changes
abbrev pub with_current : Did → Option ℕ → List (Option ℕ) → List (Option ℕ)
with_current (Reload replica p expect) number current = slice_set current replica number
with_current (Join replica p) number current = slice_set current replica number
with_current (Leave replica) number current = slice_set current replica number
with_current did number current = current

abbrev pub current_after : Gave → Did → List (Option ℕ) → List (Option ℕ)
current_after (Reloaded number) did current = with_current did (Some number) current
current_after (Joined number) did current = with_current did (Some number) current
current_after (Departed number) did current = with_current did None current
current_after gave did current = current

abbrev pub held_after : Gave → ℕ → List (Option ℕ) → List (Option ℕ)
held_after (Adopted number) seat held = slice_set held seat (Some number)
held_after Released seat held = slice_set held seat None
held_after gave seat held = held

-- the row that was written: a delete, or else the put that the entry names
abbrev pub put_row : Option Row → List LogRow
put_row None = []
put_row (Some row) = put_of row.path row.resource row.stored row.check ∷ []

abbrev pub row_written_by : Did → Option Row → List LogRow
row_written_by (Delete path) row = delete_of path ∷ []
row_written_by did row = put_row row

abbrev pub new_rows : Gave → Did → Option Row → List LogRow
new_rows (Written revision) did row = row_written_by did row
new_rows gave did row = []

-- a put needs the writer of the held configuration, a delete nothing
abbrev pub put_need : Option Publication → Option Row → List Need → List Need
put_need None row needs = needs
put_need (Some p) None needs = needs
put_need (Some p) (Some row) needs =
    set_need needs (record {
      path =
          row.path;
      resource = row.resource;
      who = writer_of (list_at p row.resource);
    })

abbrev pub need_written : Did → Option Publication → Option Row → List Need → List Need
need_written (Delete path) published row needs = drop_need needs path
need_written did published row needs = put_need published row needs

abbrev pub needs_after : Gave → Did → Option Publication → Option Row → List Need → List Need
needs_after (Written revision) did published row needs = need_written did published row needs
needs_after gave did published row needs = needs

abbrev pub after : State → Entry → State
after st e = record {
  generations = st.generations ++ new_generations e.line.gave e.line.did;
  current = current_after e.line.gave e.line.did st.current;
  held = held_after e.line.gave e.line.seat st.held;
  needs = needs_after e.line.gave e.line.did e.published e.row st.needs;
  rows = st.rows ++ new_rows e.line.gave e.line.did e.row;
  count = e.line.faults;
}

-- whether a write has failed since the last one that was done, after an answer: one has where it
-- tells that the store failed, and none where it tells of a row that was written
abbrev pub tears : Gave → Bool → Bool
tears StoreFailed torn = true
tears (Written revision) torn = false
tears gave torn = torn

-- ---- its condition

-- the arguments of an event keep their rules
abbrev pub KeepsRules : Did → Opening → Type 0
KeepsRules (Adopt replica) o = replica < length o.replicas
KeepsRules (Fetch path) o = IsPath path
KeepsRules (After path) o = (path ≡ []) ⊎ IsPath path
KeepsRules (Put path resource plain) o =
    IsPath path × IsResource resource × All (λ byte. byte < 256) plain
KeepsRules (Delete path) o = IsPath path
KeepsRules (Replace path revision) o = IsPath path
KeepsRules LetGo o = ⊤
KeepsRules (Reload replica p expect) o = (replica < length o.replicas) × IsAdmitted o.names p
KeepsRules (Join replica p) o = (replica < length o.replicas) × IsAdmitted o.names p
KeepsRules (Leave replica) o = replica < length o.replicas

-- no fault of the store is hidden: the count of its faults is one higher where the answer tells
-- that the store failed, and else as before
abbrev pub HidesNoFault : Gave → (before now : ℕ) → Type 0
HidesNoFault StoreFailed before now = now ≡ next_number before
HidesNoFault gave before now = now ≡ before

-- the entry names a seat and what it held, answers as the table has it, and shows what is there
-- after it; the count of faults never falls, and none is hidden
pub record IsStep (o : Opening) (st : State) (e : Entry) : Type 0 where
  pub seat : e.line.seat < length o.reloads
  pub held : e.line.held ≡ held_by st e.line.seat
  pub rules : KeepsRules e.line.did o
  pub answer : IsAnswer e.line.did e.line.gave st e.line.held
  pub writes : Writes e.line.gave o st e
  pub counted : st.count ≤ e.line.faults
  pub faults : HidesNoFault e.line.gave st.count e.line.faults
  pub payload : e ≡ entry_of (after st e).rows (after st e).generations e.line
  pub reaches : HasWhatItNames (after st e).rows (after st e).generations e.line
