-- What stands behind some entries, by the state that they lead to.
use Rattle.std.specs.Prelude.{if◌then◌else◌, slice_set}
use Rattle.std.specs.Option.{option_map}
use Rattle.std.specs.Str.{bytes_eq}
use Rattle.std.proofs.Common.{◌≡◌, ℕ, zero, suc, ◌+◌, ◌<◌, ◌==◌, Bool, true, false, List, [], ◌∷◌, ◌++◌, length, get_or, Option, None, Some, refl, ap, sym, subst, ◌∙◌, arith, length-append, append-nil, eqb-true}
use Rattle.std.proofs.lemmas.Bool.{eq-eqb, false≢true}
use Rattle.std.proofs.lemmas.List.{get_or-set_other, get_or-set_same, length-set}
use Rattle.std.proofs.lemmas.Option.{none-some}
use Rattle.kr_provider.specs.Publication.{Publication}
use Rattle.kr_store.specs.declared.format.Check.{Check}
use Rattle.kr_store.specs.declared.rows.LogRow.{LogRow}
use Rattle.kr_store.specs.declared.rows.Row.{Row}
use Rattle.kr_store.specs.Rows.{delete_of, live, put_of, row_of}
use Rattle.kr_rollout.specs.declared.line.Did.{Did}
use Rattle.kr_rollout.specs.declared.line.Did.TheVariants as did
use Rattle.kr_rollout.specs.declared.line.Gave.{Gave}
use Rattle.kr_rollout.specs.declared.line.Gave.TheVariants as gave
use Rattle.kr_rollout.specs.declared.opening.Entry.{Entry}
use Rattle.kr_rollout.specs.declared.opening.Opening.{Opening}
use Rattle.kr_rollout.specs.Histories.{IsLegal, IsRun, state_from, state_of}
use Rattle.kr_rollout.specs.Openings.{start_of}
use Rattle.kr_rollout.specs.States.{State, current_of}
use Rattle.kr_rollout.specs.Entries.{published_at}
use Rattle.kr_rollout.specs.Steps.{IsStep, after, new_generations, put_row}
use Rattle.kr_rollout.proofs.Revisions.{published_front}
use Rattle.kr_opening.specs.declared.generation.Generation.{Generation}
use Rattle.kr_history.proofs.ContentSteps.{live_deleted, live_elsewhere, live_put, one_path}
use Rattle.kr_history.proofs.Effects.{entry_with}
use Rattle.kr_opening.specs.Replicas.{current_from}
use Rattle.kr_headline.specs.Headline.{Object, had_after, object_after, latest_revision}
use Rattle.kr_headline.proofs.Folds.{faults_from, had_from, object_from, revision_from}

-- ---- revisions

abbrev pub row_revision : Option Row → Option ℕ
row_revision row = option_map (λ (it : Row). it.revision) row

abbrev pub object_revision : Option Object → Option ℕ
object_revision object = option_map (λ (it : Object). it.revision) object

-- the object is the live row's
abbrev pub Alike : (path : List ℕ) → Option Object → List LogRow → Type 0
Alike path now rows = object_revision now ≡ row_revision (live rows path)

module _ (path : List ℕ) (now : Option Object) (rows : List LogRow) (alike : Alike path now rows)
  where
    alike_put : (own resource stored : List ℕ) (check : Option Check) (revision : ℕ)
        (object : Option Object) → revision ≡ length rows + 1
        → (bytes_eq own path ≡ true → object_revision object ≡ Some revision)
        → (b : Bool) → bytes_eq own path ≡ b
        → Alike path (if b then object else now) (rows ++ put_of own resource stored check ∷ [])
    alike_put own resource stored check revision object is has true same =
        has same ∙ ap (λ (n : ℕ). Some n) (is ∙ turned)
        ∙ sym (ap row_revision (live_put rows own resource stored path check same))
      where
        turned : length rows + 1 ≡ 1 + length rows
        turned = omega arith
    alike_put own resource stored check revision object is has false other = alike
        ∙ sym (ap row_revision
        (live_elsewhere rows (put_of own resource stored check) path other))

    alike_deleted : (own : List ℕ) → (b : Bool) → bytes_eq own path ≡ b
        → Alike path (if b then None else now) (rows ++ delete_of own ∷ [])
    alike_deleted own true same = sym (ap row_revision (live_deleted rows own path same))
    alike_deleted own false other =
        alike ∙ sym (ap row_revision (live_elsewhere rows (delete_of own) path other))

    alike_kept : Alike path now (rows ++ [])
    alike_kept = subst (λ (l : List LogRow). Alike path now l) (sym (append-nil rows)) alike

-- an object that stands has a new revision
renewed : (now : Option Object) (row : Option Row) (old : Row) (revision : ℕ)
    → object_revision now ≡ row_revision row → row ≡ Some old
    → object_revision (option_map (λ (it : Object). record it { revision = revision }) now)
    ≡ Some revision
renewed None row old revision alike is =
    absurd (none-some old.revision (alike ∙ ap row_revision is))
renewed (Some object) row old revision alike is = refl

module _ (o : Opening) (st : State) (seat : ℕ) (held : Option ℕ) (faults : ℕ)
    (published : Option Publication) (row replaced : Option Row) where
  abbrev entry : Did → Gave → Entry
  entry d g = entry_with seat held faults published row replaced d g

  -- a put that was written adds its row
  put_added : (own resource stored : List ℕ) (check : Option Check) (revision : ℕ) (it : LogRow)
      → it ≡ put_of own resource stored check → row ≡ row_of revision it.path it.change
      → st.rows ++ put_row row ≡ st.rows ++ put_of own resource stored check ∷ []
  put_added own resource stored check revision it is row_is =
      ap (λ (r : Option Row). st.rows ++ put_row r)
      (row_is ∙ ap (λ (l : LogRow). row_of revision l.path l.change) is)

  -- ---- one entry

  alike_after : (path : List ℕ) (now : Option Object) → Alike path now st.rows → (d : Did)
      (g : Gave) → IsStep o st (entry d g)
      → Alike path (object_after g d path now) (after st (entry d g)).rows
  alike_after path now alike (did.Put own resource plain) (gave.Written revision) s =
      let w = s.writes in
      subst (λ (l : List LogRow). Alike path
      (object_after (gave.Written revision) (did.Put own resource plain) path now) l)
      (sym (put_added own resource w.1.2.stored _ revision w.0 w.1.2.row_is w.3))
      (alike_put path now st.rows alike own resource w.1.2.stored _ revision
      (Some (record { revision = revision; data_put = Some plain })) s.answer.1 (λ same. refl)
      (bytes_eq own path) refl)
  alike_after path now alike (did.Delete own) (gave.Written revision) s =
      alike_deleted path now st.rows alike own (bytes_eq own path) refl
  alike_after path now alike (did.Replace own from) (gave.Written revision) s =
      let w = s.writes in
      let old : Row = w.1.1 in
      let sealed = w.1.5.sealed in
      subst (λ (l : List LogRow). Alike path
      (object_after (gave.Written revision) (did.Replace own from) path now) l)
      (sym (put_added own old.resource sealed.stored _ revision w.0 sealed.row_is w.3))
      (alike_put path now st.rows alike own old.resource sealed.stored _ revision
      (option_map (λ (it : Object). record it { revision = revision }) now) s.answer.2
      (λ same. renewed now (live st.rows path) old revision alike
      (ap (live st.rows) (sym (one_path own path same)) ∙ w.1.3)) (bytes_eq own path) refl)
  alike_after path now alike d (gave.Written revision) s = absurd s.answer
  alike_after path now alike d g s = alike_kept path now st.rows alike

  -- ---- the latest revision

  added_one : (more : List LogRow) (one : LogRow) (revision : ℕ) → more ≡ one ∷ []
      → revision ≡ length st.rows + 1 → revision ≡ length (st.rows ++ more)
  added_one more one revision is at = at ∙ sym (length-append st.rows (one ∷ []))
      ∙ ap (λ (l : List LogRow). length (st.rows ++ l)) (sym is)

  latest_after : (now : ℕ) → now ≡ length st.rows → (d : Did) (g : Gave)
      → IsStep o st (entry d g) → latest_revision g now ≡ length (after st (entry d g)).rows
  latest_after now is (did.Put own resource plain) (gave.Written revision) s =
      let w = s.writes in added_one (put_row row)
      (put_of own resource w.1.2.stored _) revision
      (ap put_row (w.3 ∙ ap (λ (l : LogRow). row_of revision l.path l.change) w.1.2.row_is))
      s.answer.1
  latest_after now is (did.Delete own) (gave.Written revision) s =
      added_one (delete_of own ∷ []) (delete_of own) revision refl s.answer.1
  latest_after now is (did.Replace own from) (gave.Written revision) s =
      let w = s.writes in
      let old : Row = w.1.1 in added_one (put_row row)
      (put_of own old.resource w.1.5.sealed.stored _) revision
      (ap put_row (w.3 ∙ ap (λ (l : LogRow). row_of revision l.path l.change)
      w.1.5.sealed.row_is)) s.answer.2
  latest_after now is d (gave.Written revision) s = absurd s.answer
  latest_after now is d g s = is ∙ ap length (sym (append-nil st.rows))

  -- ---- what replicas have

  set_had : (current : List (Option ℕ)) (own replica : ℕ) (new now : Option ℕ)
      → own < length current → now ≡ get_or current replica None → (b : Bool)
      → (own == replica) ≡ b
      → (if b then new else now) ≡ get_or (slice_set current own new) replica None
  set_had current own replica new now within is true same =
      sym (ap (λ n. get_or (slice_set current own new) n None)
      (sym (eqb-true own replica same)) ∙ get_or-set_same current own new None within)
  set_had current own replica new now within is false other =
      is ∙ sym (get_or-set_other current own replica new None (λ same.
      false≢true (sym other ∙ eq-eqb own replica (sym same))))

  had_then : (replica : ℕ) (now : Option ℕ) → now ≡ current_of st replica
      → length st.current ≡ length o.replicas → (d : Did) (g : Gave) → IsStep o st (entry d g)
      → had_after g d replica now ≡ current_of (after st (entry d g)) replica
  had_then replica now is many (did.Reload own p expect) (gave.Reloaded number) s =
      set_had st.current own replica (Some number) now
      (subst (λ n. own < n) (sym many) s.rules.0) is (own == replica) refl
  had_then replica now is many d (gave.Reloaded number) s = absurd s.answer
  had_then replica now is many (did.Join own p) (gave.Joined number) s =
      set_had st.current own replica (Some number) now
      (subst (λ n. own < n) (sym many) s.rules.0) is (own == replica) refl
  had_then replica now is many d (gave.Joined number) s = absurd s.answer
  had_then replica now is many (did.Leave own) (gave.Departed number) s =
      set_had st.current own replica None now
      (subst (λ n. own < n) (sym many) s.rules) is (own == replica) refl
  had_then replica now is many d (gave.Departed number) s = absurd s.answer
  had_then replica now is many d g s = is

  many_then : length st.current ≡ length o.replicas → (d : Did) (g : Gave)
      → IsStep o st (entry d g) → length (after st (entry d g)).current ≡ length o.replicas
  many_then many (did.Reload own p expect) (gave.Reloaded number) s =
      length-set st.current own (Some number) ∙ many
  many_then many d (gave.Reloaded number) s = absurd s.answer
  many_then many (did.Join own p) (gave.Joined number) s =
      length-set st.current own (Some number) ∙ many
  many_then many d (gave.Joined number) s = absurd s.answer
  many_then many (did.Leave own) (gave.Departed number) s = length-set st.current own None ∙ many
  many_then many d (gave.Departed number) s = absurd s.answer
  many_then many d g s = many

-- ---- behind some entries

current_many : (m : ℕ) (rs : List (Option Publication)) → length (current_from m rs) ≡ length rs
current_many m [] = refl
current_many m (None ∷ rs) = ap suc (current_many m rs)
current_many m (Some p ∷ rs) = ap suc (current_many (m + 1) rs)

module _ (o : Opening) where
  alike_run : (path : List ℕ) (now : Option Object) (st : State) (front : List Entry)
      → IsRun o st front → Alike path now st.rows
      → Alike path (object_from path now front) (state_from st front).rows
  alike_run path now st [] runs alike = alike
  alike_run path now st (e ∷ front) runs alike =
      alike_run path (object_after e.line.gave e.line.did path now) (after st e) front runs.1
      (alike_after o st e.line.seat e.line.held e.line.faults e.published e.row e.replaced path now
      alike e.line.did e.line.gave runs.0)

  latest_run : (now : ℕ) (st : State) (front : List Entry) → IsRun o st front
      → now ≡ length st.rows → revision_from now front ≡ length (state_from st front).rows
  latest_run now st [] runs is = is
  latest_run now st (e ∷ front) runs is =
      latest_run (latest_revision e.line.gave now) (after st e) front runs.1
      (latest_after o st e.line.seat e.line.held e.line.faults e.published e.row e.replaced now is
      e.line.did e.line.gave runs.0)

  had_run : (replica : ℕ) (now : Option ℕ) (st : State) (front : List Entry) → IsRun o st front
      → length st.current ≡ length o.replicas → now ≡ current_of st replica
      → had_from replica now front ≡ current_of (state_from st front) replica
  had_run replica now st [] runs many is = is
  had_run replica now st (e ∷ front) runs many is =
      had_run replica (had_after e.line.gave e.line.did replica now) (after st e) front runs.1
      (many_then o st e.line.seat e.line.held e.line.faults e.published e.row e.replaced many
      e.line.did e.line.gave runs.0)
      (had_then o st e.line.seat e.line.held e.line.faults e.published e.row e.replaced replica now
      is many e.line.did e.line.gave runs.0)

-- ---- configurations

-- that of a number stays
pub published_stays : (st : State) (rest : List Entry) (number : ℕ)
    → number < length st.generations
    → published_at (state_from st rest).generations (Some number)
    ≡ published_at st.generations (Some number)
published_stays st [] number within = refl
published_stays st (e ∷ rest) number within =
    let more = new_generations e.line.gave e.line.did in
    published_stays (after st e) rest number
    (omega (arith, within, length-append st.generations more))
    ∙ published_front st.generations more (Some number) within

-- the last one
pub published_last : (generations : List Generation) (g : Generation) (number : ℕ)
    → number ≡ length generations
    → published_at (generations ++ g ∷ []) (Some number) ≡ Some g.published
published_last [] g zero is = refl
published_last (x ∷ generations) g (suc number) is =
    published_last generations g number (omega (arith, is))
published_last other g another is = absurd (omega (arith, is))

pub state_split : (st : State) (front : List Entry) (e : Entry) (rest : List Entry)
    → state_from st (front ++ e ∷ rest) ≡ state_from (after (state_from st front) e) rest
state_split st [] e rest = refl
state_split st (x ∷ front) e rest = state_split (after st x) front e rest

pub faults_are : (st : State) (front : List Entry)
    → faults_from st.count front ≡ (state_from st front).count
faults_are st [] = refl
faults_are st (e ∷ front) = faults_are (after st e) front

-- ---- behind a front of a legal history

module _ (o : Opening) (front : List Entry) (legal : IsLegal o front) where
  pub stands_alike : (path : List ℕ) (now : Option Object) → Alike path now o.rows
      → Alike path (object_from path now front) (state_of o front).rows
  stands_alike path now alike = alike_run o path now (start_of o) front legal.runs alike

  pub latest_is : revision_from (length o.rows) front ≡ length (state_of o front).rows
  latest_is = latest_run o (length o.rows) (start_of o) front legal.runs refl

  pub had_is : (replica : ℕ) → had_from replica (current_of (start_of o) replica) front
      ≡ current_of (state_of o front) replica
  had_is replica = had_run o replica (current_of (start_of o) replica) (start_of o) front legal.runs
      (current_many 0 o.replicas) refl
