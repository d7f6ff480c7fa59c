-- While all live settings write as some do, what is settled stays so, and what is written is.
use Rattle.std.proofs.Common.{◌≡◌, ℕ, ◌≤◌, List, [], ◌∷◌, ◌++◌, length, Contains, Some, refl, sym, ap, subst, ◌∙◌, inl, inr, arith, IsTrue, append_assoc}
use Rattle.kr_config.specs.declared.class.Class.TheVariants.{Exact}
use Rattle.kr_config.specs.declared.who.Who.{Who}
use Rattle.kr_config.specs.Kept.{ConfigEntry, keeps}
use Rattle.kr_config.specs.Lists.{list_of}
use Rattle.kr_provider.specs.Publication.{Publication}
use Rattle.kr_provider.specs.Readers.{writer_of}
use Rattle.kr_judge.specs.declared.need.Need.{Need}
use Rattle.kr_judge.specs.Boards.{set_need}
use Rattle.kr_judge.specs.Verdicts.{first}
use Rattle.kr_opening.proofs.Passing.{class_some}
use Rattle.kr_rollout.specs.declared.line.Did.{Did}
use Rattle.kr_rollout.specs.declared.line.Did.TheVariants.{Adopt, Fetch, After, Put, Delete, Replace, LetGo, Reload, Join, Leave}
use Rattle.kr_rollout.specs.declared.opening.Entry.{Entry}
use Rattle.kr_rollout.specs.declared.opening.Opening.{Opening}
use Rattle.kr_rollout.specs.Openings.{start_of}
use Rattle.kr_rollout.specs.Histories.{state_from, state_of, IsRun, IsLegal}
use Rattle.kr_rollout.specs.States.{State}
use Rattle.kr_rollout.specs.Steps.{IsStep, after}
use Rattle.kr_history.proofs.Effects.{Effect, stays, adopts, lets_go, leaves, gives, puts_value, deletes_row, replaces_value, Holds, need_by, effect_of}
use Rattle.kr_history.proofs.Fitting.{held_live, set_needs, drop_needs, sound_after, legal_sound}
use Rattle.kr_history.proofs.Sound.{IsSound, rows_of_number}
use Rattle.kr_plan_laws.specs.Settled.{NeedsWriter, IsSettledAt, WriteAs, LiveWrite, BringsWriting, AllWrite, WasSettled, WritersStay, SettledStays, AllBecomeSettled}
use Rattle.kr_plan_laws.proofs.Lives.{IsGiven, live_after}
use Rattle.kr_plan_laws.proofs.Runs.{run_parts, more_state, legal_front}

-- ---- one entry

brought : (to rows : List ConfigEntry) (did : Did) → BringsWriting to did → IsGiven did rows
    → WriteAs to rows
brought to rows (Reload replica p expect) b g = subst (WriteAs to) g b
brought to rows (Join replica p) b g = subst (WriteAs to) g b
brought to rows (Adopt replica) b g = absurd g
brought to rows (Fetch path) b g = absurd g
brought to rows (After path) b g = absurd g
brought to rows (Put path resource plain) b g = absurd g
brought to rows (Delete path) b g = absurd g
brought to rows (Replace path revision) b g = absurd g
brought to rows LetGo b g = absurd g
brought to rows (Leave replica) b g = absurd g

first_writer : (list : List Who) → 1 ≤ length list → first list ≡ Some (writer_of list)
first_writer [] l = absurd (omega (arith, l))
first_writer (who ∷ list) l = refl

module _ (o : Opening) (st : State) (sound : IsSound o st) (to : List ConfigEntry)
    (write : LiveWrite to st) where
  pub write_after : (e : Entry) → IsStep o st e → BringsWriting to e.line.did
      → LiveWrite to (after st e)
  write_after e step brings rows live = elim (live_after o st sound e step rows live) [
    | inl before ↦ write rows before
    | inr given ↦ brought to rows e.line.did brings given
  ]

  -- what is written by a held configuration needs its writer
  pub value_needs : (seat : ℕ) (p : Publication) (path resource : List ℕ) → Holds st seat p
      → NeedsWriter to (need_by p path resource)
  value_needs seat p path resource h =
      let lives = held_live st seat p h in
      let g = rows_of_number st.generations lives.0 p.rows lives.2 in
      let kept = subst (λ r. IsTrue (keeps r)) g.2 (sound.kept lives.0 g.0 g.1).kept in
      sym (write p.rows lives (Exact resource))
      ∙ first_writer (list_of p.rows resource) (class_some p.rows kept (Exact resource))

  module _ (path : List ℕ) (settled : IsSettledAt to st path) where
    same_needs : (next : State) → next.needs ≡ st.needs → IsSettledAt to next path
    same_needs next is need m at =
        settled need (subst (λ (ns : List Need). Contains ns need) is m) at

    with_value_needs : (own resource : List ℕ) (seat : ℕ) (p : Publication) → Holds st seat p
        → (next : State) → next.needs ≡ set_need st.needs (need_by p own resource)
        → IsSettledAt to next path
    with_value_needs own resource seat p h next is need m at =
        elim (set_needs st.needs (need_by p own resource) need
        (subst (λ (ns : List Need). Contains ns need) is m)) [
          | inl old ↦ settled need old at
          | inr new ↦ subst (NeedsWriter to) new (value_needs seat p own resource h)
        ]

    settled_by : (e : Entry) → Effect o st e → IsSettledAt to (after st e) path
    settled_by e (stays quiet is) = same_needs (after st e) (ap (λ (s : State). s.needs) is)
    settled_by e (adopts replica number at quiet is) =
        same_needs (after st e) (ap (λ (s : State). s.needs) is)
    settled_by e (lets_go quiet is) = same_needs (after st e) (ap (λ (s : State). s.needs) is)
    settled_by e (leaves replica quiet is) =
        same_needs (after st e) (ap (λ (s : State). s.needs) is)
    settled_by e (gives replica p w published pass honest quiet is) =
        same_needs (after st e) (ap (λ (s : State). s.needs) is)
    settled_by e (puts_value own resource plain stored p check h sealing opened changes is) =
        with_value_needs own resource e.line.seat p h (after st e)
        (ap (λ (s : State). s.needs) is)
    settled_by e (deletes_row own live changes is) =
        λ need m at. settled need (drop_needs st.needs own need
        (subst (λ (s : State). Contains s.needs need) is m)) at
    settled_by e (replaces_value own stored old p check h live sealed honest quiet is) =
        with_value_needs own old.resource e.line.seat p h (after st e)
        (ap (λ (s : State). s.needs) is)

    pub settled_after : (e : Entry) → IsStep o st e → IsSettledAt to (after st e) path
    settled_after e step = settled_by e (effect_of o st e step)

-- ---- many

pub writers_run : (o : Opening) (st : State) (more : List Entry) (to : List ConfigEntry)
    → IsSound o st → IsRun o st more → LiveWrite to st → AllWrite to more
    → LiveWrite to (state_from st more)
writers_run o st [] to sound run write all = write
writers_run o st (e ∷ more) to sound run write all =
    writers_run o (after st e) more to (sound_after o st sound e (effect_of o st e run.0)) run.1
    (write_after o st sound to write e run.0 all.0) all.1

pub settled_run : (o : Opening) (st : State) (more : List Entry) (to : List ConfigEntry)
    (path : List ℕ) → IsSound o st → IsRun o st more → LiveWrite to st → AllWrite to more
    → IsSettledAt to st path → IsSettledAt to (state_from st more) path
settled_run o st [] to path sound run write all settled = settled
settled_run o st (e ∷ more) to path sound run write all settled =
    settled_run o (after st e) more to path (sound_after o st sound e (effect_of o st e run.0))
    run.1 (write_after o st sound to write e run.0 all.0) all.1
    (settled_after o st sound to write path settled e run.0)

pub writers_stay : WritersStay
writers_stay o history more to l write all =
    subst (LiveWrite to) (sym (more_state (start_of o) history more))
    (writers_run o (state_of o history) more to (legal_sound o history (legal_front o history more l))
    (run_parts o (start_of o) history more l.runs).1 write all)

pub settled_stays : SettledStays
settled_stays o history more to path l write all settled =
    subst (λ (s : State). IsSettledAt to s path) (sym (more_state (start_of o) history more))
    (settled_run o (state_of o history) more to path
    (legal_sound o history (legal_front o history more l))
    (run_parts o (start_of o) history more l.runs).1 write all settled)

-- entries up to some and from there on
pub front_writes : (to : List ConfigEntry) (front rest : List Entry) → AllWrite to (front ++ rest)
    → AllWrite to front
front_writes to [] rest all = tt
front_writes to (e ∷ front) rest all = (all.0, front_writes to front rest all.1)

pub rest_writes : (to : List ConfigEntry) (front rest : List Entry) → AllWrite to (front ++ rest)
    → AllWrite to rest
rest_writes to [] rest all = all
rest_writes to (e ∷ front) rest all = rest_writes to front rest all.1

-- a path that was settled at some moment is so at the end
pub was_settled : (o : Opening) (history more : List Entry) (to : List ConfigEntry)
    (path : List ℕ) → IsLegal o (history ++ more) → LiveWrite to (state_of o history)
    → AllWrite to more → WasSettled to o history more path
    → IsSettledAt to (state_of o (history ++ more)) path
was_settled o history more to path l write all (front, rest, is, settled) =
    let parts = subst (λ x. IsLegal o (history ++ x)) is l in
    let all_parts = subst (AllWrite to) is all in
    let together = sym (append_assoc history front rest) in
    let whole = subst (IsLegal o) together parts in
    let done = settled_stays o (history ++ front) rest to path whole
    (writers_stay o history front to (legal_front o (history ++ front) rest whole) write
    (front_writes to front rest all_parts)) (rest_writes to front rest all_parts) settled in
    subst (λ x. IsSettledAt to (state_of o x) path)
    (append_assoc history front rest ∙ ap (λ x. history ++ x) (sym is)) done

pub all_become_settled : AllBecomeSettled
all_become_settled o history more to l write all each need m =
    was_settled o history more to need.path l write all (each need.path) need m refl
