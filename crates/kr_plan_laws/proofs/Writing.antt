-- A path at which a row is written is settled, while all live settings write as some do.
use Rattle.std.proofs.Common.{◌≡◌, ℕ, List, [], ◌∷◌, ◌++◌, Option, None, Some, IsSome, refl, sym, ap, subst, ◌∙◌}
use Rattle.std.specs.Prelude.{if◌then◌else◌}
use Rattle.std.proofs.lemmas.Option.{none-some, same_Some}
use Rattle.kr_store.specs.declared.rows.LogRow.{LogRow}
use Rattle.kr_store.specs.declared.rows.Row.{Row}
use Rattle.kr_store.specs.Rows.{row_of}
use Rattle.kr_config.specs.Kept.{ConfigEntry}
use Rattle.kr_provider.specs.Publication.{Publication}
use Rattle.kr_judge.specs.declared.need.Need.{Need}
use Rattle.kr_judge.specs.Boards.{AreByPath, need_at, set_need}
use Rattle.kr_judge.proofs.Needs.{set_at, drop_at_path}
use Rattle.kr_opening.specs.Checks.{written_check}
use Rattle.kr_opening.proofs.Needing.{own_path}
use Rattle.kr_rollout.specs.declared.line.Did.{Did}
use Rattle.kr_rollout.specs.declared.line.Did.TheVariants.{Put, Delete, Replace}
use Rattle.kr_rollout.specs.declared.line.Gave.{Gave}
use Rattle.kr_rollout.specs.declared.line.Gave.TheVariants.{Adopted, Found, Absent, Written, Changed, Released, Reloaded, Joined, Refused, Moved, Present, Departed, Gone, StoreFailed, StoreFull, Nothing}
use Rattle.kr_rollout.specs.declared.opening.Entry.{Entry}
use Rattle.kr_rollout.specs.declared.opening.Opening.{Opening}
use Rattle.kr_rollout.specs.Openings.{start_of}
use Rattle.kr_rollout.specs.Histories.{state_of}
use Rattle.kr_rollout.specs.States.{State}
use Rattle.kr_rollout.specs.Steps.{IsStep, after, put_need}
use Rattle.kr_rollout.specs.Written.{IsWritten, path_written}
use Rattle.kr_rollout.proofs.Appending.{state_more}
use Rattle.kr_history.proofs.Effects.{entry_with, holds, need_by}
use Rattle.kr_history.proofs.Fitting.{legal_sound}
use Rattle.kr_history.proofs.Judging.{next_step}
use Rattle.kr_history.proofs.Lacking.{needed_stored}
use Rattle.kr_history.proofs.NeedsLive.{AreNeeded, needed_of}
use Rattle.kr_history.proofs.Sound.{IsSound}
use Rattle.kr_plan_laws.specs.Settled.{NeedsWriter, IsSettledAt, LiveWrite, WritingSettles}
use Rattle.kr_plan_laws.proofs.Settling.{value_needs}

-- what is needed at a path, if anything, needs the writer of the settings
pub record IsSettledNeed (to : List ConfigEntry) (needs : List Need) (path : List ℕ) : Type 0 where
  pub need : Option Need
  pub at : need_at needs path ≡ need
  pub settled : (own : Need) → need ≡ Some own → NeedsWriter to own

module _ (o : Opening) (st : State) (sound : IsSound o st) (sorted : AreByPath st.needs)
    (to : List ConfigEntry) (write : LiveWrite to st) (seat : ℕ) (held : Option ℕ) (faults : ℕ)
    (published : Option Publication) (row replaced : Option Row) where
  abbrev entry : Did → Gave → Entry
  entry did gave = entry_with seat held faults published row replaced did gave

  value_settles : (did : Did) (revision : ℕ) (p : Publication) (path resource : List ℕ)
      (next : Row) → IsStep o st (entry did (Written revision)) → IsSome held
      → published ≡ Some p → row ≡ Some next → next.path ≡ path → next.resource ≡ resource
      → IsSettledNeed to (put_need published row st.needs) path
  value_settles did revision p path resource next s some p_is row_is path_is resource_is =
      let h = holds o st seat held faults published row replaced did revision p s some p_is in
      let own : Need = need_by p path resource in
      let same : ◌≡◌ {A = Need} (need_by p next.path next.resource) own =
      (λ i. need_by p (path_is i) (resource_is i)) in
      let needs = ap (λ x. put_need x row st.needs) p_is
      ∙ ap (λ x. put_need (Some p) x st.needs) row_is
      ∙ ap (λ (x : Need). set_need st.needs x) same in
      record {
        need = Some own;
        at = ap (λ (ns : List Need). need_at ns path) needs
            ∙ set_at st.needs own path
            ∙ ap (λ b. if b then Some own else need_at st.needs path) (own_path path);
        settled = λ x e. subst (NeedsWriter to) (same_Some own x e)
            (value_needs o st sound to write seat p path resource h);
      }

  settles_by : (did : Did) (gave : Gave) → IsStep o st (entry did gave) → IsWritten gave
      → IsSettledNeed to (after st (entry did gave)).needs (path_written did)
  settles_by (Put path resource plain) (Written revision) s w =
      let p = s.writes.1.0 in
      let sealed = s.writes.1.2 in
      value_settles (Put path resource plain) revision p path resource (record {
        path = path;
        resource = resource;
        revision = revision;
        stored = sealed.stored;
        check = written_check o.format p resource;
      }) s s.answer.0 s.writes.1.1
      (s.writes.3 ∙ ap (λ (r : LogRow). row_of revision r.path r.change) sealed.row_is) refl refl
  settles_by (Replace path from) (Written revision) s w =
      let p = s.writes.1.0 in
      let old = s.writes.1.1 in
      let sealed = s.writes.1.5.sealed in
      value_settles (Replace path from) revision p path old.resource (record {
        path = path;
        resource = old.resource;
        revision = revision;
        stored = sealed.stored;
        check = written_check o.format p old.resource;
      }) s s.answer.0 s.writes.1.2
      (s.writes.3 ∙ ap (λ (r : LogRow). row_of revision r.path r.change) sealed.row_is) refl refl
  settles_by (Delete path) (Written revision) s w = record {
    need = None;
    at = drop_at_path st.needs path path sorted
        ∙ ap (λ b. if b then None else need_at st.needs path) (own_path path);
    settled = λ x e. absurd (none-some x e);
  }
  settles_by did (Adopted number) s w = absurd w
  settles_by did (Found revision) s w = absurd w
  settles_by did Absent s w = absurd w
  settles_by did (Changed revision) s w = absurd w
  settles_by did Released s w = absurd w
  settles_by did (Reloaded number) s w = absurd w
  settles_by did (Joined number) s w = absurd w
  settles_by did (Refused verdict) s w = absurd w
  settles_by did (Moved number) s w = absurd w
  settles_by did (Present number) s w = absurd w
  settles_by did (Departed number) s w = absurd w
  settles_by did (Gone replica) s w = absurd w
  settles_by did StoreFailed s w = absurd w
  settles_by did (StoreFull needed) s w = absurd w
  settles_by did Nothing s w = absurd w
  settles_by other another s w = absurd s.answer

-- so no other need of the path is left
pub settled_at : (to : List ConfigEntry) (st : State) (path : List ℕ) → AreNeeded st
    → IsSettledNeed to st.needs path → IsSettledAt to st path
settled_at to st path needed own need m at =
    own.settled need (sym own.at ∙ ap (λ x. need_at st.needs x) (sym at)
    ∙ (needed_stored st needed need m).3)

pub writing_settles : WritingSettles
writing_settles o history e to l write written =
    let n = next_step o history e l in
    let st : State = state_of o history in
    let own = settles_by o st (legal_sound o history n.before) (needed_of o history n.before).sorted
    to write e.line.seat e.line.held e.line.faults e.published e.row e.replaced e.line.did
    e.line.gave n.step written in
    settled_at to (state_of o (history ++ e ∷ [])) (path_written e.line.did)
    (needed_of o (history ++ e ∷ []) l)
    (subst (λ (s : State). IsSettledNeed to s.needs (path_written e.line.did))
    (sym (state_more (start_of o) history e)) own)
