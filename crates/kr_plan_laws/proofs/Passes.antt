-- What a verdict that passes means, and of which moment.
use Rattle.std.proofs.Common.{◌≡◌, ℕ, Bool, true, false, List, [], ◌∷◌, ◌++◌, Contains, Option, Some, refl, sym, ap, subst, ◌∙◌, inl, inr}
use Rattle.std.specs.Prelude.{◌≢◌, ◌↔◌, if◌then◌else◌}
use Rattle.kr_store.specs.declared.rows.LogRow.{LogRow}
use Rattle.kr_store.specs.declared.rows.Row.{Row}
use Rattle.kr_store.specs.Rows.{row_of}
use Rattle.kr_config.specs.declared.who.Who.{Who}
use Rattle.kr_config.specs.Kept.{ConfigEntry}
use Rattle.kr_config.specs.Lists.{list_of, class_list}
use Rattle.kr_provider.specs.Publication.{Publication, writer_at}
use Rattle.kr_judge.specs.declared.need.Need.{Need}
use Rattle.kr_judge.specs.declared.verdict.Verdict.{Verdict}
use Rattle.kr_judge.specs.declared.verdict.Verdict.TheVariants.{Pass, DropsStored, DropsWriter, Unread}
use Rattle.kr_judge.specs.Boards.{set_need, need_at}
use Rattle.kr_judge.specs.Lacks.{LacksProvider, IsNeeded}
use Rattle.kr_judge.specs.Providers.{has}
use Rattle.kr_judge.specs.Verdicts.{verdict_of}
use Rattle.kr_judge.proofs.Members.{has_members}
use Rattle.kr_judge.proofs.Needs.{set_at}
use Rattle.kr_opening.specs.Checks.{written_check}
use Rattle.kr_opening.specs.ReplicaLaws.{AreOfAnother}
use Rattle.kr_opening.specs.Starts.{opening_generations}
use Rattle.kr_opening.proofs.Needing.{own_path}
use Rattle.kr_opening.proofs.Passing.{passed}
use Rattle.kr_opening.proofs.ReplicasJudged.{judges_replicas}
use Rattle.kr_rollout.specs.declared.line.Did.{Did}
use Rattle.kr_rollout.specs.declared.line.Did.TheVariants.{Adopt, Fetch, After, Put, Delete, Replace, LetGo, Reload, Join, Leave}
use Rattle.kr_rollout.specs.declared.line.Gave.{Gave}
use Rattle.kr_rollout.specs.declared.line.Gave.TheVariants.{Adopted, Found, Absent, Written, Changed, Released, Reloaded, Joined, Refused, Moved, Present, Departed, Gone, StoreFailed, StoreFull, Nothing}
use Rattle.kr_rollout.specs.declared.opening.Entry.{Entry}
use Rattle.kr_rollout.specs.declared.opening.Opening.{Opening}
use Rattle.kr_rollout.specs.Answers.{IsAnswer}
use Rattle.kr_rollout.specs.Histories.{state_of, IsLegal}
use Rattle.kr_rollout.specs.Judgements.{IsDone}
use Rattle.kr_rollout.specs.States.{State, board_generations, verdict_on}
use Rattle.kr_rollout.specs.Openings.{start_of}
use Rattle.kr_rollout.specs.Steps.{IsStep, after, needs_after, need_written, put_need}
use Rattle.kr_rollout.specs.Writes.{Writes, WouldWrite}
use Rattle.kr_rollout.proofs.Appending.{state_more}
use Rattle.kr_history.specs.LackLaws.{IsStoredUnder, AreBeside}
use Rattle.kr_history.proofs.ContentReads.{need_there}
use Rattle.kr_history.proofs.Judging.{next_step}
use Rattle.kr_history.proofs.Lacking.{verdict_refuses_exactly}
use Rattle.kr_plan_laws.specs.PassLaws.{ReadsAll, PassMeansRead, JudgeMeansRead, ReadsWhatIsThere, DoneMeansRead, PassIsOfItsMoment}

-- ---- verdicts

passes_unless : (verdict : Verdict) → (verdict ≢ Pass → ⊥) → verdict ≡ Pass
passes_unless Pass never = refl
passes_unless (DropsStored path who) never = absurd (never (λ e. cc))
passes_unless (DropsWriter number class who) never = absurd (never (λ e. cc))
passes_unless (Unread number class who) never = absurd (never (λ e. cc))

unlike : (b : Bool) → b ≡ false → b ≡ true → ⊥
unlike b a e = let clash : false ≡ true = sym a ∙ e in cc

-- a provider is in a list, where it is no lack that it isn't
listed : (list : List Who) (who : Who) → ((¬ Contains list who) → ⊥) → Contains list who
listed list who never = by (has list who) refl
  where
    by : (b : Bool) → has list who ≡ b → Contains list who
    by true is = (has_members list who).0 is
    by false is = absurd (never (λ there. unlike (has list who) is
        ((has_members list who).1 there)))

-- a verdict that refuses exactly where one would lack a provider passes exactly where all is read
module _ (Stored : (resource : List ℕ) → Who → Type 0) (Other : List ConfigEntry → Type 0)
    (rows : List ConfigEntry) (verdict : Verdict)
    (refuses : (verdict ≢ Pass) ↔ LacksProvider Stored Other rows) where
  pass_reads : verdict ≡ Pass → ReadsAll Stored Other rows
  pass_reads pass = record {
    stored = λ resource who stored. listed (list_of rows resource) who
        (λ lacks. refuses.1 (inl (record {
          resource = resource;
          who = who;
          stored = stored;
          lacks = lacks;
        })) pass);
    written = λ other class live who writes. listed (class_list rows class) who
        (λ lacks. refuses.1 (inr (
          other,
          live,
          inl (record {
            class = class;
            who = who;
            writes = writes;
            lacks = lacks;
          }),
        )) pass);
    are_read = λ other class live who writes. listed (class_list other class) who
        (λ lacks. refuses.1 (inr (
          other,
          live,
          inr (record {
            class = class;
            who = who;
            writes = writes;
            lacks = lacks;
          }),
        )) pass);
  }

  none_lacks : ReadsAll Stored Other rows → LacksProvider Stored Other rows → ⊥
  none_lacks r (inl s) = s.lacks (r.stored s.resource s.who s.stored)
  none_lacks r (inr (other, live, inl w)) =
      w.lacks (r.written other w.class live w.who w.writes)
  none_lacks r (inr (other, live, inr w)) =
      w.lacks (r.are_read other w.class live w.who w.writes)

  reads_pass : ReadsAll Stored Other rows → verdict ≡ Pass
  reads_pass r = passes_unless verdict (λ refused. none_lacks r (refuses.0 refused))

pub pass_means_read : PassMeansRead
pass_means_read o history replica rows l =
    let st : State = state_of o history in
    let verdict = verdict_on st replica rows in
    let refuses = verdict_refuses_exactly o history replica rows l in (
      pass_reads (IsStoredUnder st) (AreBeside st replica) rows verdict refuses,
      reads_pass (IsStoredUnder st) (AreBeside st replica) rows verdict refuses,
    )

pub judge_means_read : JudgeMeansRead
judge_means_read needs replicas replica rows =
    let verdict = verdict_of needs (opening_generations 0 replicas) replica rows in
    let refuses = judges_replicas.refuses needs replicas replica rows in (
      pass_reads (IsNeeded needs) (AreOfAnother replicas replica) rows verdict refuses,
      reads_pass (IsNeeded needs) (AreOfAnother replicas replica) rows verdict refuses,
    )

-- ---- what is done

module _ (o : Opening) (history : List Entry) (l : IsLegal o history) where
  done_by : (held : Option ℕ) (did : Did) (gave : Gave)
      → IsAnswer did gave (state_of o history) held → IsDone gave
      → ReadsWhatIsThere did (state_of o history)
  done_by held (Reload replica p expect) (Reloaded number) a done =
      (pass_means_read o history replica p.rows l).0 a.1.0
  done_by held (Reload replica p expect) (Joined number) a done = absurd a
  done_by held (Join replica p) (Joined number) a done =
      (pass_means_read o history replica p.rows l).0 a.1.0
  done_by held (Join replica p) (Reloaded number) a done = absurd a
  done_by held did (Adopted number) a done = absurd done
  done_by held did (Found revision) a done = absurd done
  done_by held did Absent a done = absurd done
  done_by held did (Written revision) a done = absurd done
  done_by held did (Changed revision) a done = absurd done
  done_by held did Released a done = absurd done
  done_by held did (Refused verdict) a done = absurd done
  done_by held did (Moved number) a done = absurd done
  done_by held did (Present number) a done = absurd done
  done_by held did (Departed number) a done = absurd done
  done_by held did (Gone replica) a done = absurd done
  done_by held did StoreFailed a done = absurd done
  done_by held did (StoreFull needed) a done = absurd done
  done_by held did Nothing a done = absurd done
  done_by held (Adopt replica) gave a done = tt
  done_by held (Fetch path) gave a done = tt
  done_by held (After path) gave a done = tt
  done_by held (Put path resource plain) gave a done = tt
  done_by held (Delete path) gave a done = tt
  done_by held (Replace path revision) gave a done = tt
  done_by held LetGo gave a done = tt
  done_by held (Leave replica) gave a done = tt

pub done_means_read : DoneMeansRead
done_means_read o history e l done =
    let n = next_step o history e l in
    done_by o history n.before e.line.held e.line.did e.line.gave n.step.answer done

-- ---- what is put meanwhile

-- a need that is set is there
pub set_there : (needs : List Need) (need : Need) → Contains (set_need needs need) need
set_there needs need = need_there (set_need needs need) need.path need
    (set_at needs need need.path
    ∙ ap (λ b. if b then Some need else need_at needs need.path) (own_path need.path))

module _ (o : Opening) (st : State) (e : Entry) (path resource plain : List ℕ) (revision : ℕ)
    (p : Publication) (s : IsStep o st e) (did_is : e.line.did ≡ Put path resource plain)
    (gave_is : e.line.gave ≡ Written revision) (published_is : e.published ≡ Some p) where
  row_put : (row : Row) × (e.row ≡ Some row) × (row.path ≡ path) × (row.resource ≡ resource)
  row_put =
      let w = subst (λ gave. Writes gave o st e) gave_is s.writes in
      let would = subst (λ did. WouldWrite o.format did st.rows e.published w.0) did_is w.1 in
      let sealed = would.2 in
      let row : Row = record {
        path = path;
        resource = resource;
        revision = revision;
        stored = sealed.stored;
        check = written_check o.format would.0 resource;
      } in (
        row,
        w.3 ∙ ap (λ (r : LogRow). row_of revision r.path r.change) sealed.row_is,
        refl,
        refl,
      )

  abbrev Need_put : Need
  Need_put = record { path = path; resource = resource; who = writer_at p resource }

  need_put : Contains (after st e).needs Need_put
  need_put =
      let r = row_put in
      let needs = ap (λ gave. needs_after gave e.line.did e.published e.row st.needs) gave_is
      ∙ ap (λ did. need_written did e.published e.row st.needs) did_is
      ∙ ap (λ own. put_need own e.row st.needs) published_is
      ∙ ap (λ own. put_need (Some p) own st.needs) r.1 in
      let same : ◌≡◌ {A = Need} (record {
        path = (r.0).path;
        resource = (r.0).resource;
        who = writer_at p (r.0).resource;
      }) Need_put =
      (λ i. record {
        path = r.2 i;
        resource = r.3 i;
        who = writer_at p (r.3 i);
      }) in
      subst (λ x. Contains x Need_put) (sym needs)
      (subst (λ (x : Need). Contains (set_need st.needs x) Need_put) (sym same)
      (set_there st.needs Need_put))

pub pass_is_of_its_moment : PassIsOfItsMoment
pass_is_of_its_moment o history e path resource plain revision p replica rows l did_is gave_is
    published_is unlisted pass =
    let n = next_step o history e l in
    let st : State = state_of o history in
    let next : State = state_of o (history ++ e ∷ []) in
    let there = subst (λ (s : State). Contains s.needs
    (record { path = path; resource = resource; who = writer_at p resource }))
    (sym (state_more (start_of o) history e))
    (need_put o st e path resource plain revision p n.step did_is gave_is published_is) in
    unlisted ((passed next.needs (board_generations next) replica rows pass).stored
    (record { path = path; resource = resource; who = writer_at p resource }) there)
