-- What a Fetch or an After finds is live, and so reads as the content.
use Rattle.std.proofs.Common.{◌≡◌, ℕ, List, ◌++◌, Option, Some, refl, sym, ap, subst, ◌∙◌, append-nil}
use Rattle.kr_store.specs.declared.rows.LogRow.{LogRow}
use Rattle.kr_store.specs.declared.rows.Row as stored_row
use Rattle.kr_store.specs.Rows.{live, row_of, put_at}
use Rattle.kr_store.proofs.Places.{live_at_revision}
use Rattle.std.proofs.lemmas.Option.{same_Some}
use Rattle.kr_rollout.specs.declared.line.Did.{Did}
use Rattle.kr_rollout.specs.declared.line.Did.TheVariants.{Fetch, After, Replace}
use Rattle.kr_provider.specs.Publication.{Publication}
use Rattle.kr_rollout.specs.declared.line.Gave.{Gave}
use Rattle.kr_rollout.specs.declared.line.Gave.TheVariants.{Found, Absent, Written}
use Rattle.kr_rollout.specs.declared.opening.Entry.{Entry}
use Rattle.kr_rollout.specs.declared.opening.Opening.{Opening}
use Rattle.kr_opening.specs.Checks.{written_check}
use Rattle.kr_rollout.specs.Entries.{revision_in}
use Rattle.kr_rollout.specs.States.{State}
use Rattle.kr_rollout.specs.Answers.{IsAnswer}
use Rattle.kr_rollout.specs.Steps.{IsStep, new_rows, put_row}
use Rattle.kr_rollout.specs.Histories.{state_of}
use Rattle.kr_history.specs.ContentLaws.{IsRowFor, FoundIsLive, FoundReads, AbsentIsNothing, ShowsReplaced, ReplacedIsLive}
use Rattle.kr_history.proofs.Judging.{next_step}
use Rattle.kr_history.proofs.Effects.{entry_with, replaced_row}
use Rattle.kr_history.proofs.ContentSteps.{nothing_is_absent, put_row_at}
use Rattle.kr_history.proofs.ContentReads.{live_reads}

-- the row is the one that the event finds
record IsFound (did : Did) (rows : List LogRow) (row : Option stored_row.Row) : Type 0 where
  found : stored_row.Row
  is : row ≡ Some found
  fits : IsRowFor did rows found

module _ (st : State) (held : Option ℕ) (row : Option stored_row.Row) (revision : ℕ)
    (row_is : row ≡ put_at st.rows revision) where
  at_revision : (path : List ℕ) (own : stored_row.Row) → live st.rows path ≡ Some own
      → own.revision ≡ revision → row ≡ Some own
  at_revision path own is at = row_is ∙ ap (put_at st.rows) (sym at)
      ∙ (live_at_revision st.rows path own is).0

  found_by : (did : Did) → IsAnswer did (Found revision) st held → IsFound did st.rows row
  found_by (Fetch path) a = record {
    found = a.1;
    is = at_revision path a.1 a.2 a.3;
    fits = (a.2, (live_at_revision st.rows path a.1 a.2).1);
  }
  found_by (After path) a = record {
    found = a.1;
    is = at_revision a.1.path a.1 a.2.1 a.3;
    fits = a.2;
  }
  found_by other a = absurd a

found_at : (o : Opening) (st : State) (e : Entry) (revision : ℕ) → IsStep o st e
    → e.line.gave ≡ Found revision → IsFound e.line.did st.rows e.row
found_at o st e revision s is =
    found_by st e.line.held e.row revision
    (ap (λ (x : Entry). x.row) s.payload
    ∙ (λ i. put_at (st.rows ++ new_rows (is i) e.line.did e.row) (revision_in (is i)))
    ∙ ap (λ rows. put_at rows revision) (append-nil st.rows))
    e.line.did (subst (λ gave. IsAnswer e.line.did gave st e.line.held) is s.answer)

pub found_is_live : FoundIsLive
found_is_live o history e revision l is =
    let n = next_step o history e l in
    let f = found_at o (state_of o history) e revision n.step is in (f.found, f.is, f.fits)

-- it is live at its own path
found_path : (did : Did) (rows : List LogRow) (row : stored_row.Row) → IsRowFor did rows row
    → live rows row.path ≡ Some row
found_path (Fetch path) rows row f = ap (live rows) f.1 ∙ f.0
found_path (After path) rows row f = f.1
found_path other rows row f = absurd f

pub found_reads : FoundReads
found_reads opens o history e revision row rows reading l honest is row_is lives =
    let n = next_step o history e l in
    let f = found_at o (state_of o history) e revision n.step is in
    let same = same_Some f.found row (sym f.is ∙ row_is) in
    live_reads opens o history row.path row rows reading n.before honest
    (subst (λ (x : stored_row.Row). live (state_of o history).rows x.path ≡ Some x) same
    (found_path e.line.did (state_of o history).rows f.found f.fits))
    lives

pub absent_is_nothing : AbsentIsNothing
absent_is_nothing opens o history e path l did_is gave_is =
    let n = next_step o history e l in
    let st = state_of o history in
    let a = subst (λ did. IsAnswer did Absent st e.line.held) did_is
    (subst (λ gave. IsAnswer e.line.did gave st e.line.held) gave_is n.step.answer) in
    (nothing_is_absent opens o history path n.before).1 a.1

-- ---- what is replaced

module _ (o : Opening) (st : State) (seat : ℕ) (held : Option ℕ) (faults : ℕ)
    (published : Option Publication) (row replaced : Option stored_row.Row) where
  abbrev entry : Did → Gave → Entry
  entry did gave = entry_with seat held faults published row replaced did gave

  replaced_shown : (path : List ℕ) (from revision : ℕ)
      → IsStep o st (entry (Replace path from) (Written revision))
      → ShowsReplaced st.rows path from (entry (Replace path from) (Written revision))
  replaced_shown path from revision s =
      let w = s.writes in
      let old = w.1.1 in
      let check = written_check o.format w.1.0 old.resource in
      record {
        p = w.1.0;
        old = old;
        new = put_row_at revision path old.resource w.1.5.sealed.stored check;
        held = w.1.2;
        replaced = ap (λ (e : Entry). e.replaced) s.payload
            ∙ replaced_row st.rows (put_row row) path from old w.1.3 w.1.4;
        written = w.3
            ∙ ap (λ (r : LogRow). row_of revision r.path r.change) w.1.5.sealed.row_is;
        was_live = w.1.3;
        revision_is = w.1.4;
        resource_is = refl;
      }

pub replaced_is_live : ReplacedIsLive
replaced_is_live o history e path from revision l did_is gave_is =
    let n = next_step o history e l in
    let line = e.line in
    let same : ◌≡◌ {A = Entry} e (entry o (state_of o history) line.seat line.held line.faults
    e.published e.row e.replaced (Replace path from) (Written revision)) =
    (λ i. record {
      line = record {
        seat = line.seat;
        did = did_is i;
        held = line.held;
        gave = gave_is i;
        faults = line.faults;
      };
      published = e.published;
      row = e.row;
      replaced = e.replaced;
    }) in
    subst (ShowsReplaced (state_of o history).rows path from) (sym same)
    (replaced_shown o (state_of o history) line.seat line.held line.faults e.published e.row
    e.replaced path from revision (subst (IsStep o (state_of o history)) same n.step))
