-- What an entry leaves of a path's live row: it stays, or the entry wrote there.
use Rattle.std.proofs.Common.{◌≡◌, ℕ, Bool, true, false, List, [], ◌∷◌, ◌++◌, Option, Some, refl, sym, ap, subst, ◌∙◌, ◌⊎◌, inl, inr, append-nil, append_assoc}
use Rattle.std.specs.Str.{bytes_eq}
use Rattle.kr_store.specs.declared.rows.LogRow.{LogRow}
use Rattle.kr_store.specs.declared.rows.Row.{Row}
use Rattle.kr_store.specs.Rows.{live, row_of, put_of, delete_of}
use Rattle.kr_config.specs.Kept.{ConfigEntry}
use Rattle.kr_provider.specs.Publication.{Publication}
use Rattle.kr_opening.specs.Checks.{written_check}
use Rattle.kr_rollout.specs.declared.line.Did.{Did}
use Rattle.kr_rollout.specs.declared.line.Did.TheVariants.{Put, Delete, Replace}
use Rattle.kr_rollout.specs.declared.line.Gave.{Gave}
use Rattle.kr_rollout.specs.declared.line.Gave.TheVariants.{Adopted, Found, Absent, Written, Changed, Released, Reloaded, Joined, Refused, Moved, Present, Departed, Gone, StoreFailed, StoreFull, Nothing}
use Rattle.kr_rollout.specs.declared.opening.Entry.{Entry}
use Rattle.kr_rollout.specs.declared.opening.Opening.{Opening}
use Rattle.kr_rollout.specs.Openings.{start_of}
use Rattle.kr_rollout.specs.Histories.{state_of, IsLegal}
use Rattle.kr_rollout.specs.States.{State}
use Rattle.kr_rollout.specs.Steps.{IsStep, after, put_row}
use Rattle.kr_rollout.specs.Written.{IsWritten, path_written}
use Rattle.kr_rollout.proofs.Appending.{state_more}
use Rattle.kr_history.proofs.ContentSteps.{live_elsewhere, one_path}
use Rattle.kr_history.proofs.Effects.{entry_with}
use Rattle.kr_history.proofs.Judging.{next_step}
use Rattle.kr_plan_laws.specs.Settled.{IsSettledAt, LiveWrite, AllWrite}
use Rattle.kr_plan_laws.proofs.Runs.{legal_front}
use Rattle.kr_plan_laws.proofs.Settling.{settled_stays, writers_stay}
use Rattle.kr_plan_laws.proofs.Writing.{writing_settles}

-- ---- one entry

-- it wrote at the path
abbrev pub WroteAt : Did → Gave → List ℕ → Type 0
WroteAt did gave path = IsWritten gave × (path_written did ≡ path)

module _ (o : Opening) (st : State) (seat : ℕ) (held : Option ℕ) (faults : ℕ)
    (published : Option Publication) (row replaced : Option Row) (path : List ℕ) where
  abbrev entry : Did → Gave → Entry
  entry did gave = entry_with seat held faults published row replaced did gave

  abbrev Stays : List LogRow → Type 0
  Stays more = live (st.rows ++ more) path ≡ live st.rows path

  none_more : Stays []
  none_more = ap (λ rows. live rows path) (append-nil st.rows)

  row_elsewhere : (own : List ℕ) (next : LogRow) (Wrote : Type 0) → next.path ≡ own
      → (own ≡ path → Wrote) → Stays (next ∷ []) ⊎ Wrote
  row_elsewhere own next Wrote is wrote = by (bytes_eq next.path path) refl
    where
      by : (b : Bool) → bytes_eq next.path path ≡ b → Stays (next ∷ []) ⊎ Wrote
      by true same = inr (wrote (sym is ∙ one_path next.path path same))
      by false other = inl (live_elsewhere st.rows next path other)

  value_elsewhere : (own : List ℕ) (next : Row) (Wrote : Type 0) → row ≡ Some next
      → next.path ≡ own → (own ≡ path → Wrote) → Stays (put_row row) ⊎ Wrote
  value_elsewhere own next Wrote row_is is wrote =
      subst (λ x. Stays (put_row x) ⊎ Wrote) (sym row_is)
      (row_elsewhere own (put_of next.path next.resource next.stored next.check) Wrote is wrote)

  rows_by : (did : Did) (gave : Gave) → IsStep o st (entry did gave)
      → (live (after st (entry did gave)).rows path ≡ live st.rows path) ⊎ WroteAt did gave path
  rows_by (Put own resource plain) (Written revision) s =
      let sealed = s.writes.1.2 in
      value_elsewhere own (record {
        path = own;
        resource = resource;
        revision = revision;
        stored = sealed.stored;
        check = written_check o.format s.writes.1.0 resource;
      }) (WroteAt (Put own resource plain) (Written revision) path)
      (s.writes.3 ∙ ap (λ (r : LogRow). row_of revision r.path r.change) sealed.row_is) refl
      (λ same. (tt, same))
  rows_by (Replace own from) (Written revision) s =
      let old = s.writes.1.1 in
      let sealed = s.writes.1.5.sealed in
      value_elsewhere own (record {
        path = own;
        resource = old.resource;
        revision = revision;
        stored = sealed.stored;
        check = written_check o.format s.writes.1.0 old.resource;
      }) (WroteAt (Replace own from) (Written revision) path)
      (s.writes.3 ∙ ap (λ (r : LogRow). row_of revision r.path r.change) sealed.row_is) refl
      (λ same. (tt, same))
  rows_by (Delete own) (Written revision) s = row_elsewhere own (delete_of own)
      (WroteAt (Delete own) (Written revision) path) refl (λ same. (tt, same))
  rows_by did (Adopted number) s = inl none_more
  rows_by did (Found revision) s = inl none_more
  rows_by did Absent s = inl none_more
  rows_by did (Changed revision) s = inl none_more
  rows_by did Released s = inl none_more
  rows_by did (Reloaded number) s = inl none_more
  rows_by did (Joined number) s = inl none_more
  rows_by did (Refused verdict) s = inl none_more
  rows_by did (Moved number) s = inl none_more
  rows_by did (Present number) s = inl none_more
  rows_by did (Departed number) s = inl none_more
  rows_by did (Gone replica) s = inl none_more
  rows_by did StoreFailed s = inl none_more
  rows_by did (StoreFull needed) s = inl none_more
  rows_by did Nothing s = inl none_more
  rows_by other another s = absurd s.answer

pub rows_step : (o : Opening) (st : State) (e : Entry) (path : List ℕ) → IsStep o st e
    → (live (after st e).rows path ≡ live st.rows path) ⊎ WroteAt e.line.did e.line.gave path
rows_step o st e path s = rows_by o st e.line.seat e.line.held e.line.faults e.published e.row
    e.replaced path e.line.did e.line.gave s

-- ---- many: the row stays, or the path is settled

pub stays_or_settled : (o : Opening) (history more : List Entry) (to : List ConfigEntry)
    (path : List ℕ) → IsLegal o (history ++ more) → LiveWrite to (state_of o history)
    → AllWrite to more
    → (live (state_of o (history ++ more)).rows path ≡ live (state_of o history).rows path)
    ⊎ IsSettledAt to (state_of o (history ++ more)) path
stays_or_settled o history [] to path l write all =
    inl (ap (λ h. live (state_of o h).rows path) (append-nil history))
stays_or_settled o history (e ∷ more) to path l write all =
    let next : List Entry = history ++ e ∷ [] in
    let same : next ++ more ≡ history ++ e ∷ more = append_assoc history (e ∷ []) more in
    let whole = subst (IsLegal o) (sym same) l in
    let here = legal_front o next more whole in
    let n = next_step o history e here in
    let is = state_more (start_of o) history e in
    let writes = writers_stay o history (e ∷ []) to here write (all.0, tt) in
    let later = stays_or_settled o next more to path whole writes all.1 in
    subst (λ h. (live (state_of o h).rows path ≡ live (state_of o history).rows path)
    ⊎ IsSettledAt to (state_of o h) path) same
    (elim (rows_step o (state_of o history) e path n.step) [
      | inl stays ↦ elim later [
        | inl kept ↦ inl (kept ∙ ap (λ (s : State). live s.rows path) is ∙ stays)
        | inr settled ↦ inr settled
      ]
      | inr wrote ↦ inr (settled_stays o next more to path whole writes all.1
          (subst (IsSettledAt to (state_of o next)) wrote.1
          (writing_settles o history e to here write wrote.0)))
    ])
