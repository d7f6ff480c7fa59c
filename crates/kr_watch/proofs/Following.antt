-- A watch that was handed a history is handed one more entry.
use Rattle.std.proofs.Common.{◌≡◌, ℕ, ◌+◌, Bool, true, false, List, [], ◌∷◌, ◌++◌, length, Option, None, Some, refl, sym, ap, ◌∙◌, subst, arith, append-nil}
use Rattle.std.specs.Prelude.{if◌then◌else◌}
use Rattle.std.specs.Option.{option_map, option_to_list}
use Rattle.std.specs.Str.{bytes_eq}
use Rattle.kr_store.specs.Rows.{live, put_of, delete_of, row_of}
use Rattle.kr_store.specs.declared.format.Check.{Check}
use Rattle.kr_store.specs.declared.rows.LogRow.{LogRow}
use Rattle.kr_store.specs.declared.rows.Row.{Row}
use Rattle.kr_provider.specs.Publication.{Publication}
use Rattle.kr_opening.specs.Checks.{written_check}
use Rattle.kr_rollout.specs.Histories.{IsLegal, IsRun, state_from, state_of}
use Rattle.kr_rollout.specs.Openings.{start_of}
use Rattle.kr_rollout.specs.States.{State}
use Rattle.kr_rollout.specs.Steps.{IsStep, after, put_row}
use Rattle.kr_rollout.specs.declared.line.Did.{Did}
use Rattle.kr_rollout.specs.declared.line.Did.TheVariants.{Put, Delete, Replace}
use Rattle.kr_rollout.specs.declared.line.Gave.{Gave}
use Rattle.kr_rollout.specs.declared.line.Gave.TheVariants.{Adopted, Found, Absent, Written, Changed, Released, Reloaded, Joined, Refused, Moved, Present, Departed, Gone, StoreFailed, StoreFull, Nothing}
use Rattle.kr_rollout.specs.declared.line.Line.{Line}
use Rattle.kr_rollout.specs.declared.opening.Entry.{Entry}
use Rattle.kr_rollout.specs.declared.opening.Opening.{Opening}
use Rattle.kr_rollout.proofs.Appending.{state_more}
use Rattle.kr_history.specs.Contents.{puts, deletes, change_at, last_change}
use Rattle.kr_history.proofs.ContentSteps.{change_kept, change_made, live_deleted, live_elsewhere, live_put, put_row_at}
use Rattle.kr_history.proofs.Effects.{entry_with}
use Rattle.kr_watch.specs.declared.change.ObjectChange.{ObjectChange}
use Rattle.kr_watch.specs.declared.item.Item.{Item}
use Rattle.kr_watch.specs.Changes.{told_change, changes_in, earlier_ones, last_ones, revision_after}
use Rattle.kr_watch.specs.Shown.{IsItemFor, item_at, plain_at, plain_then}
use Rattle.kr_watch.specs.Watches.{Follows, GoesOn, WatchState}
use Rattle.kr_watch.specs.Noting.{Notes, NotesItem, at_revision}
use Rattle.kr_watch.proofs.KeptChanges.{dropped_next, kept_next, kept_stays, mapped_more, none_dropped, revision_append, kept_length}
use Rattle.kr_watch.proofs.Orders.{same_path}

-- ---- the last step of a history

run_last : (o : Opening) (st : State) (history : List Entry) (e : Entry)
    → IsRun o st (history ++ e ∷ []) → IsStep o (state_from st history) e
run_last o st [] e r = r.0
run_last o st (first ∷ history) e r = run_last o (after st first) history e r.1

pub last_step : (o : Opening) (history : List Entry) (e : Entry) → IsLegal o (history ++ e ∷ [])
    → IsStep o (state_of o history) e
last_step o history e l = run_last o (start_of o) history e l.runs

-- ---- what is shown at a path

abbrev with_plain : (path resource : List ℕ) → ℕ → Option (List ℕ) → Item
with_plain path resource revision plain = record {
  path = path;
  resource = resource;
  revision = revision;
  plain = plain;
}

module _ (first : List Item) (o : Opening) (history : List Entry) (e : Entry) (rows : List LogRow)
    (old new : List Item)
    (shown : (path : List ℕ) → IsItemFor path (live rows path)
    (plain_then (last_change history path) (plain_at first path)) (item_at old path)) where
  abbrev IsNow : List LogRow → List ℕ → Type 0
  IsNow next path = IsItemFor path (live next path)
      (plain_then (last_change (history ++ e ∷ []) path) (plain_at first path))
      (item_at new path)

  -- it is as it was
  stays : (next : List LogRow) (path : List ℕ) → change_at e.line.gave e.line.did path ≡ None
      → live next path ≡ live rows path → item_at new path ≡ item_at old path → IsNow next path
  stays next path quiet same item =
      subst (λ i. IsItemFor path (live next path)
      (plain_then (last_change (history ++ e ∷ []) path) (plain_at first path)) i) (sym item)
      (subst (λ c. IsItemFor path (live next path) (plain_then c (plain_at first path))
      (item_at old path)) (sym (change_kept history e path quiet))
      (subst (λ r. IsItemFor path r (plain_then (last_change history path)
      (plain_at first path)) (item_at old path)) (sym same) (shown path)))

  -- data were put
  put_now : (next : List LogRow) (path plain : List ℕ) (row : Row)
      → change_at e.line.gave e.line.did path ≡ Some (puts plain) → live next path ≡ Some row
      → item_at new path ≡ Some (record {
        path = path;
        resource = row.resource;
        revision = row.revision;
        plain = Some plain;
      }) → IsNow next path
  put_now next path plain row change is item =
      subst (λ r. IsItemFor path r (plain_then (last_change (history ++ e ∷ []) path)
      (plain_at first path)) (item_at new path)) (sym is)
      (subst (λ c. IsItemFor path (Some row) (plain_then c (plain_at first path))
      (item_at new path)) (sym (change_made history e path (puts plain) change)) item)

  -- what was there was deleted
  deleted_now : (next : List LogRow) (path : List ℕ) → live next path ≡ None
      → item_at new path ≡ None → IsNow next path
  deleted_now next path is item =
      subst (λ r. IsItemFor path r (plain_then (last_change (history ++ e ∷ []) path)
      (plain_at first path)) (item_at new path)) (sym is) item

  -- the row was replaced by another one for the same data
  replaced_now : (next : List LogRow) (path : List ℕ) (was row : Row)
      → change_at e.line.gave e.line.did path ≡ None → live rows path ≡ Some was
      → live next path ≡ Some row → row.resource ≡ was.resource
      → item_at new path ≡ option_map (at_revision row.revision) (item_at old path)
      → IsNow next path
  replaced_now next path was row quiet live_was is resource item =
      let plain = plain_then (last_change history path) (plain_at first path) in
      let before : item_at old path ≡ Some (record {
        path = path;
        resource = was.resource;
        revision = was.revision;
        plain = plain;
      }) = subst (λ r. IsItemFor path r plain (item_at old path)) live_was (shown path) in
      subst (λ r. IsItemFor path r (plain_then (last_change (history ++ e ∷ []) path)
      (plain_at first path)) (item_at new path)) (sym is)
      (subst (λ c. IsItemFor path (Some row) (plain_then c (plain_at first path))
      (item_at new path)) (sym (change_kept history e path quiet))
      (item ∙ ap (option_map (at_revision row.revision)) before
      ∙ ap (λ (own : List ℕ). Some (with_plain path own row.revision plain)) (sym resource)))

-- ---- by what the entry did

module _ (first : List Item) (o : Opening) (history : List Entry) (st : State) (seat : ℕ)
    (held : Option ℕ) (faults : ℕ) (published : Option Publication) (row replaced : Option Row)
    (old new : List Item)
    (shown : (path : List ℕ) → IsItemFor path (live st.rows path)
    (plain_then (last_change history path) (plain_at first path)) (item_at old path)) where
  abbrev entry : Did → Gave → Entry
  entry did gave = entry_with seat held faults published row replaced did gave

  abbrev Shows : Did → Gave → Type 0
  Shows did gave = (path : List ℕ) → IsItemFor path (live (after st (entry did gave)).rows path)
      (plain_then (last_change (history ++ entry did gave ∷ []) path) (plain_at first path))
      (item_at new path)

  -- no row was written
  quiet : (did : Did) (gave : Gave) → (after st (entry did gave)).rows ≡ st.rows ++ []
      → ((path : List ℕ) → change_at gave did path ≡ None) → new ≡ old → Shows did gave
  quiet did gave rows none same path =
      stays first o history (entry did gave) st.rows old new shown
      (after st (entry did gave)).rows path (none path)
      (ap (λ r. live r path) (rows ∙ append-nil st.rows)) (ap (λ l. item_at l path) same)

  -- a row was written at this path, and at another one all is as it was
  elsewhere : (did : Did) (revision : ℕ) (written : LogRow) (path : List ℕ)
      → (after st (entry did (Written revision))).rows ≡ st.rows ++ written ∷ []
      → bytes_eq written.path path ≡ false
      → change_at (Written revision) did path ≡ None
      → item_at new path ≡ item_at old path
      → IsItemFor path (live (after st (entry did (Written revision))).rows path)
      (plain_then (last_change (history ++ entry did (Written revision) ∷ []) path)
      (plain_at first path)) (item_at new path)
  elsewhere did revision written path rows apart none same =
      stays first o history (entry did (Written revision)) st.rows old new shown
      (after st (entry did (Written revision))).rows path none
      (ap (λ r. live r path) rows ∙ live_elsewhere st.rows written path apart) same

  put_shows : (path resource plain : List ℕ) (revision : ℕ)
      → IsStep o st (entry (Put path resource plain) (Written revision))
      → NotesItem (Written revision) (Put path resource plain) old new
      → Shows (Put path resource plain) (Written revision)
  put_shows path resource plain revision s notes other =
      let w = s.writes in
      let p = w.1.0 in
      let sealed = w.1.2 in
      let check = written_check o.format p resource in
      let row_is = w.3 ∙ ap (λ (r : LogRow). row_of revision r.path r.change) sealed.row_is in
      let rows = ap (λ r. st.rows ++ put_row r) row_is in
      by sealed.stored check rows s.answer.1 (bytes_eq path other) refl
    where
      by : (stored : List ℕ) (check : Option Check)
          → (after st (entry (Put path resource plain) (Written revision))).rows
          ≡ st.rows ++ put_of path resource stored check ∷ []
          → revision ≡ length st.rows + 1 → (b : Bool) → bytes_eq path other ≡ b
          → IsItemFor other (live (after st (entry (Put path resource plain)
          (Written revision))).rows other) (plain_then (last_change (history
          ++ entry (Put path resource plain) (Written revision) ∷ []) other)
          (plain_at first other)) (item_at new other)
      by stored check rows number true same =
          let own : item_at new other ≡ Some (with_plain path resource revision (Some plain)) =
          notes other ∙ ap (λ b. if b then Some (with_plain path resource revision
          (Some plain)) else item_at old other) same in
          let count : revision ≡ 1 + length st.rows = omega (arith, number) in
          put_now first o history (entry (Put path resource plain) (Written revision)) st.rows
          old new shown
          (after st (entry (Put path resource plain) (Written revision))).rows other plain
          (put_row_at (1 + length st.rows) path resource stored check)
          (ap (λ b. if b then Some (puts plain) else None) same)
          (ap (λ r. live r other) rows ∙ live_put st.rows path resource stored other check same)
          (own ∙ (λ i. Some (with_plain (same_path path other same i) resource (count i)
          (Some plain))))
      by stored check rows number false different =
          elsewhere (Put path resource plain) revision (put_of path resource stored check) other
          rows different (ap (λ b. if b then Some (puts plain) else None) different)
          (notes other ∙ ap (λ b. if b then Some (with_plain path resource revision
          (Some plain)) else item_at old other) different)

  delete_shows : (path : List ℕ) (revision : ℕ) → NotesItem (Written revision) (Delete path) old new
      → Shows (Delete path) (Written revision)
  delete_shows path revision notes other = by (bytes_eq path other) refl
    where
      by : (b : Bool) → bytes_eq path other ≡ b
          → IsItemFor other (live (after st (entry (Delete path) (Written revision))).rows other)
          (plain_then (last_change (history ++ entry (Delete path) (Written revision) ∷ []) other)
          (plain_at first other)) (item_at new other)
      by true same = deleted_now first o history (entry (Delete path) (Written revision)) st.rows
          old new shown (after st (entry (Delete path) (Written revision))).rows other
          (live_deleted st.rows path other same)
          (notes other ∙ ap (λ b. if b then None else item_at old other) same)
      by false different = elsewhere (Delete path) revision (delete_of path) other refl different
          (ap (λ b. if b then Some deletes else None) different)
          (notes other ∙ ap (λ b. if b then None else item_at old other) different)

  replace_shows : (path : List ℕ) (from revision : ℕ)
      → IsStep o st (entry (Replace path from) (Written revision))
      → NotesItem (Written revision) (Replace path from) old new
      → Shows (Replace path from) (Written revision)
  replace_shows path from revision s notes other =
      let w = s.writes in
      let p = w.1.0 in
      let was = w.1.1 in
      let sealed = w.1.5.sealed in
      let check = written_check o.format p was.resource in
      let row_is = w.3 ∙ ap (λ (r : LogRow). row_of revision r.path r.change) sealed.row_is in
      let rows = ap (λ r. st.rows ++ put_row r) row_is in
      by was w.1.3 sealed.stored check rows s.answer.2 (bytes_eq path other) refl
    where
      by : (was : Row) → live st.rows path ≡ Some was → (stored : List ℕ) (check : Option Check)
          → (after st (entry (Replace path from) (Written revision))).rows
          ≡ st.rows ++ put_of path was.resource stored check ∷ []
          → revision ≡ length st.rows + 1 → (b : Bool) → bytes_eq path other ≡ b
          → IsItemFor other (live (after st (entry (Replace path from)
          (Written revision))).rows other) (plain_then (last_change (history
          ++ entry (Replace path from) (Written revision) ∷ []) other)
          (plain_at first other)) (item_at new other)
      by was is stored check rows number true same =
          let count : revision ≡ 1 + length st.rows = omega (arith, number) in
          let here = same_path path other same in
          replaced_now first o history (entry (Replace path from) (Written revision)) st.rows
          old new shown (after st (entry (Replace path from) (Written revision))).rows other was
          (put_row_at (1 + length st.rows) path was.resource stored check) refl
          (ap (live st.rows) (sym here) ∙ is)
          (ap (λ r. live r other) rows
          ∙ live_put st.rows path was.resource stored other check same) refl
          (notes other ∙ ap (λ b. if b
          then option_map (at_revision revision) (item_at old path)
          else item_at old other) same
          ∙ (λ i. option_map (at_revision (count i)) (item_at old (here i))))
      by was is stored check rows number false different =
          elsewhere (Replace path from) revision (put_of path was.resource stored check) other
          rows different refl
          (notes other ∙ ap (λ b. if b
          then option_map (at_revision revision) (item_at old path)
          else item_at old other) different)

  shows : (did : Did) (gave : Gave) → IsStep o st (entry did gave) → NotesItem gave did old new
      → Shows did gave
  shows (Put path resource plain) (Written revision) s n =
      put_shows path resource plain revision s n
  shows (Delete path) (Written revision) s n = delete_shows path revision n
  shows (Replace path from) (Written revision) s n = replace_shows path from revision s n
  shows did (Adopted number) s n = quiet did (Adopted number) refl (λ path. refl) n
  shows did (Found revision) s n = quiet did (Found revision) refl (λ path. refl) n
  shows did Absent s n = quiet did Absent refl (λ path. refl) n
  shows did (Changed revision) s n = quiet did (Changed revision) refl (λ path. refl) n
  shows did Released s n = quiet did Released refl (λ path. refl) n
  shows did (Reloaded number) s n = quiet did (Reloaded number) refl (λ path. refl) n
  shows did (Joined number) s n = quiet did (Joined number) refl (λ path. refl) n
  shows did (Refused verdict) s n = quiet did (Refused verdict) refl (λ path. refl) n
  shows did (Moved number) s n = quiet did (Moved number) refl (λ path. refl) n
  shows did (Present number) s n = quiet did (Present number) refl (λ path. refl) n
  shows did (Departed number) s n = quiet did (Departed number) refl (λ path. refl) n
  shows did (Gone replica) s n = quiet did (Gone replica) refl (λ path. refl) n
  shows did StoreFailed s n = quiet did StoreFailed refl (λ path. refl) n
  shows did (StoreFull needed) s n = quiet did (StoreFull needed) refl (λ path. refl) n
  shows did Nothing s n = quiet did Nothing refl (λ path. refl) n
  shows other (Written revision) s n = absurd s.answer

-- ---- changes

-- what is kept of a history's changes, with those of one more entry
kept_more : (keep : ℕ) (all kept : List ObjectChange) (change : Option ObjectChange)
    → kept ≡ last_ones keep all
    → last_ones keep (kept ++ option_to_list change)
    ≡ last_ones keep (all ++ option_to_list change)
kept_more keep all kept None e =
    ap (last_ones keep) (append-nil kept ∙ e)
    ∙ kept_stays keep (last_ones keep all) (kept_length keep all)
    ∙ sym (ap (last_ones keep) (append-nil all))
kept_more keep all kept (Some change) e =
    ap (λ l. last_ones keep (l ++ change ∷ [])) e ∙ kept_next keep all change

dropped_more : (keep from oldest : ℕ) (all kept : List ObjectChange) (change : Option ObjectChange)
    → kept ≡ last_ones keep all → oldest ≡ revision_after from (earlier_ones keep all)
    → revision_after oldest (earlier_ones keep (kept ++ option_to_list change))
    ≡ revision_after from (earlier_ones keep (all ++ option_to_list change))
dropped_more keep from oldest all kept None e d =
    ap (λ l. revision_after oldest (earlier_ones keep l)) (append-nil kept ∙ e)
    ∙ ap (revision_after oldest) (none_dropped keep (last_ones keep all) (kept_length keep all))
    ∙ d ∙ sym (ap (λ l. revision_after from (earlier_ones keep l)) (append-nil all))
dropped_more keep from oldest all kept (Some change) e d =
    ap (λ l. revision_after oldest (earlier_ones keep (l ++ change ∷ []))) e
    ∙ ap (λ n. revision_after n (earlier_ones keep (last_ones keep all ++ change ∷ []))) d
    ∙ sym (revision_append from (earlier_ones keep all)
    (earlier_ones keep (last_ones keep all ++ change ∷ [])))
    ∙ ap (revision_after from) (dropped_next keep all change)

-- ---- one more entry

module _ (line : Line) (old new : WatchState) (n : Notes line old new) where
  follows : (first : List Item) (o : Opening) (history : List Entry) (e : Entry)
      → IsLegal o (history ++ e ∷ []) → e.line ≡ line → Follows first o history old
      → Follows first o (history ++ e ∷ []) new
  follows first o history e l same f =
      let st = state_of o history in
      let m : Notes e.line old new = subst (λ x. Notes x old new) (sym same) n in
      let more = mapped_more (λ (x : Entry). told_change x.line.gave x.line.did) history e in
      let change = told_change e.line.gave e.line.did in
      let kept_is = sym m.keep in
      let all_is = sym more in
      record {
        shown = record {
          in_order = m.in_order;
          each = λ path. subst (λ (s : State). IsItemFor path (live s.rows path)
              (plain_then (last_change (history ++ e ∷ []) path) (plain_at first path))
              (item_at new.items path)) (sym (state_more (start_of o) history e))
              (shows first o history st e.line.seat e.line.held e.line.faults e.published e.row
              e.replaced old.items new.items f.shown.each e.line.did e.line.gave
              (last_step o history e l) m.items path);
        };
        kept = m.changes.kept
            ∙ kept_more old.keep (changes_in history) old.changes change f.kept
            ∙ (λ i. last_ones (kept_is i) (all_is i));
        dropped = m.changes.dropped
            ∙ dropped_more old.keep (length o.rows) old.oldest (changes_in history) old.changes
            change f.kept f.dropped
            ∙ (λ i. revision_after (length o.rows) (earlier_ones (kept_is i) (all_is i)));
      }

  pub goes_on : GoesOn line old new
  goes_on = record { keep = n.keep; follows = follows }
