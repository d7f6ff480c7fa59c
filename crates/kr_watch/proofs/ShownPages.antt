-- Behind the empty path stand all items that are shown: no live row has an empty path.
use Rattle.std.proofs.Common.{◌≡◌, ℕ, ◌≤◌, ◌+◌, Bool, true, false, List, [], ◌∷◌, ◌++◌, length, Option, None, Some, refl, sym, ap, ◌∙◌, subst, arith}
use Rattle.std.specs.Prelude.{filter, if◌then◌else◌}
use Rattle.std.specs.Cmp.Lexicographic.{slice_cmp}
use Rattle.std.specs.List.{AllByRecursion}
use Rattle.std.specs.Ordering.{is_lt, nat_cmp}
use Rattle.std.specs.Str.{bytes_eq}
use Rattle.kr_provider.specs.Publication.{Publication}
use Rattle.kr_store.specs.Rows.{AllFollow, latest_from, later, live, live_row, row_of}
use Rattle.kr_store.specs.declared.format.Format.{Format}
use Rattle.kr_store.specs.declared.rows.LogRow.{LogRow}
use Rattle.kr_store.specs.declared.rows.Row.{Row}
use Rattle.kr_rollout.specs.Histories.{IsLegal, IsRun, state_from, state_of}
use Rattle.kr_rollout.specs.Openings.{start_of}
use Rattle.kr_rollout.specs.States.{State}
use Rattle.kr_rollout.specs.Steps.{IsStep, after, new_rows, put_row}
use Rattle.kr_rollout.specs.declared.opening.Entry.{Entry}
use Rattle.kr_rollout.specs.declared.opening.Opening.{Opening}
use Rattle.kr_rollout.specs.declared.line.Did.{Did}
use Rattle.kr_rollout.specs.declared.line.Did.TheVariants.{Put, Delete, Replace}
use Rattle.kr_rollout.specs.declared.line.Gave.{Gave}
use Rattle.kr_rollout.specs.declared.line.Gave.TheVariants.{Written}
use Rattle.kr_history.proofs.Effects.{entry_with}
use Rattle.kr_watch.specs.Laws.{ShownAreAbove}
use Rattle.kr_watch.specs.Pages.{is_above, has_resource}
use Rattle.kr_watch.specs.Shown.{IsItemFor, item_at, plain_in}
use Rattle.kr_watch.proofs.Items.{all_rest, none_has}
use Rattle.kr_watch.proofs.Orders.{all_weaker}

-- each row has a path of some bytes
abbrev HavePaths : List LogRow → Type 0
HavePaths rows = AllByRecursion (λ (row : LogRow). 1 ≤ length row.path) rows

have_more : (rows more : List LogRow) → HavePaths rows → HavePaths more
    → HavePaths (rows ++ more)
have_more [] more h k = k
have_more (row ∷ rows) more h k = (h.0, have_more rows more h.1 k)

first_have : (format : Format) (before rows : List LogRow) → AllFollow format before rows
    → HavePaths rows
first_have format before [] f = tt
first_have format before (row ∷ rows) f =
    (f.0.path.0, first_have format (before ++ row ∷ []) rows f.1)

-- ---- what a step writes

module _ (o : Opening) (st : State) (seat : ℕ) (held : Option ℕ) (faults : ℕ)
    (published : Option Publication) (row replaced : Option Row) where
  abbrev entry : Did → Gave → Entry
  entry did gave = entry_with seat held faults published row replaced did gave

  have_new : (did : Did) (gave : Gave) → IsStep o st (entry did gave)
      → HavePaths (new_rows gave did row)
  have_new (Put path resource plain) (Written revision) s =
      let w = s.writes in
      let row_is = w.3 ∙ ap (λ (r : LogRow). row_of revision r.path r.change) w.1.2.row_is in
      subst (λ r. HavePaths (put_row r)) (sym row_is) (s.rules.0.0, tt)
  have_new (Delete path) (Written revision) s = (s.rules.0, tt)
  have_new (Replace path from) (Written revision) s =
      let w = s.writes in
      let row_is = w.3
      ∙ ap (λ (r : LogRow). row_of revision r.path r.change) w.1.5.sealed.row_is in
      subst (λ r. HavePaths (put_row r)) (sym row_is) (s.rules.0, tt)
  have_new other (Written revision) s = absurd s.answer
  have_new did other s = tt

run_has : (o : Opening) (st : State) (history : List Entry) → HavePaths st.rows
    → IsRun o st history → HavePaths (state_from st history).rows
run_has o st [] h r = h
run_has o st (e ∷ history) h r = run_has o (after st e) history
    (have_more st.rows (new_rows e.line.gave e.line.did e.row) h
    (have_new o st e.line.seat e.line.held e.line.faults e.published e.row e.replaced
    e.line.did e.line.gave r.0)) r.1

-- ---- no live row has the empty path

not_empty : (path : List ℕ) → 1 ≤ length path → bytes_eq path [] ≡ false
not_empty [] l = absurd (omega (arith, l))
not_empty (byte ∷ bytes) l = refl

abbrev found_then : Bool → ℕ → LogRow → Option (ℕ × LogRow)
found_then b k row = if b then Some (k, row) else None

none_latest : (k : ℕ) (rows : List LogRow) → HavePaths rows → latest_from k rows [] ≡ None
none_latest k [] h = refl
none_latest k (row ∷ rows) h =
    ap (λ l. later l (found_then (bytes_eq row.path []) k row)) (none_latest (k + 1) rows h.1)
    ∙ ap (λ b. found_then b k row) (not_empty row.path h.0)

pub none_at_empty : (o : Opening) (history : List Entry) → IsLegal o history
    → live (state_of o history).rows [] ≡ None
none_at_empty o history l = ap live_row (none_latest 1 (state_of o history).rows
    (run_has o (start_of o) history (first_have o.format [] o.rows l.opens.rows) l.runs))

above_empty : (path : List ℕ) → bytes_eq path [] ≡ false
    → is_lt (slice_cmp nat_cmp [] path) ≡ true
above_empty [] e = cc
above_empty (byte ∷ bytes) e = refl

pub shown_are_above : ShownAreAbove
shown_are_above opens o history resource items l s =
    let own = s.each [] in
    let empty : item_at items [] ≡ None =
    subst (λ r. IsItemFor [] r (plain_in own.0) (item_at items [])) (none_at_empty o history l)
    own.2 in
    ap (filter (has_resource resource)) (all_rest [] items
    (all_weaker (λ x. bytes_eq x.path [] ≡ false) (λ x. is_above [] x ≡ true)
    (λ x e. above_empty x.path e) items (none_has [] items empty)))
