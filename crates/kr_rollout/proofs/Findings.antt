-- What a seat's own entries say that it found stands there still.
use Rattle.std.proofs.Common.{◌≡◌, ℕ, zero, suc, ◌≤◌, ◌⊎◌, cond, List, [], ◌∷◌, ◌++◌, length, Option, None, Some, IfSome, refl, sym, ap, subst, ◌∙◌, arith, inl, inr, length-append}
use Rattle.std.specs.List.{slice_get}
use Rattle.std.proofs.lemmas.Bool.{cases_eq, eq-eqb, ne_eqb}
use Rattle.std.proofs.lemmas.Option.{none-some, slice_get_within}
use Rattle.kr_store.specs.declared.rows.LogRow.{LogRow}
use Rattle.kr_store.specs.declared.rows.Row.{Row}
use Rattle.kr_store.specs.Rows.{live_row, with_revision, put_at}
use Rattle.kr_store.proofs.Places.{row_stays}
use Rattle.kr_rollout.specs.declared.line.Did.{Did}
use Rattle.kr_rollout.specs.declared.line.Did.TheVariants.{Adopt, Fetch, After}
use Rattle.kr_rollout.specs.declared.line.Gave.{Gave}
use Rattle.kr_rollout.specs.declared.line.Gave.TheVariants.{Found}
use Rattle.kr_rollout.specs.declared.opening.Entry.{Entry}
use Rattle.kr_rollout.specs.declared.opening.Opening.{Opening}
use Rattle.kr_base.specs.Lines.{of_seat}
use Rattle.kr_rollout.specs.Entries.{revision_in, seat_of}
use Rattle.kr_rollout.specs.States.{State}
use Rattle.kr_rollout.specs.Openings.{start_of}
use Rattle.kr_rollout.specs.Steps.{after, new_rows}
use Rattle.kr_rollout.specs.Histories.{state_from, state_of, IsRun, IsLegal}
use Rattle.kr_rollout.specs.Callers.{found_by, found_then, found_from, found_in}
use Rattle.kr_rollout.proofs.Revisions.{revision_is}

-- the row is there, at its revision
pub record IsIn (rows : List LogRow) (row : Row) : Type 0 where
  pub within : row.revision ≤ length rows
  pub is : put_at rows row.revision ≡ Some row

stays : (rows more : List LogRow) (row : Row) → IsIn rows row → IsIn (rows ++ more) row
stays rows more row i = record {
  within = omega (arith, i.within, length-append rows more);
  is =
      row_stays rows more row.revision i.within ∙ i.is;
}

all_stay : (rows more : List LogRow) (row : Option Row) → IfSome row (IsIn rows)
    → IfSome row (IsIn (rows ++ more))
all_stay rows more None i = tt
all_stay rows more (Some row) i = stays rows more row i

-- what is found by a revision is there
row_in : (rows : List LogRow) (k : ℕ) (row : Row) → put_at rows k ≡ Some row → IsIn rows row
row_in rows zero row e = absurd (none-some row e)
row_in rows (suc k) row e = by (slice_get rows k) refl e
  where
    by : (o : Option LogRow) → slice_get rows k ≡ o → live_row (with_revision (suc k) o) ≡ Some row → IsIn rows row
    by None is e = absurd (none-some row e)
    by (Some own) is e =
        let r : row.revision ≡ suc k = (revision_is (suc k) own.path own.change row e).0 in
        record {
          within = omega (arith, r, slice_get_within rows k own is);
          is = ap (put_at rows) r ∙ ap (λ o. live_row (with_revision (suc k) o)) is ∙ e;
        }

found_in_rows : (rows : List LogRow) (gave : Gave) (row : Option Row)
    → row ≡ put_at rows (revision_in gave) → IfSome (found_by gave row) (IsIn rows)
found_in_rows rows (Found revision) row e = by row e
  where
    by : (row : Option Row) → row ≡ put_at rows revision → IfSome row (IsIn rows)
    by None e = tt
    by (Some r) e = row_in rows revision r (sym e)
found_in_rows rows other row e = tt

then_in : (rows more : List LogRow) (did : Did) (gave : Gave) (row now : Option Row)
    → row ≡ put_at (rows ++ more) (revision_in gave) → IfSome now (IsIn rows)
    → IfSome (found_then did gave row now) (IsIn (rows ++ more))
then_in rows more (Adopt replica) gave row now e i = tt
then_in rows more (Fetch path) gave row now e i = found_in_rows (rows ++ more) gave row e
then_in rows more (After path) gave row now e i = found_in_rows (rows ++ more) gave row e
then_in rows more other gave row now e i = all_stay rows more now i

run_finds : (o : Opening) (st : State) (history : List Entry) (seat : ℕ) (now : Option Row)
    → IsRun o st history → IfSome now (IsIn st.rows)
    → IfSome (found_from now (of_seat seat_of seat history)) (IsIn (state_from st history).rows)
run_finds o st [] seat now r i = i
run_finds o st (e ∷ history) seat now r i =
    by (cases_eq e.line.seat seat) (run_finds o (after st e) history seat)
  where
    more : List LogRow
    more = new_rows e.line.gave e.line.did e.row

    row_is : e.row ≡ put_at (st.rows ++ more) (revision_in e.line.gave)
    row_is = ap (λ (x : Entry). x.row) r.0.payload

    by : (e.line.seat ≡ seat) ⊎ (e.line.seat ≡ seat → ⊥)
        → ((now : Option Row) → IsRun o (after st e) history → IfSome now (IsIn (after st e).rows)
        → IfSome (found_from now (of_seat seat_of seat history))
        (IsIn (state_from (after st e) history).rows))
        → IfSome (found_from now (of_seat seat_of seat (e ∷ history)))
        (IsIn (state_from (after st e) history).rows)
    by (inl same) again =
        subst (λ b. IfSome (found_from now (cond b (e ∷ of_seat seat_of seat history)
        (of_seat seat_of seat history))) (IsIn (state_from (after st e) history).rows))
        (sym (eq-eqb e.line.seat seat same))
        (again (found_then e.line.did e.line.gave e.row now) r.1
        (then_in st.rows more e.line.did e.line.gave e.row now row_is i))
    by (inr other) again =
        subst (λ b. IfSome (found_from now (cond b (e ∷ of_seat seat_of seat history)
        (of_seat seat_of seat history))) (IsIn (state_from (after st e) history).rows))
        (sym (ne_eqb e.line.seat seat other))
        (again now r.1 (all_stay st.rows more now i))

pub found_there : (o : Opening) (history : List Entry) (seat : ℕ) → IsLegal o history
    → IfSome (found_in (of_seat seat_of seat history)) (IsIn (state_of o history).rows)
found_there o history seat l = run_finds o (start_of o) history seat None l.runs tt
