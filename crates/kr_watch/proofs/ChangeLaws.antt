-- The changes of a legal history: each has the revision behind the one before it.
use Rattle.std.proofs.Common.{◌≡◌, ℕ, ◌≤◌, ◌+◌, List, [], ◌∷◌, ◌++◌, length, Option, refl, sym, ap, ◌∙◌, subst, arith, append-nil, length-append}
use Rattle.std.specs.List.{cons_option}
use Rattle.kr_provider.specs.Publication.{Publication}
use Rattle.kr_store.specs.Rows.{row_of}
use Rattle.kr_store.specs.declared.rows.LogRow.{LogRow}
use Rattle.kr_store.specs.declared.rows.Row.{Row}
use Rattle.kr_rollout.specs.Histories.{IsRun, state_from, state_of}
use Rattle.kr_rollout.specs.Openings.{start_of}
use Rattle.kr_rollout.specs.States.{State}
use Rattle.kr_rollout.specs.Steps.{IsStep, after, new_rows, put_row}
use Rattle.kr_rollout.specs.declared.line.Did.{Did}
use Rattle.kr_rollout.specs.declared.line.Did.TheVariants.{Put, Delete, Replace}
use Rattle.kr_rollout.specs.declared.line.Gave.{Gave}
use Rattle.kr_rollout.specs.declared.line.Gave.TheVariants.{Written}
use Rattle.kr_rollout.specs.declared.opening.Entry.{Entry}
use Rattle.kr_rollout.specs.declared.opening.Opening.{Opening}
use Rattle.kr_rollout.proofs.Appending.{front_law}
use Rattle.kr_history.proofs.Effects.{entry_with}
use Rattle.kr_watch.specs.declared.change.ObjectChange.{ObjectChange}
use Rattle.kr_watch.specs.Changes.{FollowOn, told_change, changes_above, changes_in, earlier_ones, last_ones, revision_after}
use Rattle.kr_watch.specs.Laws.{ChangesFollowOn, NewestIsLast, NextLineIsNext, NoneIsMissing}
use Rattle.kr_watch.proofs.Following.{last_step}
use Rattle.kr_watch.proofs.KeptChanges.{follow_front, kept_above, parts_of, revision_append}

-- how many rows there are behind a step
abbrev CountsRows : Gave → (before now : ℕ) → Type 0
CountsRows (Written revision) before now = (revision ≡ before + 1) × (now ≡ before + 1)
CountsRows gave before now = now ≡ before

module _ (o : Opening) (st : State) (seat : ℕ) (held : Option ℕ) (faults : ℕ)
    (published : Option Publication) (row replaced : Option Row) where
  abbrev entry : Did → Gave → Entry
  entry did gave = entry_with seat held faults published row replaced did gave

  one_more : (more : List LogRow) → length more ≡ 1
      → length (st.rows ++ more) ≡ length st.rows + 1
  one_more more e = omega (arith, length-append st.rows more, e)

  same : length (st.rows ++ []) ≡ length st.rows
  same = ap length (append-nil st.rows)

  counts : (did : Did) (gave : Gave) → IsStep o st (entry did gave)
      → CountsRows gave (length st.rows) (length (st.rows ++ new_rows gave did row))
  counts (Put path resource plain) (Written revision) s =
      let w = s.writes in
      let row_is = w.3 ∙ ap (λ (r : LogRow). row_of revision r.path r.change) w.1.2.row_is in
      (s.answer.1, one_more (put_row row) (ap (λ r. length (put_row r)) row_is))
  counts (Delete path) (Written revision) s = (s.answer.1, one_more _ refl)
  counts (Replace path from) (Written revision) s =
      let w = s.writes in
      let row_is = w.3
      ∙ ap (λ (r : LogRow). row_of revision r.path r.change) w.1.5.sealed.row_is in
      (s.answer.2, one_more (put_row row) (ap (λ r. length (put_row r)) row_is))
  counts other (Written revision) s = absurd s.answer
  counts did other s = same

step_counts : (o : Opening) (st : State) (e : Entry) → IsStep o st e
    → CountsRows e.line.gave (length st.rows) (length (after st e).rows)
step_counts o st e s = counts o st e.line.seat e.line.held e.line.faults e.published e.row
    e.replaced e.line.did e.line.gave s

-- ---- revisions of a run

follow_step : (gave : Gave) (did : Did) (before now : ℕ) (more : List ObjectChange)
    → CountsRows gave before now → FollowOn now more
    → FollowOn before (cons_option (told_change gave did) more)
follow_step (Written revision) did before now more c f =
    (c.0, subst (λ n. FollowOn n more) (let e : now ≡ revision = omega (arith, c.0, c.1) in e) f)
follow_step other did before now more c f = subst (λ n. FollowOn n more) c f

newest_step : (gave : Gave) (did : Did) (before now : ℕ) (more : List ObjectChange)
    → CountsRows gave before now
    → revision_after before (cons_option (told_change gave did) more) ≡ revision_after now more
newest_step (Written revision) did before now more c =
    ap (λ n. revision_after n more) (let e : revision ≡ now = omega (arith, c.0, c.1) in e)
newest_step other did before now more c = sym (ap (λ n. revision_after n more) c)

run_follows : (o : Opening) (st : State) (history : List Entry) → IsRun o st history
    → FollowOn (length st.rows) (changes_in history)
run_follows o st [] r = tt
run_follows o st (e ∷ history) r =
    follow_step e.line.gave e.line.did (length st.rows) (length (after st e).rows)
    (changes_in history) (step_counts o st e r.0) (run_follows o (after st e) history r.1)

run_newest : (o : Opening) (st : State) (history : List Entry) → IsRun o st history
    → revision_after (length st.rows) (changes_in history) ≡ length (state_from st history).rows
run_newest o st [] r = refl
run_newest o st (e ∷ history) r =
    newest_step e.line.gave e.line.did (length st.rows) (length (after st e).rows)
    (changes_in history) (step_counts o st e r.0) ∙ run_newest o (after st e) history r.1

-- ---- the laws

pub changes_follow_each_other : ChangesFollowOn
changes_follow_each_other o history l =
    (run_follows o (start_of o) history l.runs, run_newest o (start_of o) history l.runs)

pub newest_is_last : NewestIsLast
newest_is_last first o history watch f =
    (λ i. revision_after (f.dropped i) (f.kept i))
    ∙ sym (revision_append (length o.rows) (earlier_ones watch.keep (changes_in history))
    (last_ones watch.keep (changes_in history)))
    ∙ ap (revision_after (length o.rows)) (parts_of watch.keep (changes_in history))

pub none_is_missing : NoneIsMissing
none_is_missing first o history watch revision l f old =
    let all = parts_of watch.keep (changes_in history) in
    let front = earlier_ones watch.keep (changes_in history) in
    let kept = last_ones watch.keep (changes_in history) in
    let follows : FollowOn (length o.rows) front = follow_front (length o.rows) front kept
    (subst (FollowOn (length o.rows)) (sym all) (run_follows o (start_of o) history l.runs)) in
    ap (changes_above revision) f.kept
    ∙ kept_above revision (length o.rows) front kept follows
    (subst (λ n. n ≤ revision) f.dropped old)
    ∙ ap (changes_above revision) all

written_next : (gave : Gave) (before now revision : ℕ) → CountsRows gave before now
    → gave ≡ Written revision → revision ≡ before + 1
written_next gave before now revision c e = (subst (λ g. CountsRows g before now) e c).0

pub next_line_is_next : NextLineIsNext
next_line_is_next first o history e watch l f revision is =
    let st = state_of o history in
    let front = front_law o history (e ∷ []) l in
    let newest = newest_is_last first o history watch f
    ∙ run_newest o (start_of o) history front.runs in
    let own = written_next e.line.gave (length st.rows) (length (after st e).rows) revision
    (step_counts o st e (last_step o history e l)) is in
    omega (arith, own, newest)
