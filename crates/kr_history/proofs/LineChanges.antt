-- What one entry does, by its line alone.
use Rattle.std.proofs.Common.{◌≡◌, ◌≢◌, ◌↔◌, ℕ, ◌+◌, Bool, true, false, List, [], ◌∷◌, ◌++◌, length, All, Option, None, Some, refl, sym, ap, ◌∙◌, subst, arith, append-nil}
use Rattle.std.specs.Str.{bytes_eq}
use Rattle.std.proofs.lemmas.List.Elements.{All-head, All-tail}
use Rattle.std.proofs.lemmas.Slice.Eq.{bytes_eq-Decides}
use Rattle.kr_store.specs.Rows.{live, put_of, delete_of, row_of}
use Rattle.kr_store.specs.declared.rows.LogRow.{LogRow}
use Rattle.kr_store.specs.declared.rows.Row.{Row}
use Rattle.kr_provider.specs.Publication.{Publication}
use Rattle.kr_opening.proofs.Needing.{own_path}
use Rattle.kr_opening.specs.Checks.{written_check}
use Rattle.kr_rollout.specs.Histories.{IsRun, state_from, state_of}
use Rattle.kr_rollout.specs.Openings.{start_of}
use Rattle.kr_rollout.specs.States.{State}
use Rattle.kr_rollout.specs.Steps.{IsStep, HidesNoFault, after, put_row}
use Rattle.kr_rollout.specs.declared.line.Did.{Did}
use Rattle.kr_rollout.specs.declared.line.Did.TheVariants.{Adopt, Fetch, After, Put, Delete, Replace, LetGo, Reload, Join, Leave}
use Rattle.kr_rollout.specs.declared.line.Gave.{Gave}
use Rattle.kr_rollout.specs.declared.line.Gave.TheVariants.{Written, StoreFailed}
use Rattle.kr_rollout.specs.declared.opening.Entry.{Entry}
use Rattle.kr_rollout.specs.declared.opening.Opening.{Opening}
use Rattle.kr_rollout.proofs.Appending.{state_more}
use Rattle.kr_history.specs.Contents.{ContentChange, puts, deletes, change_at, ContentBy, IsContent}
use Rattle.kr_history.specs.LineLaws.{ChangesLive, LineChangesLive, ContentAfter, LineChangesContent, TellsNoFault, FaultsAreTold}
use Rattle.kr_history.proofs.ContentSteps.{change_kept, change_made, live_deleted, live_elsewhere, live_put, put_row_at}
use Rattle.kr_history.proofs.Effects.{entry_with}
use Rattle.kr_history.proofs.Judging.{next_step}

-- ---- rows

unequal : (a b : List ℕ) → a ≢ b → bytes_eq a b ≡ false
unequal a b n = by (bytes_eq a b) refl
  where
    by : (v : Bool) → bytes_eq a b ≡ v → v ≡ false
    by true e = absurd (n ((bytes_eq-Decides a b).0 e))
    by false e = refl

module _ (o : Opening) (st : State) (seat : ℕ) (held : Option ℕ) (faults : ℕ)
    (published : Option Publication) (row replaced : Option Row) where
  abbrev entry : Did → Gave → Entry
  entry did gave = entry_with seat held faults published row replaced did gave

  abbrev Changes : Did → Gave → Type 0
  Changes did gave = ChangesLive gave did st.rows (after st (entry did gave)).rows

  -- at another path than that of the row that was written
  elsewhere : (rows : List LogRow) (written : LogRow) → rows ≡ st.rows ++ written ∷ []
      → (path : List ℕ) → path ≢ written.path → live rows path ≡ live st.rows path
  elsewhere rows written is path apart = ap (λ r. live r path) is
      ∙ live_elsewhere st.rows written path (unequal written.path path (λ e. apart (sym e)))

  put_changes : (path resource plain : List ℕ) (revision : ℕ)
      → IsStep o st (entry (Put path resource plain) (Written revision))
      → Changes (Put path resource plain) (Written revision)
  put_changes path resource plain revision s =
      let w = s.writes in
      let p = w.1.0 in
      let sealed = w.1.2 in
      let check = written_check o.format p resource in
      let row_is = w.3 ∙ ap (λ (r : LogRow). row_of revision r.path r.change) sealed.row_is in
      let rows = ap (λ r. st.rows ++ put_row r) row_is in (
        s.answer.1,
        (
          put_row_at (1 + length st.rows) path resource sealed.stored check,
          ap (λ r. live r path) rows
              ∙ live_put st.rows path resource sealed.stored path check (own_path path),
          refl,
          refl,
          omega (arith, s.answer.1),
        ),
        elsewhere (after st (entry (Put path resource plain) (Written revision))).rows
            (put_of path resource sealed.stored check) rows,
      )

  delete_changes : (path : List ℕ) (revision : ℕ)
      → IsStep o st (entry (Delete path) (Written revision))
      → Changes (Delete path) (Written revision)
  delete_changes path revision s = (
    s.answer.1,
    (s.answer.0, live_deleted st.rows path path (own_path path)),
    elsewhere (after st (entry (Delete path) (Written revision))).rows (delete_of path) refl,
  )

  replace_changes : (path : List ℕ) (from revision : ℕ)
      → IsStep o st (entry (Replace path from) (Written revision))
      → Changes (Replace path from) (Written revision)
  replace_changes path from revision s =
      let w = s.writes in
      let p = w.1.0 in
      let was = w.1.1 in
      let sealed = w.1.5.sealed in
      let check = written_check o.format p was.resource in
      let row_is = w.3 ∙ ap (λ (r : LogRow). row_of revision r.path r.change) sealed.row_is in
      let rows = ap (λ r. st.rows ++ put_row r) row_is in (
        s.answer.2,
        (
          was,
          w.1.3,
          w.1.4,
          (
            put_row_at (1 + length st.rows) path was.resource sealed.stored check,
            ap (λ r. live r path) rows
                ∙ live_put st.rows path was.resource sealed.stored path check (own_path path),
            refl,
            refl,
            omega (arith, s.answer.2),
          ),
        ),
        elsewhere (after st (entry (Replace path from) (Written revision))).rows
            (put_of path was.resource sealed.stored check) rows,
      )

  changes : (did : Did) (gave : Gave) → IsStep o st (entry did gave) → Changes did gave
  changes (Put path resource plain) (Written revision) s =
      put_changes path resource plain revision s
  changes (Delete path) (Written revision) s = delete_changes path revision s
  changes (Replace path from) (Written revision) s = replace_changes path from revision s
  changes (Adopt replica) (Written revision) s = absurd s.answer
  changes (Fetch path) (Written revision) s = absurd s.answer
  changes (After path) (Written revision) s = absurd s.answer
  changes LetGo (Written revision) s = absurd s.answer
  changes (Reload replica p expect) (Written revision) s = absurd s.answer
  changes (Join replica p) (Written revision) s = absurd s.answer
  changes (Leave replica) (Written revision) s = absurd s.answer
  changes did other s = append-nil st.rows

pub line_changes_live : LineChangesLive
line_changes_live o history e l =
    let st = state_of o history in
    subst (λ (s : State). ChangesLive e.line.gave e.line.did st.rows s.rows)
    (sym (state_more (start_of o) history e))
    (changes o st e.line.seat e.line.held e.line.faults e.published e.row e.replaced e.line.did
    e.line.gave (next_step o history e l).step)

-- ---- contents

pub line_changes_content : LineChangesContent
line_changes_content opens o history e path content =
    by (change_at e.line.gave e.line.did path) refl
  where
    by : (c : Option ContentChange) → change_at e.line.gave e.line.did path ≡ c
        → IsContent opens o (history ++ e ∷ []) path content
        ↔ ContentAfter c (IsContent opens o history path) content
    by None is =
        let same = change_kept history e path is in (
          subst (λ x. ContentBy x opens o path content) same,
          subst (λ x. ContentBy x opens o path content) (sym same),
        )
    by (Some (puts plain)) is =
        let same = change_made history e path (puts plain) is in (
          subst (λ x. ContentBy x opens o path content) same,
          subst (λ x. ContentBy x opens o path content) (sym same),
        )
    by (Some deletes) is =
        let same = change_made history e path deletes is in (
          subst (λ x. ContentBy x opens o path content) same,
          subst (λ x. ContentBy x opens o path content) (sym same),
        )

-- ---- faults

untold : (gave : Gave) (before now : ℕ) → TellsNoFault gave → HidesNoFault gave before now
    → now ≡ before
untold StoreFailed before now t h = absurd t
untold other before now t h = h

count_stays : (o : Opening) (st : State) (history more : List Entry) → IsRun o st (history ++ more)
    → All (λ (e : Entry). TellsNoFault e.line.gave) more
    → (state_from st (history ++ more)).count ≡ (state_from st history).count
count_stays o st [] [] r t = refl
count_stays o st [] (e ∷ more) r t =
    count_stays o (after st e) [] more r.1
    (All-tail (λ (x : Entry). TellsNoFault x.line.gave) e more t)
    ∙ untold e.line.gave st.count e.line.faults
    (All-head (λ (x : Entry). TellsNoFault x.line.gave) e more t) r.0.faults
count_stays o st (e ∷ history) more r t = count_stays o (after st e) history more r.1 t

pub faults_are_told : FaultsAreTold
faults_are_told o history more l = count_stays o (start_of o) history more l.runs
