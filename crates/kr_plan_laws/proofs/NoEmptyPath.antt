-- Nothing is stored at the empty path.
use Rattle.std.proofs.Common.{◌≡◌, ℕ, List, [], ◌∷◌, Contains, Option, None, Some, refl, sym, ap, subst, ◌∙◌, inl, inr, arith}
use Rattle.std.proofs.lemmas.Option.{none-some}
use Rattle.kr_base.specs.Rules.{IsPath}
use Rattle.kr_store.specs.declared.rows.Row.{Row}
use Rattle.kr_store.specs.Rows.{live}
use Rattle.kr_store.proofs.Listings.{no_empty_path}
use Rattle.kr_judge.specs.declared.need.Need.{Need}
use Rattle.kr_provider.specs.Publication.{Publication}
use Rattle.kr_rollout.specs.declared.line.Did.{Did}
use Rattle.kr_rollout.specs.declared.line.Did.TheVariants.{Put, Delete, Replace}
use Rattle.kr_rollout.specs.declared.line.Gave.{Gave}
use Rattle.kr_rollout.specs.declared.line.Gave.TheVariants.{Written}
use Rattle.kr_rollout.specs.declared.opening.Entry.{Entry}
use Rattle.kr_rollout.specs.declared.opening.Opening.{Opening}
use Rattle.kr_rollout.specs.Openings.{start_of}
use Rattle.kr_rollout.specs.Histories.{state_from, state_of, IsRun, IsLegal}
use Rattle.kr_rollout.specs.States.{State}
use Rattle.kr_rollout.specs.Steps.{IsStep, after}
use Rattle.kr_history.proofs.Effects.{entry_with}
use Rattle.kr_history.proofs.Lacking.{needed_stored}
use Rattle.kr_history.proofs.NeedsLive.{needed_of}
use Rattle.kr_plan_laws.proofs.PathRows.{WroteAt, rows_step}

not_empty : (path : List ℕ) → IsPath path → path ≡ [] → ⊥
not_empty path is e = let size = (subst IsPath e is).0 in omega (arith, size)

module _ (o : Opening) (st : State) (seat : ℕ) (held : Option ℕ) (faults : ℕ)
    (published : Option Publication) (row replaced : Option Row) where
  abbrev entry : Did → Gave → Entry
  entry did gave = entry_with seat held faults published row replaced did gave

  none_wrote : (did : Did) (gave : Gave) → IsStep o st (entry did gave) → WroteAt did gave []
      → ⊥
  none_wrote (Put path resource plain) gave s w = not_empty path s.rules.0 w.1
  none_wrote (Delete path) gave s w = not_empty path s.rules w.1
  none_wrote (Replace path from) gave s w = not_empty path s.rules w.1
  none_wrote did (Written revision) s w = absurd s.answer
  none_wrote did other s w = absurd w.0

rows_run : (o : Opening) (st : State) (history : List Entry) → IsRun o st history
    → live (state_from st history).rows [] ≡ live st.rows []
rows_run o st [] run = refl
rows_run o st (e ∷ history) run = rows_run o (after st e) history run.1
    ∙ (elim (rows_step o st e [] run.0) [
      | inl stays ↦ stays
      | inr wrote ↦ absurd (none_wrote o st e.line.seat e.line.held e.line.faults e.published
          e.row e.replaced e.line.did e.line.gave run.0 wrote)
    ])

pub none_there : (o : Opening) (history : List Entry) → IsLegal o history
    → live (state_of o history).rows [] ≡ None
none_there o history l = rows_run o (start_of o) history l.runs ∙ by (live o.rows []) refl
  where
    by : (x : Option Row) → live o.rows [] ≡ x → live o.rows [] ≡ None
    by None is = is
    by (Some row) is = absurd (no_empty_path o.format o.rows row (l.opens).rows is)

pub no_need_there : (o : Opening) (history : List Entry) → IsLegal o history → (need : Need)
    → Contains (state_of o history).needs need → need.path ≡ [] → ⊥
no_need_there o history l need m at =
    let st = state_of o history in
    let is = needed_stored st (needed_of o history l) need m in
    none-some is.0 (sym (none_there o history l)
    ∙ ap (λ path. live st.rows path) (sym at) ∙ is.1)
