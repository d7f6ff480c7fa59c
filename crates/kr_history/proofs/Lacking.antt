-- What is judged is refused exactly where one would lack a provider.
use Rattle.std.proofs.Common.{◌≡◌, ℕ, ◌<◌, false, List, [], ◌∷◌, length, map, Contains, Option, None, Some, refl, sym, ap, subst, ◌∙◌, inl, inr, arith}
use Rattle.std.specs.Prelude.{if◌then◌else◌}
use Rattle.std.specs.List.{AllByRecursion}
use Rattle.std.specs.List.Sorted.{IsStrictlySortedBy}
use Rattle.std.specs.Ordering.{is_eq}
use Rattle.std.specs.Str.{bytes_eq}
use Rattle.std.specs.declared.cmp.Ordering.TheVariants.{Less}
use Rattle.std.proofs.lemmas.Map.Text.{is_eq-slice_cmp}
use Rattle.std.proofs.lemmas.Option.{none-some, same_Some}
use Rattle.kr_store.specs.declared.rows.Row as stored_row
use Rattle.kr_store.specs.Rows.{live}
use Rattle.kr_config.specs.declared.who.Who.{Who}
use Rattle.kr_config.specs.Kept.{ConfigEntry}
use Rattle.kr_config.specs.Nexts.{name_cmp}
use Rattle.kr_provider.specs.Publication.{Publication, IsPublished}
use Rattle.kr_judge.specs.declared.need.Need.{Need}
use Rattle.kr_judge.specs.Boards.{AreByPath, need_at, left_by}
use Rattle.kr_judge.specs.Lacks.{LacksProvider, IsNeeded, IsLiveBeside}
use Rattle.kr_judge.proofs.Lacking.{refuses_exactly, image, left_is, lives_other}
use Rattle.kr_config.proofs.ListParts.{cases}
use Rattle.kr_opening.proofs.Needing.{own_path}
use Rattle.kr_rollout.specs.declared.line.Did.{Did}
use Rattle.kr_rollout.specs.declared.line.Did.TheVariants.{Adopt, Fetch, After, Put, Delete, Replace, LetGo, Reload, Join, Leave}
use Rattle.kr_rollout.specs.declared.line.Gave.{Gave}
use Rattle.kr_rollout.specs.declared.line.Gave.TheVariants.{Adopted, Found, Absent, Written, Changed, Released, Reloaded, Joined, Refused, Moved, Present, Departed, Gone, StoreFailed, StoreFull, Nothing}
use Rattle.kr_rollout.specs.declared.opening.Entry.{Entry}
use Rattle.kr_rollout.specs.declared.opening.Opening.{Opening}
use Rattle.kr_rollout.specs.States.{State, board_generations}
use Rattle.kr_rollout.specs.Fits.{IsFit}
use Rattle.kr_rollout.specs.Steps.{KeepsRules}
use Rattle.kr_rollout.specs.Histories.{state_of, IsLegal}
use Rattle.kr_rollout.specs.Judgements.{MayBeJudged, judged_state, AnswersFit, with_configuration}
use Rattle.kr_history.specs.FitLaws.{IsNeedOf}
use Rattle.kr_history.specs.LackLaws.{IsStoredAt, IsStoredUnder, AreBeside, OneLacks, VerdictRefusesExactly, LeavesLack, AnswersExactly, RefusedExactly}
use Rattle.kr_history.proofs.Fitting.{legal_sound}
use Rattle.kr_history.proofs.ContentReads.{need_there}
use Rattle.kr_history.proofs.Judging.{next_step, judged_by_fit, verdict_exact}
use Rattle.kr_history.proofs.NeedsLive.{AreNeeded, needed_of}
use Rattle.kr_history.proofs.Sound.{IsSound, other_at, other_state, number_rows, rows_of_number}

-- ---- needs at their paths

unequal : (a b : List ℕ) → name_cmp a b ≡ Less → bytes_eq a b ≡ false
unequal a b h = sym (is_eq-slice_cmp a b) ∙ ap is_eq h

-- a path above which others stand isn't one of them
above_at : (path : List ℕ) (needs : List Need) (need : Need)
    → AllByRecursion (λ other. name_cmp path other ≡ Less) (map (λ (n : Need). n.path) needs)
    → Contains needs need → name_cmp path need.path ≡ Less
above_at path [] need all m = absurd (omega (arith, m.1))
above_at path (own ∷ needs) need all m = elim (cases own need needs m) [
  | inl e ↦ subst (λ (n : Need). name_cmp path n.path ≡ Less) e all.0
  | inr n ↦ above_at path needs need all.1 n
]

-- a need stands at its path
need_stands : (needs : List Need) (need : Need) → AreByPath needs → Contains needs need
    → need_at needs need.path ≡ Some need
unfolding IsStrictlySortedBy
need_stands [] need s m = absurd (omega (arith, m.1))
need_stands (own ∷ needs) need s m = elim (cases own need needs m) [
  | inl e ↦ subst (λ (n : Need). need_at (own ∷ needs) n.path ≡ Some n) e
      (ap (λ b. if b then Some own else need_at needs own.path) (own_path own.path))
  | inr n ↦ ap (λ b. if b then Some own else need_at needs need.path)
      (unequal own.path need.path (above_at own.path needs need s.0 n))
      ∙ need_stands needs need s.1 n
]

-- what is needed is stored
pub needed_stored : (st : State) → AreNeeded st → (need : Need) → Contains st.needs need
    → IsStoredAt st need.path need.resource need.who
needed_stored st n need m = by (live st.rows need.path) refl (n.each need.path)
  where
    at : need_at st.needs need.path ≡ Some need
    at = need_stands st.needs need n.sorted m

    by : (l : Option stored_row.Row) → live st.rows need.path ≡ l
        → IsNeedOf need.path l (need_at st.needs need.path)
        → IsStoredAt st need.path need.resource need.who
    by None is none = absurd (none-some need (sym none ∙ at))
    by (Some row) is own =
        let same = same_Some need (record { path = need.path; resource = row.resource; who = own.0 })
        (sym at ∙ own.1) in (row, is, sym (ap (λ (x : Need). x.resource) same), at)

needed_somewhere : (st : State) → AreNeeded st → (resource : List ℕ) (who : Who)
    → IsNeeded st.needs resource who → IsStoredUnder st resource who
needed_somewhere st n resource who (need, m, r, w) = (
  need.path,
  subst (λ (x : Who). IsStoredAt st need.path resource x) w
      (subst (λ (x : List ℕ). IsStoredAt st need.path x need.who) r (needed_stored st n need m)),
)

-- and what is stored is needed
stored_needed : (st : State) (resource : List ℕ) (who : Who) → IsStoredUnder st resource who
    → IsNeeded st.needs resource who
stored_needed st resource who (path, (row, is, r, at)) = (
  record { path = path; resource = resource; who = who },
  need_there st.needs path (record { path = path; resource = resource; who = who }) at,
  refl,
  refl,
)

-- ---- the generations beside

module _ (o : Opening) (st : State) (sound : IsSound o st) (replica : ℕ) where
  judged_beside : (rows : List ConfigEntry) → IsLiveBeside replica (board_generations st) rows
      → AreBeside st replica rows
  judged_beside rows live =
      let n = lives_other replica (board_generations st) rows live in
      let a = other_at o st sound replica n.0 n.1 in (
        a.number,
        a.live,
        number_rows st.generations a.number a.generation a.there ∙ ap Some (a.rows_are ∙ n.2),
      )

  beside_judged : (rows : List ConfigEntry) → AreBeside st replica rows
      → IsLiveBeside replica (board_generations st) rows
  beside_judged rows (number, live, is) =
      let g = rows_of_number st.generations number rows is in
      let t = other_state o st sound replica (record { rows = rows; seeds = [] }) rows (record {
        number = number;
        generation = g.0;
        there = g.1;
        live = live;
        rows_are = g.2;
      }) in (
        left_by replica t.0,
        image (left_by replica) (board_generations st) t.0 t.1,
        left_is replica t.0 ∙ t.2,
        t.3,
      )

-- ---- the verdict

module _ (o : Opening) (history : List Entry) (replica : ℕ) (rows : List ConfigEntry)
    (l : IsLegal o history) where
  abbrev st : State
  st = state_of o history

  abbrev Judged : Type 0
  Judged = LacksProvider (IsNeeded st.needs) (IsLiveBeside replica (board_generations st)) rows

  lacks_one : Judged → OneLacks st replica rows
  lacks_one (inl s) = inl (record {
    resource = s.resource;
    who = s.who;
    stored = needed_somewhere st (needed_of o history l) s.resource s.who s.stored;
    lacks = s.lacks;
  })
  lacks_one (inr (other, live, w)) =
      inr (other, judged_beside o st (legal_sound o history l) replica other live, w)

  one_lacks : OneLacks st replica rows → Judged
  one_lacks (inl s) = inl (record {
    resource = s.resource;
    who = s.who;
    stored = stored_needed st s.resource s.who s.stored;
    lacks = s.lacks;
  })
  one_lacks (inr (other, live, w)) =
      inr (other, beside_judged o st (legal_sound o history l) replica other live, w)

pub verdict_refuses_exactly : VerdictRefusesExactly
verdict_refuses_exactly o history replica rows l =
    let st = state_of o history in
    let r = refuses_exactly st.needs (board_generations st) replica rows in (
      λ refused. lacks_one o history replica rows l (r.0 refused),
      λ lacks. r.1 (one_lacks o history replica rows l lacks),
    )

-- ---- the answers

exactly : (gave : Gave) (Lacks Fits : Type 0) → (¬ Fits → Lacks) → (Fits → ¬ Lacks)
    → AnswersFit gave Fits → AnswersExactly gave Lacks Fits
exactly (Refused verdict) Lacks Fits f g a = (f a, a)
exactly (Reloaded number) Lacks Fits f g a = (a, g a)
exactly (Joined number) Lacks Fits f g a = (a, g a)
exactly Nothing Lacks Fits f g a = tt
exactly other Lacks Fits f g a = absurd a

module _ (o : Opening) (history : List Entry) (l : IsLegal o history) where
  given_exactly : (gave : Gave) (replica : ℕ) (p : Publication) → replica < length o.replicas
      → IsPublished p → AnswersFit gave (IsFit (with_configuration (state_of o history) replica p))
      → AnswersExactly gave (OneLacks (state_of o history) replica p.rows)
      (IsFit (with_configuration (state_of o history) replica p))
  given_exactly gave replica p w published a =
      let v = verdict_exact o history replica p l w published in
      let r = verdict_refuses_exactly o history replica p.rows l in
      exactly gave (OneLacks (state_of o history) replica p.rows)
      (IsFit (with_configuration (state_of o history) replica p))
      (λ unfit. r.0 (λ pass. unfit (v.0 pass)))
      (λ fit lacks. r.1 lacks (v.1 fit)) a

  by_did : (did : Did) (gave : Gave) → MayBeJudged did (state_of o history) → KeepsRules did o
      → AnswersFit gave (IsFit (judged_state did (state_of o history)))
      → AnswersExactly gave (LeavesLack did (state_of o history))
      (IsFit (judged_state did (state_of o history)))
  by_did (Reload replica p expect) gave j k a = given_exactly gave replica p k.0 k.1.0 a
  by_did (Join replica p) gave j k a = given_exactly gave replica p k.0 k.1.0 a
  by_did other gave j k a = absurd j

pub refused_exactly : RefusedExactly
refused_exactly o history e l j =
    let n = next_step o history e l in
    by_did o history n.before e.line.did e.line.gave j n.step.rules (judged_by_fit o history e l j)
