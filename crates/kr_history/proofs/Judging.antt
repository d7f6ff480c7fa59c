-- What is judged is refused exactly where it does not fit, a core starts exactly where its opening
-- fits, and what a seat holds is live.
use Rattle.std.proofs.Common.{◌≡◌, ℕ, zero, suc, ◌+◌, List, [], ◌∷◌, ◌++◌, Contains, Option, None, Some, IsSome, refl, sym, ap, subst, ◌∙◌, arith, inl}
use Rattle.std.specs.Option.{option_map}
use Rattle.std.proofs.lemmas.Option.{none-some, same_Some}
use Rattle.kr_config.specs.declared.who.Who.{Who}
use Rattle.kr_config.specs.Kept.{ConfigEntry}
use Rattle.kr_provider.specs.Publication.{Publication}
use Rattle.kr_rollout.specs.declared.line.Did.{Did}
use Rattle.kr_rollout.specs.declared.line.Did.TheVariants.{Adopt, Fetch, After, Put, Delete, Replace, LetGo, Reload, Join, Leave}
use Rattle.kr_rollout.specs.declared.line.Gave.{Gave}
use Rattle.kr_rollout.specs.declared.line.Gave.TheVariants.{Adopted, Found, Absent, Written, Changed, Released, Reloaded, Joined, Refused, Moved, Present, Departed, Gone, StoreFailed, StoreFull, Nothing}
use Rattle.kr_rollout.specs.declared.opening.Entry.{Entry}
use Rattle.kr_rollout.specs.declared.opening.Opening.{Opening}
use Rattle.kr_rollout.specs.Entries.{published_at}
use Rattle.kr_rollout.specs.States.{State, held_by, IsLive}
use Rattle.kr_rollout.specs.Callers.{with_published, number_with}
use Rattle.kr_rollout.specs.Openings.{first_of, start_of}
use Rattle.kr_opening.specs.Needs.{needs_of, HasNoStray}
use Rattle.kr_opening.specs.Replicas.{generations_from, current_from, settings_of, first_rows}
use Rattle.kr_opening.specs.Starts.{IsStray}
use Rattle.kr_opening.specs.declared.opening_board.StartNo.TheVariants.{Stray, OtherSecret, Unfit, NoMemory}
use Rattle.kr_store.specs.declared.rows.LogRow.{LogRow}
use Rattle.kr_store.specs.declared.rows.Row as stored_row
use Rattle.kr_rollout.proofs.Refusing.{unfit_law}
use Rattle.kr_rollout.specs.Fits.{IsFit}
use Rattle.kr_rollout.specs.Answers.{IsAnswer, IsExpected}
use Rattle.kr_rollout.specs.Steps.{IsStep, after, KeepsRules}
use Rattle.kr_rollout.specs.Histories.{state_from, state_of, IsRun, IsLegal}
use Rattle.kr_rollout.specs.Judgements.{MayBeJudged, judged_state, IsDone, AnswersFit}
use Rattle.kr_history.specs.FitLaws.{VerdictIsExact, JudgedByFit, JudgedStateFollows, RefreshIsNotRefused, OpeningFits, StartsWhereItFits, RefusalIsExact, HoldingIsLive}
use Rattle.kr_history.proofs.Sound.{contains_at, IsSound, next_fits, next_passes, same_passes}
use Rattle.kr_history.proofs.Fitting.{live_less, legal_sound, held_live}
use Rattle.kr_history.proofs.Effects.{Holds, given, entry_with}
use Rattle.kr_rollout.proofs.Appending.{state_more}
use Rattle.kr_rollout.proofs.Holdings.{holding_of}

-- ---- the last entry

run_last : (o : Opening) (st : State) (history : List Entry) (e : Entry)
    → IsRun o st (history ++ e ∷ [])
    → IsRun o st history × IsStep o (state_from st history) e
run_last o st [] e r = (tt, r.0)
run_last o st (first ∷ history) e r =
    let rest = run_last o (after st first) history e r.1 in ((r.0, rest.0), rest.1)

pub record IsNextStep (o : Opening) (history : List Entry) (e : Entry) : Type 0 where
  pub before : IsLegal o history
  pub step : IsStep o (state_of o history) e

pub next_step : (o : Opening) (history : List Entry) (e : Entry) → IsLegal o (history ++ e ∷ [])
    → IsNextStep o history e
next_step o history e l =
    let r = run_last o (start_of o) history e l.runs in
    record {
      before = record { opens = l.opens; fit = l.fit; runs = r.0 };
      step = r.1;
    }

-- ---- what is judged

pub verdict_exact : VerdictIsExact
verdict_exact o history replica p l w published =
    let sound = legal_sound o history l in (
      next_fits o (state_of o history) sound replica p published,
      next_passes o (state_of o history) sound replica p w,
    )

is_expected : (expect : Option ℕ) (a b : ℕ) → a ≡ b → IsExpected expect a → IsExpected expect b
is_expected expect a b e i = subst (IsExpected expect) e i

module _ (o : Opening) (st : State) (sound : IsSound o st) (held : Option ℕ) where
  judged_by : (did : Did) (gave : Gave) → MayBeJudged did st → IsAnswer did gave st held
      → KeepsRules did o → AnswersFit gave (IsFit (judged_state did st))
  judged_by (Adopt replica) gave j a k = absurd j
  judged_by (Fetch path) gave j a k = absurd j
  judged_by (After path) gave j a k = absurd j
  judged_by (Put path resource plain) gave j a k = absurd j
  judged_by (Delete path) gave j a k = absurd j
  judged_by (Replace path from) gave j a k = absurd j
  judged_by LetGo gave j a k = absurd j
  judged_by (Leave replica) gave j a k = absurd j
  judged_by (Reload replica p expect) (Refused verdict) j a k =
      λ fits. a.1.1 (a.1.0 ∙ next_passes o st sound replica p k.0 fits)
  judged_by (Reload replica p expect) (Reloaded number) j a k =
      next_fits o st sound replica p k.1.0 a.1.0
  judged_by (Reload replica p expect) Nothing j a k = tt
  judged_by (Reload replica p expect) (Gone named) j a k =
      absurd (none-some j.0 (sym a.1 ∙ j.1))
  judged_by (Reload replica p expect) (Moved current) j a k =
      absurd (a.1 (is_expected expect j.0 current (same_Some j.0 current (sym j.1 ∙ a.0)) j.2))
  judged_by (Join replica p) (Refused verdict) j a k =
      λ fits. a.1.1 (a.1.0 ∙ next_passes o st sound replica p k.0 fits)
  judged_by (Join replica p) (Joined number) j a k =
      next_fits o st sound replica p k.1.0 a.1.0
  judged_by (Join replica p) Nothing j a k = tt
  judged_by (Join replica p) (Present current) j a k = absurd (none-some current (sym j ∙ a))
  judged_by other another j a k = absurd a

pub judged_by_fit : JudgedByFit
judged_by_fit o history e l j =
    let n = next_step o history e l in
    judged_by o (state_of o history) (legal_sound o history n.before) e.line.held e.line.did
    e.line.gave j n.step.answer n.step.rules

pub refresh_is_not_refused : RefreshIsNotRefused
refresh_is_not_refused o history e replica number p old expect verdict l did_is at published same
    gave_is =
    let n = next_step o history e l in
    let st = state_of o history in
    let a = subst (λ did. IsAnswer did (Refused verdict) st e.line.held) did_is
    (subst (λ gave. IsAnswer e.line.did gave st e.line.held) gave_is n.step.answer) in
    a.1.1 (a.1.0 ∙ same_passes o st (legal_sound o history n.before) replica p.rows (
      number,
      inl (contains_at st.current replica number at),
      ap (option_map (λ (q : Publication). q.rows)) published ∙ ap Some (sym same),
    ))

-- ---- the opening

opening_rows : (k : ℕ) (rs : List (Option Publication)) (n : ℕ) (rows : List ConfigEntry)
    → option_map (λ (p : Publication). p.rows) (published_at (generations_from k rs) (Some n))
    ≡ Some rows
    → Contains (settings_of rs) (Some rows)
opening_rows k [] n rows e = absurd (none-some rows e)
opening_rows k (None ∷ rs) n rows e =
    let c = opening_rows (k + 1) rs n rows e in (suc c.0, omega (arith, c.1), c.2)
opening_rows k (Some p ∷ rs) zero rows e = (0, omega arith, e)
opening_rows k (Some p ∷ rs) (suc n) rows e =
    let c = opening_rows (k + 1) rs n rows e in (suc c.0, omega (arith, c.1), c.2)

record IsInOpening (k m : ℕ) (rs : List (Option Publication)) (rows : List ConfigEntry) : Type 0 where
  number : ℕ
  current : Contains (current_from m rs) (Some (m + number))
  rows_are : option_map (λ (p : Publication). p.rows)
      (published_at (generations_from k rs) (Some number)) ≡ Some rows

in_opening : (k m : ℕ) (rs : List (Option Publication)) (rows : List ConfigEntry)
    → Contains (settings_of rs) (Some rows) → IsInOpening k m rs rows
in_opening k m [] rows c = absurd (omega (arith, c.1))
in_opening k m (None ∷ rs) rows (zero, l, e) = absurd (none-some rows e)
in_opening k m (None ∷ rs) rows (suc i, l, e) =
    let r = in_opening (k + 1) m rs rows (i, omega arith, e) in
    record {
      number = r.number;
      current = (suc r.current.0, omega (arith, r.current.1), r.current.2);
      rows_are = r.rows_are;
    }
in_opening k m (Some p ∷ rs) rows (zero, l, e) = record {
  number = 0;
  current = (0, omega arith, ap Some (omega arith));
  rows_are = e;
}
in_opening k m (Some p ∷ rs) rows (suc i, l, e) =
    let r = in_opening (k + 1) (m + 1) rs rows (i, omega arith, e) in
    let next : m + 1 + r.number ≡ m + suc r.number = omega arith in
    record {
      number = suc r.number;
      current = subst (λ n. Contains (current_from m (Some p ∷ rs)) (Some n)) next
          (suc r.current.0, omega (arith, r.current.1), r.current.2);
      rows_are = r.rows_are;
    }

pub opening_fits : OpeningFits
opening_fits o = (
  live_less (IsLive (start_of o)) (λ rows. Contains (settings_of o.replicas) (Some rows))
      (needs_of (first_of o) o.rows) (λ rows l. opening_rows 0 o.replicas l.0 rows l.2),
  live_less (λ rows. Contains (settings_of o.replicas) (Some rows)) (IsLive (start_of o))
      (needs_of (first_of o) o.rows) live,
)
  where
    live : (rows : List ConfigEntry) → Contains (settings_of o.replicas) (Some rows)
        → IsLive (start_of o) rows
    live rows c =
        let r = in_opening 0 0 o.replicas rows c in
        let same : 0 + r.number ≡ r.number = omega arith in (
          r.number,
          inl (subst (λ n. Contains (current_from 0 o.replicas) (Some n)) same r.current),
          r.rows_are,
        )

pub starts_where_it_fits : StartsWhereItFits
starts_where_it_fits o = (
  (λ m. (m.readable, m.secrets, (opening_fits o).0 m.fit)),
  (λ m. record {
    readable = m.0;
    secrets = m.1;
    fit = (opening_fits o).1 m.2;
  }),
)

-- a stray row has no provider
stray_is_stray : (first : List ConfigEntry) (rows : List LogRow) (path : List ℕ)
    → IsStray first rows path → HasNoStray first rows → ⊥
stray_is_stray first rows path (row, live_is, none) readable = none_is
    (subst (λ w. IsSome w) none (readable path row live_is))
  where
    none_is : IsSome {T = Who} None → ⊥
    none_is e = cc

pub refusal_is_exact : RefusalIsExact
refusal_is_exact rows replicas (Stray path) n m =
    absurd (stray_is_stray (first_rows replicas) rows path n.stray m.readable)
refusal_is_exact rows replicas (OtherSecret path) n m = absurd (m.secrets path n.1.other)
refusal_is_exact rows replicas (Unfit replica verdict) n m =
    absurd (unfit_law replicas (needs_of (first_rows replicas) rows) replica verdict n.2 m.fit)
refusal_is_exact rows replicas NoMemory n m = refl

-- ---- what is done

module _ (o : Opening) (st : State) (seat : ℕ) (held : Option ℕ) (faults : ℕ)
    (published : Option Publication) (row replaced : Option stored_row.Row) where
  abbrev entry : Did → Gave → Entry
  entry did gave = entry_with seat held faults published row replaced did gave

  follows_by : (did : Did) (gave : Gave) → IsStep o st (entry did gave) → IsDone gave
      → after st (entry did gave) ≡ record (judged_state did st) { count = faults }
  follows_by (Reload replica p expect) (Reloaded number) s done = given st replica number p faults s.answer.1.1
  follows_by (Join replica p) (Joined number) s done = given st replica number p faults s.answer.1.1
  follows_by did (Adopted number) s done = absurd done
  follows_by did (Found revision) s done = absurd done
  follows_by did Absent s done = absurd done
  follows_by did (Written revision) s done = absurd done
  follows_by did (Changed revision) s done = absurd done
  follows_by did Released s done = absurd done
  follows_by did (Refused verdict) s done = absurd done
  follows_by did (Moved number) s done = absurd done
  follows_by did (Present number) s done = absurd done
  follows_by did (Departed number) s done = absurd done
  follows_by did (Gone replica) s done = absurd done
  follows_by did StoreFailed s done = absurd done
  follows_by did (StoreFull needed) s done = absurd done
  follows_by did Nothing s done = absurd done
  follows_by other another s done = absurd s.answer

pub judged_state_follows : JudgedStateFollows
judged_state_follows o history e l done =
    let n = next_step o history e l in
    state_more (start_of o) history e
    ∙ follows_by o (state_of o history) e.line.seat e.line.held e.line.faults e.published e.row
    e.replaced e.line.did e.line.gave n.step done

-- ---- what a seat holds

holds_by : (st : State) (seat number : ℕ) (p : Publication) (own : Option ℕ)
    → held_by st seat ≡ own → number_with st.generations own ≡ Some (number, p)
    → Holds st seat p
holds_by st seat number p None is e = absurd (none-some (number, p) e)
holds_by st seat number p (Some n) is e = by (published_at st.generations (Some n)) refl e
  where
    by : (q : Option Publication) → published_at st.generations (Some n) ≡ q
        → with_published n q ≡ Some (number, p) → Holds st seat p
    by None none e = absurd (none-some (number, p) e)
    by (Some q) some e = record {
      number = n;
      held = is;
      published = some
          ∙ ap (λ (x : ℕ × Publication). Some x.1) (same_Some (n, q) (number, p) e);
    }

pub holding_is_live : HoldingIsLive
holding_is_live o history seat number p l w e =
    let st = state_of o history in
    held_live st seat p (holds_by st seat number p (held_by st seat) refl
    (sym (holding_of o history seat l w) ∙ e))
