-- A plan that is done comes to its end: nothing is refused in any of its rounds.
use Rattle.std.proofs.Common.{◌≡◌, ℕ, List, [], ◌∷◌, ◌++◌, Contains, Option, IsTrue, refl, sym, ap, subst, ◌∙◌, ◌⊎◌, inl, inr}
use Rattle.kr_config.specs.declared.class.Class.{Class}
use Rattle.kr_config.specs.declared.class.Class.TheVariants.{Exact}
use Rattle.kr_config.specs.declared.who.Who.{Who}
use Rattle.kr_config.specs.Kept.{ConfigEntry, keeps}
use Rattle.kr_config.specs.Lists.{list_of, class_list}
use Rattle.kr_config.proofs.KeptLists.{full_list}
use Rattle.kr_judge.specs.declared.verdict.Verdict.TheVariants.{Pass}
use Rattle.kr_judge.specs.Verdicts.{first}
use Rattle.kr_plan.specs.Merges.{merge, wide_rows, turned_rows}
use Rattle.kr_plan.specs.Rollouts.{GivesEither}
use Rattle.kr_plan.proofs.ClassLists.{merges_each_class}
use Rattle.kr_plan.proofs.Merged.{first_member}
use Rattle.kr_rollout.specs.declared.line.Did.{Did}
use Rattle.kr_rollout.specs.declared.line.Did.TheVariants.{Adopt, Fetch, After, Put, Delete, Replace, LetGo, Reload, Join, Leave}
use Rattle.kr_rollout.specs.declared.line.Gave.{Gave}
use Rattle.kr_rollout.specs.declared.line.Gave.TheVariants.{Adopted, Found, Absent, Written, Changed, Released, Reloaded, Joined, Refused, Moved, Present, Departed, Gone, StoreFailed, StoreFull, Nothing}
use Rattle.kr_rollout.specs.declared.opening.Entry.{Entry}
use Rattle.kr_rollout.specs.declared.opening.Opening.{Opening}
use Rattle.kr_rollout.specs.Answers.{IsAnswer}
use Rattle.kr_rollout.specs.Openings.{start_of}
use Rattle.kr_rollout.specs.Histories.{state_from, state_of, IsRun, IsLegal}
use Rattle.kr_rollout.specs.States.{State, verdict_on, IsLive}
use Rattle.kr_rollout.specs.Steps.{IsStep, after}
use Rattle.kr_history.proofs.Effects.{effect_of}
use Rattle.kr_history.proofs.Fitting.{sound_after, legal_sound}
use Rattle.kr_history.proofs.Sound.{IsSound, same_passes}
use Rattle.kr_plan_laws.specs.LiveStates.{IsUnderWay, GiveAs, BringsOnly, AreOfRound, IsNotRefused, NoneRefused}
use Rattle.kr_plan_laws.specs.Settled.{AreSettled, WriteAs, LiveWrite, BringsWriting, AllWrite}
use Rattle.kr_plan_laws.specs.WholePlans.{IsPlanDone, ComesToItsEnd, PlansComeToTheirEnd, OldKeysMayGo}
use Rattle.kr_plan_laws.proofs.Runs.{run_parts, more_state, legal_front}
use Rattle.kr_plan_laws.proofs.Rounding.{keeps_way, wide_passes, turned_passes, target_passes, next_may_begin, round_keeps}
use Rattle.kr_plan_laws.proofs.Settling.{settled_after, all_become_settled}

-- ---- one answer

-- settings of the round, that pass, aren't refused
not_refused : (o : Opening) (st : State) (held : Option ℕ) (other : List ConfigEntry) (did : Did)
    (gave : Gave) → IsSound o st → IsAnswer did gave st held → BringsOnly other st did
    → ((replica : ℕ) (rows : List ConfigEntry) → GiveAs other rows
    → verdict_on st replica rows ≡ Pass)
    → IsNotRefused gave
not_refused o st held other (Reload replica p expect) (Refused verdict) sound a (inl give) passes =
    a.1.1 (a.1.0 ∙ passes replica p.rows give)
not_refused o st held other (Reload replica p expect) (Refused verdict) sound a (inr live) passes =
    a.1.1 (a.1.0 ∙ same_passes o st sound replica p.rows live)
not_refused o st held other (Join replica p) (Refused verdict) sound a (inl give) passes =
    a.1.1 (a.1.0 ∙ passes replica p.rows give)
not_refused o st held other (Join replica p) (Refused verdict) sound a (inr live) passes =
    a.1.1 (a.1.0 ∙ same_passes o st sound replica p.rows live)
not_refused o st held other did (Adopted number) sound a b passes = tt
not_refused o st held other did (Found revision) sound a b passes = tt
not_refused o st held other did Absent sound a b passes = tt
not_refused o st held other did (Written revision) sound a b passes = tt
not_refused o st held other did (Changed revision) sound a b passes = tt
not_refused o st held other did Released sound a b passes = tt
not_refused o st held other did (Reloaded number) sound a b passes = tt
not_refused o st held other did (Joined number) sound a b passes = tt
not_refused o st held other did (Moved number) sound a b passes = tt
not_refused o st held other did (Present number) sound a b passes = tt
not_refused o st held other did (Departed number) sound a b passes = tt
not_refused o st held other did (Gone replica) sound a b passes = tt
not_refused o st held other did StoreFailed sound a b passes = tt
not_refused o st held other did (StoreFull needed) sound a b passes = tt
not_refused o st held other did Nothing sound a b passes = tt
not_refused o st held other another (Refused verdict) sound a b passes = absurd a

-- ---- a round

module _ (o : Opening) (one other : List ConfigEntry) (Stands : State → Type 0)
    (passes : (st : State) → IsSound o st → IsUnderWay one other st → Stands st → (replica : ℕ)
    (rows : List ConfigEntry) → GiveAs other rows → verdict_on st replica rows ≡ Pass)
    (kept : (st : State) (e : Entry) → IsSound o st → IsStep o st e → IsUnderWay one other st
    → Stands st → Stands (after st e)) where
  pub round_passes : (st : State) (round : List Entry) → IsSound o st → IsRun o st round
      → IsUnderWay one other st → AreOfRound other st round → Stands st
      → NoneRefused round × Stands (state_from st round)
  round_passes st [] sound run way of stands = (tt, stands)
  round_passes st (e ∷ round) sound run way of stands =
      let rest = round_passes (after st e) round
      (sound_after o st sound e (effect_of o st e run.0)) run.1
      (keeps_way o st e one other sound run.0 way of.0 of.1) of.2
      (kept st e sound run.0 way stands) in (
        (
          not_refused o st e.line.held other e.line.did e.line.gave sound (run.0).answer of.0
              (passes st sound way stands),
          rest.0,
        ),
        rest.1,
      )

-- ---- what the settings of the last rounds write

-- the first of a merged list is that of the one, where that isn't empty
first_of_one : (one other : List Who) → (one ≡ [] → ⊥) → first (merge one other) ≡ first one
first_of_one [] other some = absurd (some refl)
first_of_one (who ∷ one) other some = refl

module _ (from to : List ConfigEntry) (kept : IsTrue (keeps to)) where
  turned_writes : (rows : List ConfigEntry) (class : Class)
      → class_list rows class ≡ class_list (turned_rows from to) class
      → first (class_list rows class) ≡ first (class_list to class)
  turned_writes rows class is = ap first (is ∙ (merges_each_class from to class).1)
      ∙ first_of_one (class_list to class) (class_list from class) (full_list to class kept)

  either_writes : (rows : List ConfigEntry) (class : Class)
      → GivesEither (turned_rows from to) to rows class
      → first (class_list rows class) ≡ first (class_list to class)
  either_writes rows class (inl is) = turned_writes rows class is
  either_writes rows class (inr is) = ap first is

  -- each live configuration of the last round writes as the target does
  pub way_writes : (st : State) → IsUnderWay (turned_rows from to) to st → LiveWrite to st
  way_writes st way rows live class = either_writes rows class (way.gives rows class live)

  -- while the turned settings alone come, what comes writes so too
  pub turned_brings : (o : Opening) (st : State) (round : List Entry) → IsSound o st
      → IsRun o st round → IsUnderWay (turned_rows from to) (turned_rows from to) st
      → AreOfRound (turned_rows from to) st round → AllWrite to round
  turned_brings o st [] sound run way of = tt
  turned_brings o st (e ∷ round) sound run way of = (
    by e.line.did of.0,
    turned_brings o (after st e) round (sound_after o st sound e (effect_of o st e run.0)) run.1
        (keeps_way o st e (turned_rows from to) (turned_rows from to) sound run.0 way of.0 of.1)
        of.2,
  )
    where
      brought : (rows : List ConfigEntry) → GiveAs (turned_rows from to) rows ⊎ IsLive st rows
          → WriteAs to rows
      brought rows (inl give) class = turned_writes rows class (give class)
      brought rows (inr live) class = elim (way.gives rows class live) [
        | inl is ↦ turned_writes rows class is
        | inr is ↦ turned_writes rows class is
      ]

      by : (did : Did) → BringsOnly (turned_rows from to) st did → BringsWriting to did
      by (Reload replica p expect) b = brought p.rows b
      by (Join replica p) b = brought p.rows b
      by (Adopt replica) b = tt
      by (Fetch path) b = tt
      by (After path) b = tt
      by (Put path resource plain) b = tt
      by (Delete path) b = tt
      by (Replace path revision) b = tt
      by LetGo b = tt
      by (Leave replica) b = tt

  -- what is settled stays so in the last round
  pub target_keeps : (o : Opening) (st : State) (e : Entry) → IsSound o st → IsStep o st e
      → IsUnderWay (turned_rows from to) to st → AreSettled to st → AreSettled to (after st e)
  target_keeps o st e sound step way settled need m =
      settled_after o st sound to (way_writes st way) need.path (λ own there at. settled own there)
      e step need m refl

-- ---- states between rounds

-- where all give the one settings, a round from these to any is under way, and one to these
pub from_one : (one other : List ConfigEntry) (st : State) → IsUnderWay one one st
    → IsUnderWay one other st
from_one one other st way = record {
  some_in = way.some_in;
  gives = λ rows class live. elim (way.gives rows class live) [
    | inl is ↦ inl is
    | inr is ↦ inl is
  ];
}

onto_one : (one other : List ConfigEntry) (st : State) → IsUnderWay one one st
    → IsUnderWay other one st
onto_one one other st way = record {
  some_in = way.some_in;
  gives = λ rows class live. elim (way.gives rows class live) [
    | inl is ↦ inr is
    | inr is ↦ inr is
  ];
}

none_of_both : (one other : List Entry) → NoneRefused one → NoneRefused other
    → NoneRefused (one ++ other)
none_of_both [] other a b = b
none_of_both (e ∷ one) other a b = (a.0, none_of_both one other a.1 b)

-- ---- the plan

module _ (o : Opening) (from to : List ConfigEntry)
    (before one two rewrite three : List Entry) (kept_from : IsTrue (keeps from))
    (kept_to : IsTrue (keeps to)) (plan : IsPlanDone o from to before one two rewrite three) where
  abbrev Wide : List ConfigEntry
  Wide = wide_rows from to

  abbrev Turned : List ConfigEntry
  Turned = turned_rows from to

  -- the histories up to each round's end
  abbrev H1 : List Entry
  H1 = before ++ one

  abbrev H2 : List Entry
  H2 = H1 ++ two

  abbrev H3 : List Entry
  H3 = H2 ++ rewrite

  abbrev H4 : List Entry
  H4 = H3 ++ three

  legal_3 : IsLegal o H3
  legal_3 = legal_front o H3 three plan.legal

  legal_2 : IsLegal o H2
  legal_2 = legal_front o H2 rewrite legal_3

  legal_1 : IsLegal o H1
  legal_1 = legal_front o H1 two legal_2

  legal_0 : IsLegal o before
  legal_0 = legal_front o before one legal_1

  way_0 : IsUnderWay from Wide (state_of o before)
  way_0 = from_one from Wide (state_of o before) plan.begins

  way_1 : IsUnderWay Wide Turned (state_of o H1)
  way_1 = next_may_begin o H1 Wide Turned
      (round_keeps o before one from Wide legal_1 way_0 plan.wide).some_in plan.wide_over

  way_2 : IsUnderWay Turned Turned (state_of o H2)
  way_2 = next_may_begin o H2 Turned Turned
      (round_keeps o H1 two Wide Turned legal_2 way_1 plan.turned).some_in plan.turned_over

  way_3 : IsUnderWay Turned Turned (state_of o H3)
  way_3 = round_keeps o H2 rewrite Turned Turned legal_3 way_2 plan.meanwhile

  way_3_on : IsUnderWay Turned to (state_of o H3)
  way_3_on = from_one Turned to (state_of o H3) way_3

  way_4 : IsUnderWay to to (state_of o H4)
  way_4 = next_may_begin o H4 to to
      (round_keeps o H3 three Turned to plan.legal way_3_on plan.target).some_in plan.target_over

  settled_3 : AreSettled to (state_of o H3)
  settled_3 = all_become_settled o H2 rewrite to legal_3
      (way_writes from to kept_to (state_of o H2) (from_one Turned to (state_of o H2) way_2))
      (turned_brings from to kept_to o (state_of o H2) rewrite (legal_sound o H2 legal_2)
      (run_parts o (start_of o) H2 rewrite legal_3.runs).1 way_2 plan.meanwhile) plan.rewritten

  passed_1 : NoneRefused one
  passed_1 = (round_passes o from Wide (λ st. Unit {0})
      (λ st sound way stands replica rows give.
      wide_passes o st sound from to rows replica kept_from way give)
      (λ st e sound step way stands. tt)
      (state_of o before) one (legal_sound o before legal_0)
      (run_parts o (start_of o) before one legal_1.runs).1 way_0 plan.wide tt).0

  passed_2 : NoneRefused two
  passed_2 = (round_passes o Wide Turned (λ st. Unit {0})
      (λ st sound way stands replica rows give.
      turned_passes o st sound from to rows replica way give)
      (λ st e sound step way stands. tt)
      (state_of o H1) two (legal_sound o H1 legal_1)
      (run_parts o (start_of o) H1 two legal_2.runs).1 way_1 plan.turned tt).0

  passed_3 : NoneRefused rewrite
  passed_3 = (round_passes o Wide Turned (λ st. Unit {0})
      (λ st sound way stands replica rows give.
      turned_passes o st sound from to rows replica way give)
      (λ st e sound step way stands. tt)
      (state_of o H2) rewrite (legal_sound o H2 legal_2)
      (run_parts o (start_of o) H2 rewrite legal_3.runs).1
      (onto_one Turned Wide (state_of o H2) way_2) plan.meanwhile tt).0

  last_round : NoneRefused three × AreSettled to (state_from (state_of o H3) three)
  last_round = round_passes o Turned to (AreSettled to)
      (λ st sound way settled replica rows give.
      target_passes o st sound from to rows replica kept_to way settled give)
      (target_keeps from to kept_to o)
      (state_of o H3) three (legal_sound o H3 legal_3)
      (run_parts o (start_of o) H3 three (plan.legal).runs).1 way_3_on plan.target settled_3

  pub done : ComesToItsEnd o to before one two rewrite three
  done = record {
    none_refused = none_of_both (one ++ two ++ rewrite) three
        (none_of_both (one ++ two) rewrite (none_of_both one two passed_1 passed_2) passed_3)
        last_round.0;
    all_give = way_4;
    settled = subst (AreSettled to) (sym (more_state (start_of o) H3 three)) last_round.1;
  }

pub plans_come_to_their_end : PlansComeToTheirEnd
plans_come_to_their_end o from to before one two rewrite three kept_from kept_to plan =
    done o from to before one two rewrite three kept_from kept_to plan

-- ---- what may go

pub old_keys_may_go : OldKeysMayGo
old_keys_may_go o history to who way settled unlisted = record {
  stored = λ need m is. unlisted (Exact need.resource)
      (subst (Contains (list_of to need.resource)) is
      (first_member (list_of to need.resource) need.who (settled need m)));
  live = λ rows class live listed. unlisted class
      (elim (way.gives rows class live) [
        | inl is ↦ subst (λ l. Contains l who) is listed
        | inr is ↦ subst (λ l. Contains l who) is listed
      ]);
}
