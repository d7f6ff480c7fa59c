-- A whole plan, done: its rounds in their order, with whatever else is done meanwhile.
use Rattle.std.specs.Prelude.{◌≢◌, IsTrue, ℕ, List, [], ◌++◌, Contains, IsSome}
use Rattle.kr_store.specs.Rows.{live}
use Rattle.kr_config.specs.declared.class.Class.{Class}
use Rattle.kr_config.specs.declared.who.Who.{Who}
use Rattle.kr_config.specs.Kept.{ConfigEntry, keeps}
use Rattle.kr_config.specs.Lists.{class_list}
use Rattle.kr_judge.specs.declared.need.Need.{Need}
use Rattle.kr_plan.specs.Merges.{wide_rows, turned_rows}
use Rattle.kr_rollout.specs.declared.opening.Entry.{Entry}
use Rattle.kr_rollout.specs.declared.opening.Opening.{Opening}
use Rattle.kr_rollout.specs.Histories.{state_of, IsLegal}
use Rattle.kr_rollout.specs.States.{State, IsLive}
use Rattle.kr_plan_laws.specs.LiveStates.{IsUnderWay, AreOfRound, IsOver, NoneRefused}
use Rattle.kr_plan_laws.specs.Settled.{AreSettled, WasSettled}

-- A history that does a plan. Before it each live configuration gives what `from` does. Then a
-- round brings the wide settings, one the turned ones; while these alone may come, each path is
-- settled at some moment, as a rewrite does that leaves nothing; and a last round brings `to`. Each
-- round is over before the next begins. In none is anything said of who does what, nor when.
pub record IsPlanDone (o : Opening) (from to : List ConfigEntry)
    (before first second rewrite last : List Entry) : Type 0 where
  pub legal : IsLegal o (before ++ first ++ second ++ rewrite ++ last)
  pub begins : IsUnderWay from from (state_of o before)
  pub wide : AreOfRound (wide_rows from to) (state_of o before) first
  pub wide_over : IsOver (wide_rows from to) (state_of o (before ++ first))
  pub turned : AreOfRound (turned_rows from to) (state_of o (before ++ first)) second
  pub turned_over : IsOver (turned_rows from to) (state_of o (before ++ first ++ second))
  pub meanwhile : AreOfRound (turned_rows from to) (state_of o (before ++ first ++ second)) rewrite
  pub rewritten : (path : List ℕ) → WasSettled to o (before ++ first ++ second) rewrite path
  pub target : AreOfRound to (state_of o (before ++ first ++ second ++ rewrite)) last
  pub target_over : IsOver to (state_of o (before ++ first ++ second ++ rewrite ++ last))

-- what it comes to: nothing that was judged was refused, each live configuration gives what `to`
-- does, and each object needs the provider by which `to` writes. So a plan from `to` may begin
pub record ComesToItsEnd (o : Opening) (to : List ConfigEntry)
    (before first second rewrite last : List Entry) : Type 0 where
  pub none_refused : NoneRefused (first ++ second ++ rewrite ++ last)
  pub all_give : IsUnderWay to to (state_of o (before ++ first ++ second ++ rewrite ++ last))
  pub settled : AreSettled to (state_of o (before ++ first ++ second ++ rewrite ++ last))

abbrev pub PlansComeToTheirEnd : Type 0
PlansComeToTheirEnd = (o : Opening) (from to : List ConfigEntry)
    (before first second rewrite last : List Entry) → IsTrue (keeps from) → IsTrue (keeps to)
    → IsPlanDone o from to before first second rewrite last
    → ComesToItsEnd o to before first second rewrite last

-- a provider is needed by nothing that is stored, and in no list of a live configuration
pub record IsUnused (who : Who) (st : State) : Type 0 where
  pub stored : (need : Need) → Contains st.needs need → need.who ≢ who
  pub live : (rows : List ConfigEntry) (class : Class) → IsLive st rows
      → (¬ Contains (class_list rows class) who)

-- so a key that `to` lists at no class may go then
abbrev pub OldKeysMayGo : Type 0
OldKeysMayGo = (o : Opening) (history : List Entry) (to : List ConfigEntry) (who : Who)
    → IsUnderWay to to (state_of o history) → AreSettled to (state_of o history)
    → ((class : Class) → ¬ Contains (class_list to class) who)
    → IsUnused who (state_of o history)

-- that a plan can be done: here is one, with an object that is written meanwhile
pub record PlanExample : Type 0 where
  pub opening : Opening
  pub from : List ConfigEntry
  pub to : List ConfigEntry
  pub kept : IsTrue (keeps from) × IsTrue (keeps to)
  pub first : List Entry
  pub second : List Entry
  pub rewrite : List Entry
  pub last : List Entry
  pub done : IsPlanDone opening from to [] first second rewrite last
  pub path : List ℕ
  pub stored : IsSome (live (state_of opening ([] ++ first ++ second ++ rewrite ++ last)).rows path)
