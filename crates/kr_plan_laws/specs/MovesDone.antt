-- The moves of a plan, done one behind another: which part of a history does which move.
use Rattle.std.specs.Prelude.{◌≡◌, ◌⊎◌, ℕ, ◌≤◌, List, [], ◌∷◌, ◌++◌, Contains, IsTrue, ⊤}
use Rattle.kr_config.specs.declared.class.Class.{Class}
use Rattle.kr_config.specs.declared.who.Who.{Who}
use Rattle.kr_config.specs.Kept.{ConfigEntry, keeps}
use Rattle.kr_config.specs.Lists.{class_list}
use Rattle.kr_plan.specs.declared.moves.Phase.{Phase}
use Rattle.kr_plan.specs.declared.moves.Phase.TheVariants.{Wide, Turned, Target}
use Rattle.kr_plan.specs.declared.moves.Move.{Move}
use Rattle.kr_plan.specs.declared.moves.Move.TheVariants.{Reload, Rewrite}
use Rattle.kr_plan.specs.Merges.{wide_rows, turned_rows}
use Rattle.kr_plan.specs.Plans.{replica_moves}
use Rattle.kr_rollout.specs.declared.opening.Entry.{Entry}
use Rattle.kr_rollout.specs.declared.opening.Opening.{Opening}
use Rattle.kr_rollout.specs.Histories.{state_of, IsLegal}
use Rattle.kr_rollout.specs.States.{State}
use Rattle.kr_plan_laws.specs.LiveStates.{IsUnderWay, AreOfRound, IsOver, NoneRefused}
use Rattle.kr_plan_laws.specs.Settled.{AreSettled, WasSettled}
use Rattle.kr_plan_laws.specs.WholePlans.{IsUnused}

-- the settings that the reloads of a phase bring
abbrev pub phase_rows : (from to : List ConfigEntry) → Phase → List ConfigEntry
phase_rows from to Wide = wide_rows from to
phase_rows from to Turned = turned_rows from to
phase_rows from to Target = to

-- a reload of the same phase comes next, or the phase's round is over
abbrev pub MayGoOn : (from to : List ConfigEntry) → Phase → (next : List Move) → State → Type 0
MayGoOn from to phase (Reload replica other ∷ moves) st =
    (other ≡ phase) ⊎ IsOver (phase_rows from to phase) st
MayGoOn from to phase moves st = IsOver (phase_rows from to phase) st

-- the entries of all parts, one part behind another
abbrev pub joined : List (List Entry) → List Entry
joined [] = []
joined (part ∷ parts) = part ++ joined parts

-- Behind a history the moves are done one behind another, each in its part of the entries. While
-- replicas take up the settings of a phase no others come, and its round is over before a move that
-- is of another. While what is stored is written anew the turned settings alone may come, and each
-- path is settled at some moment, as by a rewrite that leaves nothing. Whatever else is done in a
-- part, by whom and in which order, is left open, and so is which replica takes the settings up
-- there: that a round is over says it of all.
abbrev pub AreDone : Opening → (from to : List ConfigEntry) → (history : List Entry) → List Move
    → (parts : List (List Entry)) → Type 0
AreDone o from to history [] [] = ⊤
AreDone o from to history (Reload replica phase ∷ moves) (part ∷ parts) =
    AreOfRound (phase_rows from to phase) (state_of o history) part
    × MayGoOn from to phase moves (state_of o (history ++ part))
    × AreDone o from to (history ++ part) moves parts
AreDone o from to history (Rewrite ∷ moves) (part ∷ parts) =
    AreOfRound (turned_rows from to) (state_of o history) part
    × ((path : List ℕ) → WasSettled to o history part path)
    × AreDone o from to (history ++ part) moves parts
AreDone o from to history moves parts = ⊥

-- what they come to: nothing that was judged was refused, each live configuration gives what `to`
-- does, each object needs the provider by which `to` writes, and what `to` lists nowhere is neither
-- needed nor live
pub record IsRolledOut (o : Opening) (to : List ConfigEntry) (before done : List Entry)
    : Type 0 where
  pub none_refused : NoneRefused done
  pub all_give : IsUnderWay to to (state_of o (before ++ done))
  pub settled : AreSettled to (state_of o (before ++ done))
  pub unused : (who : Who) → ((class : Class) → ¬ Contains (class_list to class) who)
      → IsUnused who (state_of o (before ++ done))

-- the moves of a plan for so many replicas, one or more, lead there from where all give `from`
abbrev pub MovesLead : (from to : List ConfigEntry) → (replicas : ℕ) → Type 0
MovesLead from to replicas = (o : Opening) (before : List Entry) (parts : List (List Entry))
    → 1 ≤ replicas → IsLegal o (before ++ joined parts) → IsUnderWay from from (state_of o before)
    → AreDone o from to before (replica_moves replicas) parts
    → IsRolledOut o to before (joined parts)

abbrev pub AllMovesLead : Type 0
AllMovesLead = (from to : List ConfigEntry) (replicas : ℕ) → IsTrue (keeps from)
    → IsTrue (keeps to) → MovesLead from to replicas
