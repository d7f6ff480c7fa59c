-- What a command did that no one waits in, whatever plugins were asked before.
use Rattle.std.specs.Prelude.{ℕ, List, [], Option, Result}
use Rattle.kr_kms.specs.Calls.{Link}
use Rattle.kr_kms.specs.Exchanges.{Exchange}
use Rattle.kr_cmd_messages.specs.Receipts.{Receipt}
use Rattle.kr_cmd_messages.specs.declared.command.Command.{Command}
use Rattle.kr_cmd_messages.specs.declared.refusal.Done.{Done}
use Rattle.kr_cmd_messages.specs.declared.refusal.Ended.{Ended}
use Rattle.kr_cmd_messages.specs.declared.refusal.Stop.{Stop}
use Rattle.kr_cmd_steps.specs.Environment.{Environment, with_exchanges}
use Rattle.kr_cmd_steps.specs.Heard.{Heard}
use Rattle.kr_cmd_steps.specs.Ran.{Answers}
use Rattle.kr_cmd_steps.specs.inner.Reporting.{DoesAll, saying}

-- these exchanges are told so far, or none are
abbrev pub after_hearing : Option (List Exchange) → Environment → Environment
after_hearing heard a = record a { heard = heard }

-- by these exchanges this holds of what is around before and behind, whatever was told before
abbrev pub HoldsBy : (old new : Environment) → (Environment → Environment → Type 0) → List Exchange
    → Type 0
HoldsBy old new Relates exchanges = (heard : Option (List Exchange))
    → Relates (after_hearing heard old) (with_exchanges exchanges (after_hearing heard new))

-- a command came up to its value
abbrev pub IsPerformed : Command → Ended → (before behind : Environment) → Type 0
IsPerformed command ended before behind =
    DoesAll command before (saying ended.said behind) ended.made

module _ {L : Type 0} (link : L → Link) (step : L → Exchange → L → Type 0)
    (lent took : ℕ → L → Type 0) where
  -- by exchanges with the links of seat 0
  abbrev pub HearsBetween : (old new : Environment) → (Environment → Environment → Type 0) → Type 0
  HearsBetween old new Relates =
      Heard link lent took step 0 old.world new.world [] [] (HoldsBy old new Relates)

  -- by exchanges with them a command came up to its value
  abbrev pub Performs : Command → (old new : Environment) → Ended → Type 0
  Performs command old new ended = HearsBetween old new (IsPerformed command ended)

  -- what it made is written, or the words mean none
  abbrev pub AnswersHearing : List (List ℕ) → (old new : Environment) → Receipt → Result Done Stop
      → Type 0
  AnswersHearing words old new output result = HearsBetween old new
      (λ before behind. Answers words before behind output result)
