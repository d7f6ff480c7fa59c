-- What a command did up to its value, by what its own call says.
use Rattle.std.proofs.Common.{◌≡◌, ℕ, List, Option, Result, [], None, refl, sym, ap, subst, inl}
use Rattle.kr_kms.specs.Calls.{Link}
use Rattle.kr_kms.specs.Exchanges.{Exchange}
use Rattle.kr_kms.specs.Outside.{Objects, Outside}
use Rattle.kr_kms.specs.declared.plugin.Status.{Status}
use Rattle.kr_cmd_messages.specs.declared.command.Command.{Command}
use Rattle.kr_cmd_messages.specs.Receipts.{Receipt}
use Rattle.kr_cmd_messages.specs.declared.refusal.Done.{Done}
use Rattle.kr_cmd_messages.specs.declared.refusal.Ended.{Ended}
use Rattle.kr_cmd_messages.specs.declared.refusal.Outcome.{Outcome}
use Rattle.kr_cmd_messages.specs.declared.refusal.Stop.{Stop}
use Rattle.kr_cmd_steps.specs.Environment.{Environment, around, with_exchanges, with_world}
use Rattle.kr_cmd_steps.specs.Commands.{steps}
use Rattle.kr_cmd_steps.specs.Heard.{Heard}
use Rattle.kr_cmd_steps.specs.Ran.{Answers, StopsAtOnce, WroteNothing}
use Rattle.kr_cmd_steps.specs.inner.Lent.{with_told_input}
use Rattle.kr_cmd_steps.specs.inner.Phases.{Does}
use Rattle.kr_cmd_steps.specs.inner.Reporting.{DoesAll, saying}
use Rattle.kr_cmd_steps.proofs.Ends.{does_all}
use Rattle.kr_cmd_steps.proofs.Hearing.{around_none}
use Rattle.kr_cmd_steps.proofs.HeardLinks.{heard_nothing, heard_so, nothing_does}
use Rattle.kr_top.specs.inner.Parts.{AnswersHearing, HoldsBy, IsPerformed, Performs, after_hearing}

-- no link was handed out
same_handed : {old new : Objects (ℕ × List ℕ) (Option Status)} → new ≡ old
    → new.handed ≡ old.handed
same_handed same = ap (λ (o : Objects (ℕ × List ℕ) (Option Status)). o.handed) same

-- a command that reports nothing
silently_by : {a b : Command} {old new : Environment} {made : Result Outcome Stop} (ended : Ended)
    → a ≡ b → ended ≡ record { made = made; said = None } → Does (steps a) old new made
    → new.said ≡ [] → DoesAll b old (saying ended.said new) ended.made
silently_by {a} {b} {old} {new} {made} ended e is d silent =
    subst (λ (n : Ended). DoesAll b old (saying n.said new) n.made) (sym is)
    (subst (λ c. DoesAll c old new made) e (does_all a made silent d))

module _ {L : Type 0} (link : L → Link) (step : L → Exchange → L → Type 0)
    (lent took : ℕ → L → Type 0) (w v : Outside) (before : Option (List ℕ)) (m : ℕ)
    (behind : Option (List ℕ)) (n : ℕ) where
  -- it touches the world and the input, and asks plugins
  pub asking : {a b : Command} {made : Result Outcome Stop} (ended : Ended) → a ≡ b
      → ended ≡ record { made = made; said = None }
      → Heard link lent took step 0 w v [] [] (λ es. (x : Environment) → Does (steps a)
      (with_told_input before m (with_world w x))
      (with_told_input behind n (with_world v (with_exchanges es x))) made)
      → Performs link step lent took b (around w before m) (around v behind n) ended
  asking {a} {b} {made} ended e is heard = heard_so link lent took step 0 [] [] _
      (HoldsBy (around w before m) (around v behind n) (IsPerformed b ended)) heard
      (λ es does told. silently_by {a = a} {b = b} ended e is
      (does (after_hearing told (around w before m))) refl)

  -- or it asks none
  pub unasking : {a b : Command} {made : Result Outcome Stop} (ended : Ended) → a ≡ b
      → ended ≡ record { made = made; said = None } → v.links.handed ≡ w.links.handed
      → ((x : Environment) → Does (steps a) (with_told_input before m (with_world w x))
      (with_told_input behind n (with_world v x)) made)
      → Performs link step lent took b (around w before m) (around v behind n) ended
  unasking ended e is same does = asking ended e is
      (nothing_does link lent took step 0 same [] (λ x. with_told_input before m (with_world w x))
      (λ x. with_told_input behind n (with_world v x)) does)

module _ {L : Type 0} (link : L → Link) (step : L → Exchange → L → Type 0)
    (lent took : ℕ → L → Type 0) (w v : Outside) (input : Option (List ℕ)) (m : ℕ) where
  -- the input stays
  pub asking_alone : {a b : Command} {made : Result Outcome Stop} (ended : Ended) → a ≡ b
      → ended ≡ record { made = made; said = None }
      → Heard link lent took step 0 w v [] [] (λ es. (x : Environment) → Does (steps a)
      (with_world w x) (with_world v (with_exchanges es x)) made)
      → Performs link step lent took b (around w input m) (around v input m) ended
  asking_alone ended e is heard = asking link step lent took w v input m input m ended e is
      (heard_so link lent took step 0 [] [] _ _ heard
      (λ es does x. does (with_told_input input m x)))

  pub unasking_alone : {a b : Command} {made : Result Outcome Stop} (ended : Ended) → a ≡ b
      → ended ≡ record { made = made; said = None } → v.links ≡ w.links
      → ((x : Environment) → Does (steps a) (with_world w x) (with_world v x) made)
      → Performs link step lent took b (around w input m) (around v input m) ended
  unasking_alone ended e is same does = unasking link step lent took w v input m input m ended e
      is (same_handed same) (λ x. does (with_told_input input m x))

  -- and a command that reports where it stops
  pub reporting : {a b : Command} (ended : Ended) → a ≡ b
      → Heard link lent took step 0 w v [] [] (λ es. (x : Environment) → x.said ≡ [] → DoesAll a
      (with_world w x) (saying ended.said (with_world v (with_exchanges es x))) ended.made)
      → Performs link step lent took b (around w input m) (around v input m) ended
  reporting {a} {b} ended e heard = heard_so link lent took step 0 [] [] _
      (HoldsBy (around w input m) (around v input m) (IsPerformed b ended)) heard
      (λ es does told. subst (λ c. IsPerformed c ended (after_hearing told (around w input m))
      (with_exchanges es (after_hearing told (around v input m)))) e
      (does (after_hearing told (around w input m)) refl))

-- the words stop the call before anything is done
pub unanswered : {L : Type 0} (link : L → Link) (step : L → Exchange → L → Type 0)
    (lent took : ℕ → L → Type 0) (words : List (List ℕ)) (a : Environment) (output : Receipt)
    (result : Result Done Stop) → StopsAtOnce words result → WroteNothing output
    → AnswersHearing link step lent took words a a output result
unanswered link step lent took words a output result stops idle =
    heard_nothing link lent took step 0 refl []
    (HoldsBy a a (λ before behind. Answers words before behind output result))
    (λ heard. inl (stops, (around_none (after_hearing heard a), idle)))
