-- The last step of a command over what is told decides its status.
use Rattle.std.proofs.Common.{◌≡◌, ℕ, List, [], Option, None, Some, Result, refl, sym, ◌∙◌, ap, subst, inl, inr}
use Rattle.std.specs.Prelude.{IsSome}
use Rattle.std.specs.Option.{option_map}
use Rattle.kr_kms.specs.Exchanges.{Exchange}
use Rattle.kr_cmd_messages.proofs.OneCommand.{one_command}
use Rattle.kr_cmd_messages.specs.Command.{Asks}
use Rattle.kr_cmd_messages.specs.declared.command.Command.{Command}
use Rattle.kr_cmd_messages.specs.declared.refusal.Done.{Done}
use Rattle.kr_cmd_messages.specs.declared.refusal.Outcome.{Outcome}
use Rattle.kr_cmd_messages.specs.declared.refusal.Stop.{Stop}
use Rattle.kr_cmd_steps.specs.Environment.{Environment, step_state}
use Rattle.kr_cmd_steps.specs.Commands.{steps}
use Rattle.kr_cmd_steps.specs.Ran.{Closes, Comes, IsUnasked, end_at}
use Rattle.kr_cmd_steps.specs.Steps.{RunTo, StepState, Point, awaits, amid, refuses, gives}
use Rattle.kr_cmd_steps.specs.Telling.{AnswersOnce, IsTold, MayEnd}
use Rattle.kr_cmd_steps.proofs.Ends.{decided_stop}
use Rattle.kr_cmd_laws.specs.Results.{HoldAlike}
use Rattle.kr_cmd_laws.proofs.LastSteps.{IsLast}
use Rattle.kr_cmd_laws.proofs.OneWay.{Shared, command_way}

-- ---- what is told of one call

shared_itself : {T : Type 0} (told : Option T) → Shared told told told
shared_itself None = tt
shared_itself (Some x) = (refl, refl)

alike_itself : (tape : Option (Option (List ℕ))) → HoldAlike tape tape
alike_itself None = tt
alike_itself (Some bytes) = inl refl

-- where exchanges are told, there are none before them
none_before : (old exchanges : Option (List Exchange)) → old ≡ option_map (λ told. []) exchanges
    → IsSome exchanges → old ≡ Some []
none_before old None e some = absurd cc
none_before old (Some told) e some = e

is_last : (point : Point Outcome) (n : Result Done Stop) → end_at point ≡ Some n → IsLast point
is_last (refuses why) n at = tt
is_last (gives made) n at = tt
is_last other n at = absurd cc

-- closing a command asks no plugin
heard_last : (command : Command) (stop point : Point Outcome) (end last : StepState)
    (n : Result Done Stop)
    → end_at point ≡ Some n → Closes command stop end point last → last.heard ≡ end.heard
heard_last command stop point end last n at (inl (s, (p, e))) = ap (λ (l : StepState). l.heard) e
heard_last command stop point end last n at (inr (stops, (name, is, inl (p, e)))) =
    ap (λ (l : StepState). l.heard) e
heard_last command stop point end last n at (inr (stops, (name, is, inr (p, e)))) =
    absurd (let q : None ≡ Some n = sym (ap end_at p) ∙ at in cc)

-- ---- words ask for one command

-- a command that came to a point ended as its steps may end
pub same_end : {words : List (List ℕ)} {old new : Environment} {command : Command} {q : Point Outcome}
    (point : Point Outcome) (m n : Result Done Stop)
    → Asks words command → IsUnasked old new → AnswersOnce new.heard
    → IsTold new.heard (steps command) (step_state old) → MayEnd new.heard command old point
    → Comes words old new q → end_at point ≡ Some m → end_at q ≡ Some n → m ≡ n
same_end {words} {old} {new} {command} {q} point m n asks unasked once told may (said, comes) at
    decides =
    let r = comes.reaches in
    let goes : RunTo q r.end (steps command) (step_state old) =
    subst (λ c. RunTo q r.end (steps c) (step_state old)) (one_command comes.asks asks)
    (subst (λ p. RunTo p r.end (steps comes.command) (step_state old))
    (decided_stop comes.command r.stop q r.end r.last n decides r.closes) r.goes) in
    let heard : r.end.heard ≡ new.heard =
    sym (heard_last comes.command r.stop q r.end r.last n decides r.closes) ∙ sym r.stays.heard in
    let left : StepState = step_state old in
    let met = command_way new.heard point q may.end r.end (is_last point m at) (is_last q n decides)
    may.heard heard once command left left left told (
      λ name. shared_itself (left.file name),
      λ name. shared_itself (left.tapes name),
      shared_itself left.input,
      λ seat. shared_itself (left.dice seat),
      λ name. alike_itself (left.tapes name),
      refl,
      λ some. (
        [],
        [],
        none_before old.heard new.heard unasked some,
        none_before old.heard new.heard unasked some,
        refl,
      ),
    ) may.goes goes in
    let both : Some m ≡ Some n = sym at ∙ ap end_at met.0 ∙ decides in cc
