-- `answer`: the value of the command was written, or the words mean none.
use Rattle.std.proofs.Common.{◌≡◌, ℕ, List, [], Option, None, Some, Result, Err, refl, subst, inr}
use Rattle.kr_words.specs.Grammar.{texts}
use Rattle.kr_cmd_steps.specs.Environment.{Environment, around, with_exchanges, with_what_is_said}
use Rattle.kr_cmd_messages.specs.Command.{Asks}
use Rattle.kr_cmd_steps.specs.Ran.{Answers, StopsAtOnce, Writes}
use Rattle.kr_cmd_messages.specs.Receipts.{Receipt, receipt}
use Rattle.kr_cmd_messages.specs.inner.Asking.{IsReadAs}
use Rattle.kr_cmd_steps.specs.inner.Reporting.{DoesAll, saying, said_text}
use Rattle.kr_cmd_messages.specs.declared.command.Command.{Command}
use Rattle.kr_cmd_messages.specs.declared.refusal.Done.{Done}
use Rattle.kr_cmd_messages.specs.declared.refusal.Outcome.{Outcome}
use Rattle.kr_cmd_messages.specs.declared.report.RewriteCounts.{RewriteCounts}
use Rattle.kr_cmd_messages.specs.declared.refusal.Stop.{Stop}
use Rattle.kr_cmd_messages.specs.declared.refusal.Stop.TheVariants.{Words, NoMemory}
use Rattle.kr_cmd_steps.proofs.HeardLinks.{heard_so}
use Rattle.kr_top.specs.inner.Parts.{after_hearing}
use Rattle.kr_top.proofs.Performing.{unanswered}
use Rattle.kr_top.proofs.call.answer.Goals as goal

at_once : (words : List (List ℕ)) (stop : Stop) → IsReadAs words (Err stop)
    → StopsAtOnce words (Err stop)
at_once words (Words why) bad = bad
at_once words NoMemory bad = tt
at_once words other bad = absurd bad

-- what a command reported was said
said_so : (said : Option RewriteCounts) (now : Environment) → now.said ≡ []
    → saying said now ≡ with_what_is_said (said_text said) now
said_so None now silent = λ i. record now { said = silent i }
said_so (Some counts) now silent = refl

answers_by : (words : List (List ℕ)) (old now : Environment) → now.said ≡ [] → (command : Command)
    (said : Option RewriteCounts) (made : Result Outcome Stop) (output : Receipt)
    (result : Result Done Stop) → Asks words command
    → DoesAll command old (saying said now) made → Writes (said_text said) output made result
    → Answers words old now output result
answers_by words old now silent command said made output result asks does writes =
    let did : DoesAll command old (with_what_is_said (said_text said) now) made =
    subst (λ n. DoesAll command old n made) (said_so said now silent) does in inr (
      said_text said,
      made,
      record {
        command = command;
        asks = asks;
        home = did.home;
        ends = did.ends;
      },
      writes,
    )

pub returns-in-Err-clause-answers : goal.returns-in-Err-clause-answers
returns-in-Err-clause-answers g c =
    unanswered g.W.Link.Kms.link g.W.Link.Kms.step g.W.World.lent g.W.World.took
    (texts c.args.words.now) (around (g.W.World.told c.args.world.now)
    (g.I.Source.left c.args.input.now) (g.I.Source.count c.args.input.now))
    (receipt (g.O.Sink.held c.args.output.now) (g.O.Sink.held c.args.output.now)
    (g.O.Sink.count c.args.output.now) (g.O.Sink.count c.args.output.now)) (Err c.in-Err.stop)
    (at_once (texts c.args.words.now) c.in-Err.stop c.in-Err.ensures) (refl, refl)

pub returns-clause-answers : goal.returns-clause-answers
returns-clause-answers g c =
    heard_so g.W.Link.Kms.link g.W.World.lent g.W.World.took g.W.Link.Kms.step 0 [] [] _ _
    c.perform-ended.ensures
    (λ es does heard. answers_by (texts c.args.words.now)
    (after_hearing heard (around (g.W.World.told c.args.world.now)
    (g.I.Source.left c.args.input.now) (g.I.Source.count c.args.input.now)))
    (with_exchanges es (after_hearing heard
    (around (g.W.World.told c.perform-ended.new.world)
    (g.I.Source.left c.perform-ended.new.input) (g.I.Source.count c.perform-ended.new.input))))
    refl c.in-Ok.command c.perform-ended.result.said
    c.perform-ended.result.made _ _ c.in-Ok.ensures.0 (does heard) c.write_output.ensures.written)
