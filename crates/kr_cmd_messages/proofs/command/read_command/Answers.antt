use Rattle.std.proofs.Common.{subst}
use Rattle.kr_words.specs.Grammar.{texts}
use Rattle.kr_cmd_messages.specs.inner.Asking.{KeepsRules}
use Rattle.kr_cmd_messages.proofs.Asked.{asks, asks_nothing}
use Rattle.kr_cmd_messages.proofs.NoneAsked.{stops_command}
use Rattle.kr_cmd_messages.proofs.command.read_command.Goals as goal

pub returns-in-Err : goal.returns-in-Err
returns-in-Err c = stops_command (texts c.args.words.now) c.in-Err.stop c.in-Err.ensures

pub returns-in-Some : goal.returns-in-Some
returns-in-Some c = let read = c.in-Ok.ensures in (
  asks _ read.0 c.in-Ok-verb_command.ensures.command read.1 read.2 read.3 c.in-Some.is,
  subst KeepsRules c.in-Some.is c.in-Ok-verb_command.ensures.path,
)

pub returns-in-None : goal.returns-in-None
returns-in-None c = let read = c.in-Ok.ensures in
    asks_nothing _ read.0 c.in-Ok-verb_command.ensures.command (read.2, read.3) c.in-None.is
