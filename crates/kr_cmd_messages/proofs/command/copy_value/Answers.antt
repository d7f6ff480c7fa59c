use Rattle.std.proofs.Common.{Some, ap, ◌∙◌}
use Rattle.kr_cmd_messages.proofs.command.copy_value.Goals as goal

pub returns-in-Ok : goal.returns-in-Ok
returns-in-Ok c = ap Some c.in-Ok.ensures ∙ c.in-Some.ensures

pub returns-in-None : goal.returns-in-None
returns-in-None c = c.in-None.ensures
