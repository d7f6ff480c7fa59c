use Rattle.std.proofs.Common.{Some, subst, sym}
use Rattle.kr_base.specs.Rules.{IsPath, IsResource}
use Rattle.kr_cmd_messages.proofs.Asked.{put_path, put_resource}
use Rattle.kr_cmd_messages.proofs.command.put_command.Goals as goal

pub returns-in-Ok-clause-path : goal.returns-in-Ok-clause-path
returns-in-Ok-clause-path c = (
  subst IsPath (sym c.in-Ok.ensures.3)
      (put_path c.requires.command c.requires.verb (Some c.in-Some-value-3.path.now)
      c.in-Some-value-3.ensures),
  subst IsResource (sym c.in-Ok.ensures.2)
      (put_resource c.requires.command (Some c.in-Some-value-2.resource.now)
      c.in-Some-value-2.ensures),
)
