use Rattle.std.proofs.Common.{◌≤◌, length, subst, sym}
use Rattle.kr_base.specs.Limits.{path_limit}
use Rattle.kr_cmd_messages.proofs.command.lookup_command.Goals as goal

pub returns-in-Ok-clause-path : goal.returns-in-Ok-clause-path
returns-in-Ok-clause-path c = subst (λ p. length p ≤ path_limit) (sym c.in-Ok.ensures.2)
    c.in-Some-path_value.ensures.short
