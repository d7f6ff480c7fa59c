use Rattle.std.proofs.Common.{arith, subst, sym}
use Rattle.kr_cmd_messages.specs.inner.Asking.{HasReplicas}
use Rattle.kr_cmd_messages.proofs.command.judgement_command.Goals as goal

pub returns-in-Ok-clause-path : goal.returns-in-Ok-clause-path
returns-in-Ok-clause-path c =
    let one = c.in-Some.ensures.given c.requires.command c.requires.verb c.requires.few.0 in
    subst HasReplicas (sym c.new.ensures) (record {
      some = omega (arith, one);
      few = c.requires.few.0;
      replica = c.in-Some._reload.replica;
      file = c.in-Some._reload.file.now;
      reload = c.in-Some.ensures.reload;
      is_one = one;
    })
