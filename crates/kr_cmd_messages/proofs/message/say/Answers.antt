use Rattle.kr_cmd_messages.proofs.message.say.Goals as goal

pub returns : goal.returns
returns g c = record {
  ok = c.write_each.ensures.ok;
  err = c.write_each.ensures.err;
  cause = c.write_each.ensures.cause;
}
