use Rattle.std.proofs.Common.{◌∙◌}
use Rattle.kr_kms.specs.declared.world.Access.TheVariants.{ToRead}
use Rattle.kr_cmd_steps.specs.Environment.{with_world}
use Rattle.kr_cmd_steps.proofs.Tapes.{not_lent, lends_tape, is_out}
use Rattle.kr_cmd_store.proofs.rows.list.Goals as goal

pub returns-in-Err-clause-does : goal.returns-in-Err-clause-does
returns-in-Err-clause-does g c a = not_lent c.in-Err.ensures.files c.in-Err.ensures.objects a c.args.name.now
    ToRead c.in-Err.stop c.in-Err.ensures.why c.in-Err.ensures.asked

pub returns-in-Err-clause-links : goal.returns-in-Err-clause-links
returns-in-Err-clause-links g c = c.in-Err.ensures.objects.links

pub close_tape-requires-clause-out : goal.close_tape-requires-clause-out
close_tape-requires-clause-out g c = λ κs lives. is_out c.args.name.now c.in-Ok.ensures.lent

pub returns-clause-links : goal.returns-clause-links
returns-clause-links g c = c.close_tape.ensures.links ∙ c.in-Ok.ensures.lent.links

pub returns-clause-does : goal.returns-clause-does
returns-clause-does g c a = lends_tape c.args.name.now ToRead a c.in-Ok.ensures.lent c.close_tape.ensures
    (c.list_on_tape-made.ensures c.args.name.now (with_world (g.W.World.told c.open_tape.new.world) a))
