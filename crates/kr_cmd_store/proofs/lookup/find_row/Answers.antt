-- The store's tape is borrowed for the look-up, and is back then.
use Rattle.std.proofs.Common.{◌∙◌}
use Rattle.kr_kms.specs.declared.world.Access.TheVariants.{ToRead}
use Rattle.kr_cmd_steps.specs.Environment.{with_world}
use Rattle.kr_cmd_steps.specs.StoreSteps.{row_on}
use Rattle.kr_cmd_steps.specs.Phases.{read_for}
use Rattle.kr_cmd_steps.proofs.RunTo.{by_bytes}
use Rattle.kr_cmd_steps.proofs.Returning.{lends_read, read_links}
use Rattle.kr_cmd_steps.proofs.Tapes.{not_lent, is_out}
use Rattle.kr_cmd_store.proofs.lookup.find_row.Goals as goal

pub returns-in-Err-clause-does : goal.returns-in-Err-clause-does
returns-in-Err-clause-does g c a =
    by_bytes (λ name. read_for name (row_on name c.args.path.now)) c.as_str-name.ensures
    (not_lent c.in-Err.ensures.files c.in-Err.ensures.objects a c.as_str-name.result.now ToRead
    c.in-Err.stop c.in-Err.ensures.why c.in-Err.ensures.asked)

pub returns-in-Err-clause-links : goal.returns-in-Err-clause-links
returns-in-Err-clause-links g c = c.in-Err.ensures.objects.links

pub return_tape-requires-clause-out : goal.return_tape-requires-clause-out
return_tape-requires-clause-out g c =
    λ κs lives. is_out c.as_str-name.result.now c.in-Ok.ensures.lent

pub returns-clause-does : goal.returns-clause-does
returns-clause-does g c a =
    let name = c.as_str-name.result.now in
    let mid = g.W.World.told c.open_tape.new.world in
    let tape = c.find_on_tape-row.result.1 in
    by_bytes (λ name. read_for name (row_on name c.args.path.now)) c.as_str-name.ensures
    (lends_read name mid (g.W.World.told c.return_tape.new.world) (g.W.Tap.Tape.told tape)
    (g.W.Tap.Tape.count tape) a (row_on name c.args.path.now) c.find_on_tape-row.result.0
    c.in-Ok.ensures.lent c.return_tape.ensures
    (c.find_on_tape-row.ensures.does name (with_world mid a)))

pub returns-clause-links : goal.returns-clause-links
returns-clause-links g c =
    let tape = c.find_on_tape-row.result.1 in
    read_links c.as_str-name.result.now (g.W.World.told c.open_tape.new.world)
    (g.W.World.told c.return_tape.new.world) (g.W.Tap.Tape.told tape) (g.W.Tap.Tape.count tape)
    c.find_on_tape-row.result.0 c.return_tape.ensures ∙ c.in-Ok.ensures.lent.links
