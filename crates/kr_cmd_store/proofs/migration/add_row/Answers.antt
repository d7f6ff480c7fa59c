-- `add_row`: each answer of the store ends the steps of one more row.
use Rattle.kr_store.specs.Rows.{check_in, put_of}
use Rattle.kr_cmd_messages.specs.declared.refusal.Object as objects
use Rattle.kr_cmd_steps.proofs.Adding.{one_more, refused_so, row_added, row_refused, unchanged}
use Rattle.kr_cmd_store.proofs.migration.add_row.Goals as goal

pub returns-in-Ok-clause-does : goal.returns-in-Ok-clause-does
returns-in-Ok-clause-does g c name a = row_added objects.Object.Target name
    (put_of c.args.row.now.path c.args.row.now.resource c.args.row.now.stored (check_in c.args.target.now.format c.args.check)) c.args.target.now
    c.put_row-written.new.self c.requires.within a c.in-Ok.ensures c.known.ensures

pub returns-in-Ok-clause-grown : goal.returns-in-Ok-clause-grown
returns-in-Ok-clause-grown g c = one_more c.in-Ok.ensures

pub write_stop-requires : goal.write_stop-requires
write_stop-requires g c = unchanged c.args.target.now c.put_row-written.new.self
    (put_of c.args.row.now.path c.args.row.now.resource c.args.row.now.stored
    (check_in c.args.target.now.format c.args.check)) c.in-Err.why
    (refused_so c.args.target.now c.put_row-written.new.self _ c.put_row-written.ensures
    c.in-Err.is)

pub returns-in-Err-clause-does : goal.returns-in-Err-clause-does
returns-in-Err-clause-does g c name a =
    let row = put_of c.args.row.now.path c.args.row.now.resource c.args.row.now.stored
    (check_in c.args.target.now.format c.args.check) in
    let new = c.put_row-written.new.self in
    row_refused objects.Object.Target name row c.args.target.now new c.requires.within a
    c.in-Err.why c.write_stop.result
    (refused_so c.args.target.now new row c.put_row-written.ensures c.in-Err.is) c.known.ensures
    c.faults.ensures c.write_stop.ensures
