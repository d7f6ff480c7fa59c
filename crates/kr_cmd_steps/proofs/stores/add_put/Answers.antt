-- `add_put`: each answer of the store ends the steps of one more row.
use Rattle.kr_store.specs.Rows.{check_in, put_of}
use Rattle.kr_cmd_steps.proofs.Adding.{one_more, refused_counted, refused_so, row_added, row_refused, rows_kept, unchanged}
use Rattle.kr_cmd_steps.proofs.stores.add_put.Goals as goal

pub returns-in-Ok-clause-does : goal.returns-in-Ok-clause-does
returns-in-Ok-clause-does g c name a = row_added c.args.object name
    (put_of c.args.path.now c.args.resource.now c.args.stored (check_in c.args.store.now.format c.args.check)) c.args.store.now
    c.put-written.new.self c.requires.within a c.in-Ok.ensures c.known.ensures

pub returns-in-Ok-clause-grown : goal.returns-in-Ok-clause-grown
returns-in-Ok-clause-grown g c = one_more c.in-Ok.ensures

pub write_stop-requires : goal.write_stop-requires
write_stop-requires g c = unchanged c.args.store.now c.put-written.new.self
    (put_of c.args.path.now c.args.resource.now c.args.stored
    (check_in c.args.store.now.format c.args.check)) c.in-Err.why
    (refused_so c.args.store.now c.put-written.new.self _ c.put-written.ensures c.in-Err.is)

pub returns-in-Err-clause-does : goal.returns-in-Err-clause-does
returns-in-Err-clause-does g c name a =
    let row = put_of c.args.path.now c.args.resource.now c.args.stored
    (check_in c.args.store.now.format c.args.check) in
    let new = c.put-written.new.self in
    row_refused c.args.object name row c.args.store.now new c.requires.within a c.in-Err.why
    c.write_stop.result
    (refused_so c.args.store.now new row c.put-written.ensures c.in-Err.is) c.known.ensures
    c.faults.ensures c.write_stop.ensures

pub returns-in-Err-clause-kept : goal.returns-in-Err-clause-kept
returns-in-Err-clause-kept g c = rows_kept c.args.store.now c.put-written.new.self
    (put_of c.args.path.now c.args.resource.now c.args.stored
    (check_in c.args.store.now.format c.args.check)) c.in-Err.why
    (refused_so c.args.store.now c.put-written.new.self _ c.put-written.ensures c.in-Err.is)

pub returns-in-Ok-clause-once : goal.returns-in-Ok-clause-once
returns-in-Ok-clause-once g c = c.in-Ok.ensures.same_count

pub returns-in-Err-clause-once : goal.returns-in-Err-clause-once
returns-in-Err-clause-once g c =
    let row = put_of c.args.path.now c.args.resource.now c.args.stored
    (check_in c.args.store.now.format c.args.check) in
    let new = c.put-written.new.self in
    refused_counted c.args.store.now new row c.args.object c.faults.result c.in-Err.why
    c.write_stop.result (refused_so c.args.store.now new row c.put-written.ensures c.in-Err.is)
    c.write_stop.ensures
