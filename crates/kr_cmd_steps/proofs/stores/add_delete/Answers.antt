-- `add_delete`: each answer of the store ends the steps of one more row.
use Rattle.kr_store.specs.Rows.{delete_of}
use Rattle.kr_cmd_steps.proofs.Adding.{deleted_so, gone, one_more, refused_counted, row_added, row_refused, rows_kept, unchanged, undeleted_so}
use Rattle.kr_cmd_steps.proofs.stores.add_delete.Goals as goal

pub returns-in-Ok-Some-clause-does : goal.returns-in-Ok-Some-clause-does
returns-in-Ok-Some-clause-does g c name a =
    let new = c.delete-written.new.self in
    let found = rw c.in-Ok-Some.is at c.in-Ok-Some.field-0-is in
    row_added c.args.object name (delete_of c.args.path.now) c.args.store.now new
    c.requires.within a
    (deleted_so c.args.store.now new c.args.path.now c.in-Ok-Some._revision
    c.delete-written.ensures c.in-Ok-Some.is found) c.known.ensures

pub returns-in-Ok-Some-clause-grown : goal.returns-in-Ok-Some-clause-grown
returns-in-Ok-Some-clause-grown g c =
    let found = rw c.in-Ok-Some.is at c.in-Ok-Some.field-0-is in one_more
    (deleted_so c.args.store.now c.delete-written.new.self c.args.path.now
    c.in-Ok-Some._revision c.delete-written.ensures c.in-Ok-Some.is found)

pub unreachable-requires : goal.unreachable-requires
unreachable-requires g c =
    let found = rw c.in-Ok-None.is at c.in-Ok-None.field-0-is in
    gone c.args.store.now c.delete-written.new.self c.args.path.now
    c.requires.live c.delete-written.ensures c.in-Ok-None.is found

pub write_stop-requires : goal.write_stop-requires
write_stop-requires g c = unchanged c.args.store.now c.delete-written.new.self
    (delete_of c.args.path.now) c.in-Err.why
    (undeleted_so c.args.store.now c.delete-written.new.self c.args.path.now c.in-Err.why
    c.delete-written.ensures c.in-Err.is)

pub returns-in-Err-clause-does : goal.returns-in-Err-clause-does
returns-in-Err-clause-does g c name a =
    let new = c.delete-written.new.self in
    row_refused c.args.object name (delete_of c.args.path.now) c.args.store.now new
    c.requires.within a c.in-Err.why c.write_stop.result
    (undeleted_so c.args.store.now new c.args.path.now c.in-Err.why c.delete-written.ensures
    c.in-Err.is) c.known.ensures c.faults.ensures c.write_stop.ensures

pub returns-in-Err-clause-kept : goal.returns-in-Err-clause-kept
returns-in-Err-clause-kept g c = rows_kept c.args.store.now c.delete-written.new.self
    (delete_of c.args.path.now) c.in-Err.why
    (undeleted_so c.args.store.now c.delete-written.new.self c.args.path.now c.in-Err.why
    c.delete-written.ensures c.in-Err.is)

pub returns-in-Ok-Some-clause-once : goal.returns-in-Ok-Some-clause-once
returns-in-Ok-Some-clause-once g c =
    let found = rw c.in-Ok-Some.is at c.in-Ok-Some.field-0-is in
    (deleted_so c.args.store.now c.delete-written.new.self c.args.path.now
    c.in-Ok-Some._revision c.delete-written.ensures c.in-Ok-Some.is found).same_count

pub returns-in-Err-clause-once : goal.returns-in-Err-clause-once
returns-in-Err-clause-once g c =
    let new = c.delete-written.new.self in
    refused_counted c.args.store.now new (delete_of c.args.path.now) c.args.object c.faults.result
    c.in-Err.why c.write_stop.result
    (undeleted_so c.args.store.now new c.args.path.now c.in-Err.why c.delete-written.ensures
    c.in-Err.is) c.write_stop.ensures
