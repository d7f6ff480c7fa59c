-- What the tactic leaves open of `write_replies`.
use Rattle.kr_script.proofs.Spoken.{workers_more, workers_fail, workers_end}
use Rattle.kr_script.proofs.fleet_output.write_replies.Goals as goal

pub returns-in-Err : goal.returns-in-Err
returns-in-Err g c = workers_fail c.args.replies.now c.args.workers.now c.loop-place.place
    (g.K.Sink.held c.write_worker.new.sink) c.index-workers-place.result
    (g.K.Sink.count c.write_worker.new.sink) c.in-Err.why c.as_str.result.now
    c.worker_replies-told.result.now c.loop-place-test.true c.index-workers-place.is
    c.loop-place.invariant c.as_str.ensures c.worker_replies-told.ensures c.in-Err.ensures

pub loop-place-preserved : goal.loop-place-preserved
loop-place-preserved g c = workers_more c.args.replies.now c.args.workers.now c.loop-place.place
    (g.K.Sink.held c.write_worker.new.sink) c.index-workers-place.result
    (g.K.Sink.count c.write_worker.new.sink) c.in-Ok.field-0 c.as_str.result.now
    c.worker_replies-told.result.now c.loop-place-test.true c.index-workers-place.is
    c.loop-place.invariant c.as_str.ensures c.worker_replies-told.ensures c.in-Ok.ensures

pub returns : goal.returns
returns g c = workers_end c.args.replies.now c.args.workers.now c.loop-place.place _
    c.loop-place-test.false c.loop-place.invariant
