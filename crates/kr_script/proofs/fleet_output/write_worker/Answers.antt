-- What the tactic leaves open of `write_worker`.
use Rattle.std.proofs.Common.{arith}
use Rattle.kr_script.proofs.Spoken.{replies_more, replies_fail, replies_end}
use Rattle.kr_script.proofs.fleet_output.write_worker.Goals as goal

pub returns-in-Err : goal.returns-in-Err
returns-in-Err g c = replies_fail c.args.worker.now c.args.replies.now c.loop-reply.number
    c.loop-reply.reply-index (g.K.Sink.held c.write_reply.new.sink) c.reply-item.result
    (g.K.Sink.count c.write_reply.new.sink) c.in-Err.why c.loop-reply-test.true c.reply-item.is
    c.loop-reply.invariant.0 c.in-Err.ensures

pub loop-reply-preserved : goal.loop-reply-preserved
loop-reply-preserved g c = (
  replies_more c.args.worker.now c.args.replies.now c.loop-reply.number
      c.loop-reply.reply-index (g.K.Sink.held c.write_reply.new.sink) c.reply-item.result
      (g.K.Sink.count c.write_reply.new.sink) c.in-Ok.field-0 c.loop-reply-test.true
      c.reply-item.is c.loop-reply.invariant.0 c.in-Ok.ensures,
  omega (arith, c.loop-reply.invariant.1),
)

pub returns : goal.returns
returns g c = replies_end c.args.worker.now c.args.replies.now c.loop-reply.number
    c.loop-reply.reply-index _ c.loop-reply-test.false c.loop-reply.invariant.0
