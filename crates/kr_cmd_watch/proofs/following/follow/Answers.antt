-- `follow`: one more line was handed in.
use Rattle.kr_cmd_watch.proofs.SeededItems.{following_all, following_more, following_none, next_line}
use Rattle.kr_cmd_watch.proofs.following.follow.Goals as goal

pub loop-line-init : goal.loop-line-init
loop-line-init c = following_none c.args.start.items.0 c.args.start.revision c.args.lines.now
    c.in_ok-watch.watch c.in_ok-watch.ensures

pub apply-requires : goal.apply-requires
apply-requires c = record {
  next = next_line c.args.start.items.0 c.args.start.revision c.args.lines.now
      c.loop-line.line-index c.line-item.result c.loop-line-test.true c.line-item.is c.requires
      c.loop-line.watch c.loop-line.invariant;
}

pub loop-line-preserved : goal.loop-line-preserved
loop-line-preserved c = following_more c.args.start.items.0 c.args.start.revision
    c.args.lines.now c.loop-line.line-index c.line-item.result c.loop-line-test.true
    c.line-item.is c.loop-line.watch c.apply.new.self c.loop-line.invariant
    c.in_ok-apply.ensures.follows

pub returns-clause-keeps : goal.returns-clause-keeps
returns-clause-keeps c = c.loop-line.invariant.keeps

pub returns-clause-follows : goal.returns-clause-follows
returns-clause-follows c o history are = following_all c.args.start.items.0
    c.args.start.revision c.args.lines.now c.loop-line.line-index c.loop-line.watch
    c.loop-line-test.false c.loop-line.invariant o history are
