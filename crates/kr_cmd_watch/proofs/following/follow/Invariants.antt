-- So many lines were handed to the watch.
use Rattle.kr_cmd_watch.proofs.SeededItems.{IsFollowing}
use Rattle.kr_cmd_watch.proofs.following.follow.Given as goal

abbrev pub invariant-loop-line : goal.invariant-loop-line
invariant-loop-line l = IsFollowing l.fn.start.items.0 l.fn.start.revision l.lines
    l.line-index l.watch
