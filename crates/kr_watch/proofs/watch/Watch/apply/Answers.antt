-- One more line.
use Rattle.kr_watch.proofs.Following.{goes_on}
use Rattle.kr_watch.proofs.ItemSteps.{ok_then}
use Rattle.kr_watch.proofs.watch.Watch.apply.Goals as goal

pub returns-clause-follows : goal.returns-clause-follows
returns-clause-follows c = ok_then c.note.result _ _
    (goes_on c.args.line.now c.args.self.now c.note.new.self) c.note.ensures.ok
