use Rattle.kr_judge.proofs.IndexViews.{kept_view}
use Rattle.kr_judge.proofs.need_index.NeedIndex.settle.Goals as goal

pub returns-then-keep : goal.returns-then-keep
returns-then-keep c = kept_view c.self.inside.places c.keep_proposal.new.places c.self.inside.pairs c.keep_proposal.new.pairs c.self.inside.proposal c.take.new.self c.in-Some.proposal c.args.self.now c.args.keep
    c.self.view_is c.in-Some.ensures.value c.take.ensures.after c.self.invariant.0.sorted c.if-keep.true c.keep_proposal.ensures.places c.keep_proposal.ensures.labels
