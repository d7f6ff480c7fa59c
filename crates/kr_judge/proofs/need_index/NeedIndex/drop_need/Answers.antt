use Rattle.kr_judge.proofs.IndexViews.{dropped_view}
use Rattle.kr_judge.proofs.need_index.NeedIndex.drop_need.Goals as goal

pub returns : goal.returns
returns c = dropped_view c.self.inside.places c.drop_path.new.places c.self.inside.pairs c.drop_path.new.pairs c.self.inside.proposal c.args.self.now c.args.path.now c.self.view_is c.requires c.drop_path.ensures.places c.drop_path.ensures.labels
