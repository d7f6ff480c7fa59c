use Rattle.std.proofs.Common.{None, ap, ◌∙◌}
use Rattle.kr_config.specs.Kept.{rows_of}
use Rattle.kr_judge.specs.inner.Earliest.{earliest}
use Rattle.kr_judge.proofs.IndexViews.{dropped_first}
use Rattle.kr_judge.proofs.need_index.NeedIndex.first_dropped.Goals as goal

pub returns : goal.returns
returns c = c.first_dropped.ensures ∙ ap (earliest (rows_of c.args.settings.now.entries.0) None) c.as_slice.ensures
    ∙ dropped_first (rows_of c.args.settings.now.entries.0) c.self.inside.places c.self.inside.pairs c.self.inside.proposal c.args.self.now c.self.view_is c.requires c.self.invariant.0
