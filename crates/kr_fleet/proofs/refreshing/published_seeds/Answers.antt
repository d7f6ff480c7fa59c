-- `published_seeds`: the seeds that it holds.
use Rattle.std.proofs.Common.{ap, ◌∙◌}
use Rattle.kr_provider.specs.Publication.{Publication}
use Rattle.kr_fleet.proofs.refreshing.published_seeds.Goals as goal

pub returns : goal.returns
returns c = c.as_slice.ensures ∙ ap (λ (p : Publication). p.seeds) c.published.view_is
