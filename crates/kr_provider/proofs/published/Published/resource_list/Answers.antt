-- `Published::resource_list`: the settings' own list.
use Rattle.std.proofs.Common.{ap, subst, ◌∙◌}
use Rattle.kr_config.specs.declared.settings.Settings.{Settings}
use Rattle.kr_config.specs.Kept.{rows_of}
use Rattle.kr_config.specs.Lists.{list_of}
use Rattle.kr_provider.specs.Publication.{Publication, IsPublished}
use Rattle.kr_provider.proofs.published.Published.resource_list.Goals as goal

pub returns-clause-list : goal.returns-clause-list
returns-clause-list c = c.resource_list.ensures
    ∙ ap (λ (s : Settings). list_of (rows_of s.entries.0) c.args.resource.now) c.get.ensures
    ∙ ap (λ (p : Publication). list_of p.rows c.args.resource.now) c.self.view_is

pub returns-clause-kept : goal.returns-clause-kept
returns-clause-kept c = subst IsPublished c.self.view_is c.self.invariant
