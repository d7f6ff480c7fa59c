use Rattle.std.proofs.Common.{ap, ◌∙◌}
use Rattle.kr_provider.specs.Publication.{names_plugin}
use Rattle.kr_provider.proofs.Lists.{no_links}
use Rattle.test_acceptance.proofs.tests.pages.is_too_many.Goals as goal

pub adopt-requires : goal.adopt-requires
adopt-requires c = record {
  links = no_links _ c.in-Ok.published.rows
      (ap (λ p. names_plugin p.rows) c.in-Ok.ensures ∙ c.requires);
}
