use Rattle.kr_config.specs.Kept.{rows_of}
use Rattle.kr_provider.proofs.Lists.{no_links}
use Rattle.test_acceptance.proofs.tests.pages.published_bare.Goals as goal

pub publish-made-requires : goal.publish-made-requires
publish-made-requires c = record {
  links = no_links _ (rows_of c.args.settings.entries.0) c.requires;
}
