-- `publish_file`: the link serves the settings, so they name no other plugin.
use Rattle.kr_config.specs.Kept.{rows_of}
use Rattle.kr_provider.specs.Names.{names_of}
use Rattle.test_fleet_threads.proofs.Naming.{names_it, serves}
use Rattle.test_fleet_threads.proofs.tests.published.publish_file.Goals as goal

pub publish-requires : goal.publish-requires
publish-requires g c = record {
  links = serves (names_of g.L.Kms.link c.args.links.now) c.get.result.now
      c.in_ok-settings.settings c.get.ensures (c.serve.ensures.0 c.if-not-serve.false);
}

pub returns-in-Ok : goal.returns-in-Ok
returns-in-Ok g c = names_it (names_of g.L.Kms.link c.args.links.now) c.in-Ok.published
    (rows_of c.in_ok-settings.settings.entries.0) c.requires c.in-Ok.ensures.published.0
    (serves (names_of g.L.Kms.link c.args.links.now) c.get.result.now c.in_ok-settings.settings
    c.get.ensures (c.serve.ensures.0 c.if-not-serve.false))
