-- `published`: the bench's link serves the settings, and what they give names no other plugin.
use Rattle.kr_config.specs.Kept.{plugins_in, rows_of}
use Rattle.kr_provider.specs.Names.{names_of}
use Rattle.test_fleet_calls.proofs.Calling.{bench_kept, names_shared, one_serves}
use Rattle.test_fleet_calls.proofs.opening.published.Goals as goal

pub publish-requires : goal.publish-requires
publish-requires g c = record {
  links = one_serves (names_of g.L.Kms.link c.args.bench.now.links)
      (rows_of c.in_ok-settings.settings.entries.0) c.requires.linked_is
      c.in_ok-settings.ensures;
}

pub returns-in-Ok-clause-named : goal.returns-in-Ok-clause-named
returns-in-Ok-clause-named g c = names_shared c.shared.result c.in-Ok.published
    (rows_of c.in_ok-settings.settings.entries.0) c.shared.ensures c.in-Ok.ensures.published.0
    c.in_ok-settings.ensures

pub returns-in-Ok-clause-bench : goal.returns-in-Ok-clause-bench
returns-in-Ok-clause-bench g c = bench_kept g.L.Kms.link
    (plugins_in (rows_of c.in_ok-settings.settings.entries.0)) c.args.bench.now c.publish.new.self
    c.requires c.publish.ensures.asked c.publish.ensures.kept

pub returns-in-Err-clause-bench : goal.returns-in-Err-clause-bench
returns-in-Err-clause-bench g c = bench_kept g.L.Kms.link
    (plugins_in (rows_of c.in_ok-settings.settings.entries.0)) c.args.bench.now c.publish.new.self
    c.requires c.publish.ensures.asked c.publish.ensures.kept
