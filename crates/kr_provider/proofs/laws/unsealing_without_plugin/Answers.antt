-- The law of a bench without plugins.
use Rattle.kr_config.specs.Lists.{list_of}
use Rattle.kr_provider.proofs.WithoutPlugins.{none_listed, read_by_any, unasked}
use Rattle.kr_provider.proofs.laws.unsealing_without_plugin.Goals as goal

pub returns : goal.returns
returns g c = record {
  reads = λ seeds rows resource path bytes olds news result n u envelope.
      read_by_any g.L.Kms.link seeds (list_of rows resource) path bytes olds news
      result (none_listed rows resource n) u envelope;
  stay = λ seeds rows resource path bytes olds news result n u.
      unasked g.L.Kms.link seeds (list_of rows resource) path bytes olds news
      result (none_listed rows resource n) u;
}
