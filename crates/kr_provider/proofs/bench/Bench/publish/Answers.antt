-- `Bench::publish`: the links serve the configuration still.
use Rattle.std.proofs.Common.{sym, subst}
use Rattle.kr_config.specs.Kept.{plugins_in, rows_of}
use Rattle.kr_provider.specs.Names.{HasLinks, names_of}
use Rattle.kr_provider.proofs.BenchLinks.{adopted_stay}
use Rattle.kr_provider.proofs.bench.Bench.publish.Goals as goal

pub publish-requires : goal.publish-requires
publish-requires g c = record {
  links = subst (λ b. HasLinks (names_of g.L.Kms.link b.links)
      (rows_of c.args.settings.entries.0)) (sym c.self.view_is) c.requires.links;
}

pub invariant_of-self : goal.invariant_of-self
invariant_of-self g c =
    adopted_stay g.L.Kms.link (plugins_in (rows_of c.args.settings.entries.0)) c.self.inside.links
    c.publish.new.links c.self.inside.adoption.published c.publish.ensures.asked
    c.self.invariant
