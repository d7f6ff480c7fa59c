-- `Bench::key_id`: the links serve the configuration still.
use Rattle.std.proofs.Common.{[], ◌∷◌}
use Rattle.kr_provider.proofs.BenchLinks.{adopted_stay}
use Rattle.kr_provider.proofs.bench.Bench.key_id.Goals as goal

pub invariant_of-self : goal.invariant_of-self
invariant_of-self g c =
    adopted_stay g.L.Kms.link (c.args.name.now ∷ []) c.self.inside.links c.plugin_key_id.new.links
    c.self.inside.adoption.published c.plugin_key_id.ensures.asked c.self.invariant
