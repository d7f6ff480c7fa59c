-- `resealed`: the value is a sealing of what the row reads as.
use Rattle.std.proofs.Common.{subst}
use Rattle.kr_provider.specs.Sealing.{IsSealing}
use Rattle.test_rollout.proofs.sealing.resealed.Goals as goal

pub returns : goal.returns
returns c = record {
  plain = c.in_ok-plain.plain;
  reads = c.in_ok-plain.ensures;
  sealing = subst (λ q. IsSealing c.args.published.now c.args.row.now.resource q c.in_ok-plain.plain
      c.in_ok-value.value) c.as_str.ensures c.in_ok-value.ensures;
}
