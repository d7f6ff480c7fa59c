-- `unsealed`: the bench adopted the configuration, which names no plugin.
use Rattle.test_rollout.proofs.Benches.{opened_by}
use Rattle.test_rollout.proofs.sealing.unsealed.Goals as goal

pub returns : goal.returns
returns c = opened_by c.in_ok-bench.bench.published c.get.result.now c.args.published.now
    c.as_str.result.now c.args.row.now.resource c.as_str-2.result.now c.args.row.now.path
    c.as_slice-2.result.now c.args.row.now.stored c.opened-plain.result c.in_ok-bench.ensures
    c.get.ensures c.as_str.ensures c.as_str-2.ensures c.as_slice-2.ensures
    (c.is_plain.ensures c.if-not-is_plain.false) c.opened-plain.ensures
