use Rattle.std.proofs.Common.{◌≡◌, take}
use Rattle.kr_config.specs.Kept.{rows_of, kms_in}
use Rattle.kr_config.proofs.counts.count_plugins.Given as goal

abbrev pub invariant-loop-entry : goal.invariant-loop-entry
invariant-loop-entry l = l.plugins ≡ kms_in (rows_of (take l.entry-index l.entries))
