use Rattle.std.proofs.Common.{◌≡◌, take}
use Rattle.kr_config.specs.Kept.{rows_of, count_entry_keys}
use Rattle.kr_config.proofs.counts.count_entry_keys.Given as goal

abbrev pub invariant-loop-entry : goal.invariant-loop-entry
invariant-loop-entry l = l.keys ≡ count_entry_keys (rows_of (take l.entry-index l.entries))
