-- `count_keys`: the count and the keys still to come are all of them.
use Rattle.std.proofs.Common.{◌≡◌, ◌+◌, drop}
use Rattle.kr_config.specs.Kept.{count_entry_keys, rows_of}
use Rattle.kr_provider.proofs.adopted.count_keys.Given as goal

abbrev pub invariant-loop-entry : goal.invariant-loop-entry
invariant-loop-entry l = l.count + count_entry_keys (rows_of (drop l.entry-index l.entries))
    ≡ count_entry_keys (rows_of l.entries)
