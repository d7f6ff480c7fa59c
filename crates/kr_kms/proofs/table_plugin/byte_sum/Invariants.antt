-- What was added, and what is still to come, is the sum.
use Rattle.std.proofs.Common.{◌≡◌, ◌+◌, ◌%◌, drop, sum}
use Rattle.kr_kms.proofs.table_plugin.byte_sum.Given as goal

abbrev pub invariant-loop-byte : goal.invariant-loop-byte
invariant-loop-byte l = (l.sum + sum (drop l.byte-index l.bytes)) % 256 ≡ sum l.bytes % 256
