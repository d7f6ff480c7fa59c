use Rattle.std.proofs.Common.{◌↔◌, false, drop}
use Rattle.kr_base.proofs.Labels.{Parted}
use Rattle.kr_base.proofs.rules.are_labels.Given as goal

abbrev pub invariant-loop-byte : goal.invariant-loop-byte
invariant-loop-byte l = Parted l.begun (drop l.byte-index l.bytes) ↔ Parted false l.bytes
