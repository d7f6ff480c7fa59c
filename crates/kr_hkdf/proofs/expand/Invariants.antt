use Rattle.std.proofs.Common.{◌≡◌, ◌*◌, length, take}
use Rattle.kr_hkdf.specs.Hkdf.{output_blocks}
use Rattle.kr_hkdf.proofs.expand.Given as goal

abbrev pub invariant-loop-index : goal.invariant-loop-index
invariant-loop-index l = record {
  same_length : length l.out ≡ length l.initial.out;
  written : take (32 * l.index) l.out ≡ take (length l.out) (output_blocks l.prk l.info l.index);
}
