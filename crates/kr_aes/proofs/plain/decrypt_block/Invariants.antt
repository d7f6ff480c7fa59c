use Rattle.std.proofs.Common.{◌≡◌, ◌-◌, ◌≤◌}
use Rattle.kr_aes.specs.InverseCipher.{after_inverse_rounds}
use Rattle.kr_aes.proofs.plain.decrypt_block.Given as goal

abbrev pub invariant-loop-round : goal.invariant-loop-round
invariant-loop-round l = record {
  some : 1 ≤ l.round;
  within : l.round ≤ l.count;
  state : l.block ≡ after_inverse_rounds l.words l.count l.fn.block (l.count - l.round);
}
