use Rattle.std.proofs.Common.{◌≡◌, ◌-◌}
use Rattle.kr_aes.specs.Cipher.{after_rounds}
use Rattle.kr_aes.proofs.plain.encrypt_block.Given as goal

abbrev pub invariant-loop-round : goal.invariant-loop-round
invariant-loop-round l = l.block ≡ after_rounds l.words l.fn.block (l.round - 1)
