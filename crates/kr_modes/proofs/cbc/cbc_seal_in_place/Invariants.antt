use Rattle.std.proofs.Common.{◌≡◌, ◌+◌, ◌*◌, ◌/◌, length, drop}
use Rattle.kr_aes.specs.Cipher.{cipher}
use Rattle.kr_modes.specs.Cbc.{cbc}
use Rattle.kr_modes.proofs.Chains.{chained_from}
use Rattle.kr_modes.proofs.cbc.cbc_seal_in_place.Given as goal

abbrev pub invariant-loop-index : goal.invariant-loop-index
invariant-loop-index l = record {
  same_length : length l.buffer ≡ length l.initial.buffer;
  unread : drop (16 * l.index) l.buffer ≡ drop (16 * l.index) l.initial.buffer;
  chained : chained_from (cipher l.words l.rounds) l.buffer l.block l.initial.buffer (l.size / 16 + 1) l.index
      ≡ cbc (cipher l.words l.rounds) l.iv l.initial.buffer;
}
