use Rattle.std.proofs.Common.{◌≡◌, length}
use Rattle.kr_aes.specs.InverseCipher.{inverse_cipher}
use Rattle.kr_modes.specs.inner.Opened.{opened_from}
use Rattle.kr_modes.proofs.cbc.decrypt_each.Given as goal

abbrev pub invariant-loop-index : goal.invariant-loop-index
invariant-loop-index l = record {
  same_length : length l.buffer ≡ length l.initial.buffer;
  chained : opened_from (inverse_cipher l.words l.rounds) l.from l.index l.buffer
      ≡ opened_from (inverse_cipher l.words l.rounds) l.from l.opened l.initial.buffer;
}
