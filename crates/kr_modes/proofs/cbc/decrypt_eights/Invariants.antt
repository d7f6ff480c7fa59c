use Rattle.std.proofs.Common.{◌≡◌, ◌*◌, length}
use Rattle.kr_aes.specs.InverseCipher.{inverse_cipher}
use Rattle.kr_modes.specs.inner.Opened.{opened_from}
use Rattle.kr_modes.proofs.cbc.decrypt_eights.Given as goal

abbrev pub invariant-loop-time : goal.invariant-loop-time
invariant-loop-time l = record {
  same_length : length l.buffer ≡ length l.initial.buffer;
  chained : opened_from (inverse_cipher l.words l.rounds) l.from (8 * l.time) l.buffer
      ≡ opened_from (inverse_cipher l.words l.rounds) l.from 0 l.initial.buffer;
}
