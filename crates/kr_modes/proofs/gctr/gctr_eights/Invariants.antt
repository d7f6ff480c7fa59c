use Rattle.std.proofs.Common.{◌≡◌, ◌*◌, drop, length}
use Rattle.kr_aes.specs.Cipher.{cipher}
use Rattle.kr_modes.specs.inner.Streamed.{IsStreamed}
use Rattle.kr_modes.proofs.gctr.gctr_eights.Given as goal

abbrev pub invariant-loop-time : goal.invariant-loop-time
invariant-loop-time l = record {
  same_length : length l.buffer ≡ length l.initial.buffer;
  streamed : IsStreamed (cipher l.words l.rounds) l.nonce (drop l.from l.initial.buffer) l.buffer l.from (8 * l.time);
}
