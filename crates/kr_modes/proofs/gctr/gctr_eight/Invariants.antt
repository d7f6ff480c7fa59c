use Rattle.std.proofs.Common.{◌≡◌, ℕ, ◌+◌, List, length}
use Rattle.kr_aes.specs.Cipher.{cipher}
use Rattle.kr_aes_bitsliced.specs.KeyPlanes.{key_planes}
use Rattle.kr_modes.specs.inner.Streamed.{IsStreamed}
use Rattle.kr_modes.proofs.gctr.gctr_eight.Given as goal

abbrev pub invariant-loop-i : goal.invariant-loop-i
invariant-loop-i l = record {
  same_length : length l.buffer ≡ length l.initial.buffer;
  streamed : (words bytes : List ℕ) → l.keys ≡ key_planes words
      → IsStreamed (cipher words l.fn.rounds) l.nonce bytes l.initial.buffer l.from l.written
      → IsStreamed (cipher words l.fn.rounds) l.nonce bytes l.buffer l.from (l.written + l.i);
}
