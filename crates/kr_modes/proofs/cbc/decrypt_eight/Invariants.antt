use Rattle.std.proofs.Common.{◌≡◌, ℕ, ◌+◌, ◌*◌, List, length, drop}
use Rattle.kr_aes.specs.InverseCipher.{inverse_cipher}
use Rattle.kr_aes_bitsliced.specs.KeyPlanes.{key_planes}
use Rattle.kr_modes.specs.inner.Opened.{opened_from}
use Rattle.kr_modes.proofs.cbc.decrypt_eight.Given as goal

abbrev pub invariant-loop-i : goal.invariant-loop-i
invariant-loop-i l = record {
  same_length : length l.buffer ≡ length l.initial.buffer;
  unread : drop (16 * (l.opened + l.i)) l.buffer ≡ drop (16 * (l.opened + l.i)) l.initial.buffer;
  chained : (words : List ℕ) → l.keys ≡ key_planes words
      → opened_from (inverse_cipher words l.fn.rounds) l.from (l.opened + l.i) l.buffer
      ≡ opened_from (inverse_cipher words l.fn.rounds) l.from l.opened l.initial.buffer;
}
