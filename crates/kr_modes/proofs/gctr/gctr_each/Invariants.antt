use Rattle.std.proofs.Common.{◌≡◌, ℕ, List, length, take}
use Rattle.kr_aes.specs.Cipher.{cipher}
use Rattle.kr_modes.specs.Gcm.{counter_block}
use Rattle.kr_modes.specs.inner.Streamed.{IsStreamed}
use Rattle.kr_modes.proofs.gctr.gctr_each.Given as goal

abbrev pub invariant-loop-index : goal.invariant-loop-index
invariant-loop-index l = record {
  same_length : length l.buffer ≡ length l.initial.buffer;
  begins : l.begun ≡ record { words = l.words; front = take 15 (counter_block l.nonce l.index) };
  streamed : (bytes : List ℕ) → IsStreamed (cipher l.words l.rounds) l.nonce bytes l.initial.buffer l.from l.written
      → IsStreamed (cipher l.words l.rounds) l.nonce bytes l.buffer l.from l.index;
}
