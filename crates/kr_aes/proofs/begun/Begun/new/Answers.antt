use Rattle.std.specs.Prelude.{[]}
use Rattle.std.proofs.Common.{ℕ, ◌∷◌, List, bit_xor, slice_index, ap, ◌∙◌, arith}
use Rattle.kr_aes.specs.inner.TwoRounds.{forward_word}
use Rattle.kr_aes.proofs.Begins.{begins}
use Rattle.kr_aes.proofs.begun.Begun.new.Goals as goal

pub invariant_of-result : goal.invariant_of-result
invariant_of-result c =
    let one : List ℕ = c.forward_round-one.result in
    let two : List ℕ = c.forward_round-two.result in
    let e = c.forward_3.ensures ∙ ap (λ (xs : List ℕ). forward_word 3 (slice_index xs 3)) c.to_be_bytes.ensures in
    let e0 = c.forward_0.ensures ∙ ap (λ (xs : List ℕ). forward_word 0 (slice_index xs 0)) c.to_be_bytes-2.ensures in
    let e1 = c.forward_3-2.ensures ∙ ap (λ (xs : List ℕ). forward_word 3 (slice_index xs 3)) c.to_be_bytes-3.ensures in
    let e2 = c.forward_2.ensures ∙ ap (λ (xs : List ℕ). forward_word 2 (slice_index xs 2)) c.to_be_bytes-4.ensures in
    let e3 = c.forward_1.ensures ∙ ap (λ (xs : List ℕ). forward_word 1 (slice_index xs 1)) c.to_be_bytes-5.ensures in
    record {
      whole = record { size = omega arith; bytes = c.known.ensures };
      begins = begins c.args.words.now c.args.block.now (bit_xor (slice_index one 0) c.forward_3.result)
          (bit_xor (slice_index two 0) c.forward_0.result ∷ bit_xor (slice_index two 1) c.forward_3-2.result
          ∷ bit_xor (slice_index two 2) c.forward_2.result ∷ bit_xor (slice_index two 3) c.forward_1.result ∷ [])
          _ _ _ _ _ _ _ _ _ _ _ _
          c.first-state.ensures c.forward_round-one.ensures c.forward_round-two.ensures
          (ap (bit_xor (slice_index one 0)) e)
          (λ i. bit_xor (slice_index two 0) (e0 i) ∷ bit_xor (slice_index two 1) (e1 i)
          ∷ bit_xor (slice_index two 2) (e2 i) ∷ bit_xor (slice_index two 3) (e3 i) ∷ []);
    }
