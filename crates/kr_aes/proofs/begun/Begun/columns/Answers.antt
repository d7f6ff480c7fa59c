use Rattle.std.specs.Prelude.{[]}
use Rattle.std.proofs.Common.{◌≡◌, ℕ, List, ◌∷◌, bit_xor, slice_index, ap, arith, ◌∙◌}
use Rattle.kr_aes.specs.Cipher.{word_byte}
use Rattle.kr_aes.specs.inner.TwoRounds.{begun_columns, forward_word}
use Rattle.kr_aes.specs.inner.Columns.{block_of_columns}
use Rattle.kr_aes.proofs.Begins.{begun_for_last}
use Rattle.kr_aes.proofs.begun.Begun.columns.Goals as goal

pub returns : goal.returns
returns c =
    let self = c.self.inside in
    let w3 : ℕ = slice_index self.words.now 3 in
    let last : c.forward_3.result ≡ forward_word 3 (bit_xor c.args.last (word_byte w3 3)) =
    c.forward_3.ensures ∙ ap (λ (xs : List ℕ). forward_word 3 (bit_xor c.args.last (slice_index xs 3))) c.to_be_bytes.ensures in
    let first : bit_xor self.head c.forward_3.result ≡ bit_xor self.head (forward_word 3 (bit_xor c.args.last (word_byte w3 3))) =
    ap (bit_xor self.head) last in
    let e0 = c.forward_0.ensures ∙ ap (λ (xs : List ℕ). forward_word 0 (slice_index xs 0)) c.to_be_bytes-2.ensures ∙ ap (λ (x : ℕ). forward_word 0 (word_byte x 0)) first in
    let e1 = c.forward_3-2.ensures ∙ ap (λ (xs : List ℕ). forward_word 3 (slice_index xs 3)) c.to_be_bytes-3.ensures ∙ ap (λ (x : ℕ). forward_word 3 (word_byte x 3)) first in
    let e2 = c.forward_2.ensures ∙ ap (λ (xs : List ℕ). forward_word 2 (slice_index xs 2)) c.to_be_bytes-4.ensures ∙ ap (λ (x : ℕ). forward_word 2 (word_byte x 2)) first in
    let e3 = c.forward_1.ensures ∙ ap (λ (xs : List ℕ). forward_word 1 (slice_index xs 1)) c.to_be_bytes-5.ensures ∙ ap (λ (x : ℕ). forward_word 1 (word_byte x 1)) first in
    let are : bit_xor (slice_index self.columns 0) c.forward_0.result ∷ bit_xor (slice_index self.columns 1) c.forward_3-2.result
    ∷ bit_xor (slice_index self.columns 2) c.forward_2.result ∷ bit_xor (slice_index self.columns 3) c.forward_1.result ∷ []
    ≡ begun_columns self.words.now self.head self.columns c.args.last =
    (λ i. bit_xor (slice_index self.columns 0) (e0 i) ∷ bit_xor (slice_index self.columns 1) (e1 i)
    ∷ bit_xor (slice_index self.columns 2) (e2 i) ∷ bit_xor (slice_index self.columns 3) (e3 i) ∷ []) in
    rw (← c.self.view_is) (ap block_of_columns are ∙ begun_for_last self.words.now self.block self.head self.columns c.args.last c.self.invariant (omega arith))
