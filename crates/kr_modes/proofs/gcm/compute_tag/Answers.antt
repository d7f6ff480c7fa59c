use Rattle.std.proofs.Common.{◌≡◌, ◌*◌, ℕ, List, ◌++◌, length, replicate, refl, sym, ap, ◌∙◌}
use Rattle.std.specs.Int.{w64, to_be_bytes}
use Rattle.kr_aes.specs.Cipher.{cipher}
use Rattle.kr_modes.specs.Blocks.{blocks, xor}
use Rattle.kr_modes.specs.Gcm.{gcm_tag, zero_padded}
use Rattle.kr_modes.specs.Ghash.{polynomial_block, ghash, ghash_blocks, polynomial}
use Rattle.kr_modes.specs.inner.Tables.{polynomial_of}
use Rattle.kr_modes.proofs.Hashes.{hash_of_three}
use Rattle.kr_modes.proofs.Numbers.{block_of_number, polynomial_of_none}
use Rattle.kr_modes.proofs.gcm.compute_tag.Goals as goal

pub returns : goal.returns
unfolding gcm_tag ghash
returns c =
    let aad : List ℕ = c.args.aad.now in
    let ciphertext : List ℕ = c.args.ciphertext.now in
    let h : ℕ = polynomial c.encrypt_block.new.block in
    let lengths : List ℕ = to_be_bytes w64 (8 * length aad) ++ to_be_bytes w64 (8 * length ciphertext) in
    let one : polynomial_of c.absorb-value.result ≡ ghash_blocks h 0 (blocks (zero_padded aad)) =
    c.absorb-value.ensures h c.fill.ensures ∙ ap (λ (v : ℕ). ghash_blocks h v (blocks (zero_padded aad))) polynomial_of_none in
    let two : polynomial_of c.absorb-value-2.result ≡ ghash_blocks h (ghash_blocks h 0 (blocks (zero_padded aad))) (blocks (zero_padded ciphertext)) =
    c.absorb-value-2.ensures h c.fill.ensures ∙ ap (λ (v : ℕ). ghash_blocks h v (blocks (zero_padded ciphertext))) one in
    let three : polynomial_of c.absorb-value-3.result ≡ ghash_blocks h 0 (blocks (zero_padded aad ++ zero_padded ciphertext ++ lengths)) =
    c.absorb-value-3.ensures h c.fill.ensures
    ∙ (λ i. ghash_blocks h (two i) (blocks (zero_padded (c.length_block.ensures i))))
    ∙ sym (hash_of_three h aad ciphertext lengths refl) in
    let subkey : h ≡ polynomial (cipher c.args.words.now c.args.rounds (replicate 16 0)) = ap polynomial c.encrypt_block.ensures in
    let hash = c.to_le_bytes-tag.ensures ∙ block_of_number c.absorb-value-3.result ∙ ap polynomial_block (three ∙ ap (λ (k : ℕ). ghash_blocks k 0 (blocks (zero_padded aad ++ zero_padded ciphertext ++ lengths))) subkey) in
    c.add.ensures ∙ (λ i. xor (hash i) (c.stream_block.ensures i))
