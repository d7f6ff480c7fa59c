-- What was sealed is opened.
use Rattle.std.proofs.Common.{◌≡◌, ◌↔◌, ℕ, zero, suc, ◌+◌, ◌*◌, ◌-◌, ◌/◌, ◌%◌, ◌<◌, List, ◌++◌, All, length, take, drop, replicate, Option, IsSome, is_some, Ok, ok_or, refl, sym, ap, ◌∙◌, arith}
use Rattle.std.specs.Int.{div_ceil, to_be_bytes, w64}
use Rattle.std.proofs.lemmas.List.{drop_at, length-append, length-drop, length-take-le, nil_from_length, take-append-drop, take_at}
use Rattle.std.proofs.lemmas.List.Elements.{All-drop, All-append, All-from_get_or, All-get_or, All-replicate, All-take}
use Rattle.std.proofs.lemmas.Nat.{xor_of_8}
use Rattle.kr_aes.specs.declared.Rounds.{Rounds}
use Rattle.kr_aes.specs.Cipher.{IsBlock, cipher}
use Rattle.kr_aes.specs.InverseCipher.{inverse_cipher}
use Rattle.kr_aes.proofs.Blocks.{IsBlock-cipher, length-cipher}
use Rattle.kr_aes.proofs.InverseRounds.{inverse_cipher-cipher}
use Rattle.kr_modes.specs.declared.ModeNo.TheVariants.{BadPadding}
use Rattle.kr_modes.specs.Blocks.{blocks, xor}
use Rattle.kr_modes.specs.Cbc.{cbc, cbc_blocks, cbc_opened, uncbc, uncbc_blocks}
use Rattle.kr_modes.specs.Gcm.{gctr, counter_block, gcm, gcm_opened, gcm_tag, key_stream, ungcm, zero_padded}
use Rattle.kr_modes.specs.Ghash.{polynomial_block, ghash, ghash_blocks, polynomial}
use Rattle.kr_modes.specs.Padding.{pad, padding, unpad}
use Rattle.kr_modes.proofs.FirstBlocks.{blocks-first_blocks, first_blocks}
use Rattle.kr_modes.proofs.Opening.{cbc_unpadded, gcm_some, tag_from_some, ungcm_some}
use Rattle.kr_modes.proofs.Paddings.{length-pad}
use Rattle.kr_modes.proofs.Streams.{GivesBlocks, length-gctr, length-key_stream}
use Rattle.kr_modes.proofs.Unpaddings.{unpad_of_pad}
use Rattle.kr_modes.proofs.Xors.{length-xor, slice_index-xor, xor_twice}

-- ---- CBC

IsBlock-xor : (a b : List ℕ) → IsBlock a → IsBlock b → IsBlock (xor a b)
IsBlock-xor a b ha hb =
    let one : length a ≡ 16 = ha.size in
    let two : length b ≡ 16 = hb.size in
    let long : length (xor a b) ≡ 16 = omega (arith, length-xor a b) in record {
      size = long;
      bytes = All-from_get_or (λ byte. byte < 256) (xor a b) 0
          (λ k lt. rw (slice_index-xor a b k (omega arith) (omega arith))
          (xor_of_8 _ _ (All-get_or (λ byte. byte < 256) a k 0 (omega arith) ha.bytes) (All-get_or (λ byte. byte < 256) b k 0 (omega arith) hb.bytes)));
    }

length-cbc : (encipher : List ℕ → List ℕ) → GivesBlocks encipher → (n : ℕ) (iv text : List ℕ) → length (cbc_blocks encipher iv (first_blocks n text)) ≡ n * 16
unfolding cbc_blocks first_blocks
length-cbc encipher gives zero iv text = refl
length-cbc encipher gives (suc n) iv text =
    let first : List ℕ = encipher (xor (take 16 text) iv) in
    omega (arith, length-append first (cbc_blocks encipher first (first_blocks n (drop 16 text))), gives (xor (take 16 text) iv), length-cbc encipher gives n first (drop 16 text))

-- padded data keeps its length
pub length-cbc-pad : (encipher : List ℕ → List ℕ) → GivesBlocks encipher → (iv plain : List ℕ)
    → length (cbc encipher iv (pad plain)) ≡ length plain + 16 - length plain % 16
unfolding cbc
length-cbc-pad encipher gives iv plain =
    let n : ℕ = div_ceil (length (pad plain)) 16 in
    ap (λ (bs : List (List ℕ)). length (cbc_blocks encipher iv bs)) (blocks-first_blocks (pad plain))
    ∙ length-cbc encipher gives n iv (pad plain) ∙ omega (arith, length-pad plain)

-- each block is deciphered, and the one before it taken away
undone : (words : List ℕ) (rounds : Rounds) (n : ℕ) (iv text : List ℕ) → IsBlock iv → All (λ byte. byte < 256) text → length text ≡ n * 16
    → uncbc_blocks (inverse_cipher words rounds) iv (first_blocks n (cbc_blocks (cipher words rounds) iv (first_blocks n text))) ≡ text
unfolding cbc_blocks first_blocks uncbc_blocks
undone words rounds zero iv text is fits long = sym (nil_from_length text (omega arith))
undone words rounds (suc n) iv text is fits long =
    let block : List ℕ = take 16 text in
    let rest : List ℕ = drop 16 text in
    let first : List ℕ = cipher words rounds (xor block iv) in
    let sealed : List ℕ = cbc_blocks (cipher words rounds) first (first_blocks n rest) in
    let size : length block ≡ 16 = length-take-le 16 text (omega arith) in
    let whole : IsBlock block = record { size = size; bytes = All-take (λ byte. byte < 256) 16 text fits } in
    let front : take 16 (first ++ sealed) ≡ first = take_at first sealed 16 (length-cipher words rounds (xor block iv)) in
    let behind : drop 16 (first ++ sealed) ≡ sealed = drop_at first sealed 16 (length-cipher words rounds (xor block iv)) in
    let left : length rest ≡ n * 16 = omega (arith, length-drop 16 text) in
    let iv_size : length iv ≡ 16 = is.size in
    let opened : xor (inverse_cipher words rounds (take 16 (first ++ sealed))) iv ≡ block =
    ap (λ (b : List ℕ). xor (inverse_cipher words rounds b) iv) front
    ∙ ap (λ (b : List ℕ). xor b iv) (inverse_cipher-cipher words rounds (xor block iv) (IsBlock-xor block iv whole is))
    ∙ xor_twice block iv (omega arith) in
    let others : uncbc_blocks (inverse_cipher words rounds) (take 16 (first ++ sealed)) (first_blocks n (drop 16 (first ++ sealed))) ≡ rest =
    (λ i. uncbc_blocks (inverse_cipher words rounds) (front i) (first_blocks n (behind i)))
    ∙ undone words rounds n first rest (IsBlock-cipher words rounds (xor block iv)) (All-drop (λ byte. byte < 256) 16 text fits) left in
    (λ i. opened i ++ others i) ∙ take-append-drop 16 text

bytes_of_pad : (plain : List ℕ) → All (λ byte. byte < 256) plain → All (λ byte. byte < 256) (pad plain)
unfolding pad
bytes_of_pad plain fits = All-append (λ byte. byte < 256) plain _ fits (All-replicate (λ byte. byte < 256) (padding plain) (padding plain) (omega arith))

pub cbc_opened-cbc : (words : List ℕ) (rounds : Rounds) (iv plain : List ℕ) → IsBlock iv → All (λ byte. byte < 256) plain
    → cbc_opened (inverse_cipher words rounds) (iv ++ cbc (cipher words rounds) iv (pad plain)) ≡ Ok plain
unfolding cbc uncbc
cbc_opened-cbc words rounds iv plain is fits =
    let encipher : List ℕ → List ℕ = cipher words rounds in
    let decipher : List ℕ → List ℕ = inverse_cipher words rounds in
    let text : List ℕ = pad plain in
    let n : ℕ = length plain / 16 + 1 in
    let sealed : List ℕ = cbc_blocks encipher iv (first_blocks n text) in
    let size : length text ≡ n * 16 = omega (arith, length-pad plain) in
    let count : div_ceil (length text) 16 ≡ n = omega arith in
    let same : cbc encipher iv text ≡ sealed = ap (cbc_blocks encipher iv) (blocks-first_blocks text ∙ ap (λ (k : ℕ). first_blocks k text) count) in
    let long : length sealed ≡ n * 16 = length-cbc encipher (length-cipher words rounds) n iv text in
    let iv_size : length iv ≡ 16 = is.size in
    let both : length (iv ++ sealed) ≡ 16 + n * 16 = omega (arith, length-append iv sealed) in
    let again : blocks sealed ≡ first_blocks n sealed =
    blocks-first_blocks sealed ∙ ap (λ (k : ℕ). first_blocks k sealed) (let e : div_ceil (length sealed) 16 ≡ n = omega arith in e) in
    let plainly : uncbc decipher (take 16 (iv ++ sealed)) (drop 16 (iv ++ sealed)) ≡ text =
    (λ i. uncbc decipher (take_at iv sealed 16 is.size i) (drop_at iv sealed 16 is.size i))
    ∙ ap (uncbc_blocks decipher iv) again
    ∙ undone words rounds n iv text is (bytes_of_pad plain fits) size in
    ap (λ (s : List ℕ). cbc_opened decipher (iv ++ s)) same
    ∙ cbc_unpadded decipher (iv ++ sealed) (omega arith) (omega arith)
    ∙ ap (λ (t : List ℕ). ok_or (unpad t) BadPadding) plainly
    ∙ ap (λ (o : Option (List ℕ)). ok_or o BadPadding) (unpad_of_pad text plain refl)

-- ---- GCM

length-polynomial_block : (p : ℕ) → length (polynomial_block p) ≡ 16
unfolding polynomial_block
length-polynomial_block p = refl

length-ghash : (subkey bytes : List ℕ) → length (ghash subkey bytes) ≡ 16
unfolding ghash
length-ghash subkey bytes = length-polynomial_block (ghash_blocks (polynomial subkey) 0 (blocks bytes))

length-gcm_tag : (encipher : List ℕ → List ℕ) (nonce aad ciphertext : List ℕ) → GivesBlocks encipher → length (gcm_tag encipher nonce aad ciphertext) ≡ 16
unfolding gcm_tag
length-gcm_tag encipher nonce aad ciphertext gives =
    let text : List ℕ = zero_padded aad ++ zero_padded ciphertext ++ (to_be_bytes w64 (8 * length aad) ++ to_be_bytes w64 (8 * length ciphertext)) in
    let hash : length (ghash (encipher (replicate 16 0)) text) ≡ 16 = length-ghash (encipher (replicate 16 0)) text in
    let key : length (encipher (counter_block nonce 0)) ≡ 16 = gives (counter_block nonce 0) in
    length-xor (ghash (encipher (replicate 16 0)) text) (encipher (counter_block nonce 0)) ∙ omega arith

-- counting twice gives the bytes back
gctr-gctr : (encipher : List ℕ → List ℕ) (nonce plain : List ℕ) → GivesBlocks encipher → gctr encipher nonce (gctr encipher nonce plain) ≡ plain
unfolding gctr
gctr-gctr encipher nonce plain gives =
    let n : ℕ = div_ceil (length plain) 16 in
    let stream : List ℕ = key_stream encipher nonce n in
    let same : length (xor plain stream) ≡ length plain = length-gctr encipher nonce plain gives in
    ap (λ (k : ℕ). xor (xor plain stream) (key_stream encipher nonce (div_ceil k 16))) same
    ∙ xor_twice plain stream (omega (arith, length-key_stream encipher nonce gives n))

-- the two parts of a sealed value
front_of_gcm : (encipher : List ℕ → List ℕ) (nonce aad plain : List ℕ) → GivesBlocks encipher
    → take (length plain) (gcm encipher nonce aad plain) ≡ gctr encipher nonce plain
unfolding gcm
front_of_gcm encipher nonce aad plain gives =
    take_at (gctr encipher nonce plain) (gcm_tag encipher nonce aad (gctr encipher nonce plain)) (length plain) (length-gctr encipher nonce plain gives)

end_of_gcm : (encipher : List ℕ → List ℕ) (nonce aad plain : List ℕ) → GivesBlocks encipher
    → drop (length plain) (gcm encipher nonce aad plain) ≡ gcm_tag encipher nonce aad (gctr encipher nonce plain)
unfolding gcm
end_of_gcm encipher nonce aad plain gives =
    drop_at (gctr encipher nonce plain) (gcm_tag encipher nonce aad (gctr encipher nonce plain)) (length plain) (length-gctr encipher nonce plain gives)

pub length-gcm : (encipher : List ℕ → List ℕ) (nonce aad plain : List ℕ) → GivesBlocks encipher → length (gcm encipher nonce aad plain) ≡ length plain + 16
unfolding gcm
length-gcm encipher nonce aad plain gives =
    length-append (gctr encipher nonce plain) (gcm_tag encipher nonce aad (gctr encipher nonce plain))
    ∙ omega (arith, length-gctr encipher nonce plain gives, length-gcm_tag encipher nonce aad (gctr encipher nonce plain) gives)

pub gcm_opened-gcm : (words : List ℕ) (rounds : Rounds) (nonce aad plain : List ℕ)
    → gcm_opened (cipher words rounds) nonce aad (gcm (cipher words rounds) nonce aad plain) ≡ Ok plain
gcm_opened-gcm words rounds nonce aad plain =
    let encipher : List ℕ → List ℕ = cipher words rounds in
    let gives : GivesBlocks encipher = length-cipher words rounds in
    let body : List ℕ = gcm encipher nonce aad plain in
    let size : length body ≡ length plain + 16 = length-gcm encipher nonce aad plain gives in
    let front : take (length plain) body ≡ gctr encipher nonce plain = front_of_gcm encipher nonce aad plain gives in
    gcm_some encipher nonce aad body (length plain) (omega arith) (omega arith)
    (end_of_gcm encipher nonce aad plain gives ∙ ap (gcm_tag encipher nonce aad) (sym front))
    ∙ ap Ok (ap (gctr encipher nonce) front ∙ gctr-gctr encipher nonce plain gives)

-- under other associated data the tags decide
pub ungcm-gcm : (words : List ℕ) (rounds : Rounds) (nonce aad other plain : List ℕ)
    → IsSome (ungcm (cipher words rounds) nonce other (gcm (cipher words rounds) nonce aad plain))
    ↔ (gcm_tag (cipher words rounds) nonce other (gctr (cipher words rounds) nonce plain) ≡ gcm_tag (cipher words rounds) nonce aad (gctr (cipher words rounds) nonce plain))
ungcm-gcm words rounds nonce aad other plain =
    let encipher : List ℕ → List ℕ = cipher words rounds in
    let gives : GivesBlocks encipher = length-cipher words rounds in
    let body : List ℕ = gcm encipher nonce aad plain in
    let size : length plain ≡ length body - 16 = omega (arith, length-gcm encipher nonce aad plain gives) in
    let front : take (length plain) body ≡ gctr encipher nonce plain = front_of_gcm encipher nonce aad plain gives in
    let end : drop (length plain) body ≡ gcm_tag encipher nonce aad (gctr encipher nonce plain) = end_of_gcm encipher nonce aad plain gives in (
      λ some. ap (gcm_tag encipher nonce other) (sym front) ∙ sym (tag_from_some encipher nonce other body (length plain) size some) ∙ end,
      λ same. ap is_some (ungcm_some encipher nonce other body (length plain) size (end ∙ sym same ∙ ap (gcm_tag encipher nonce other) (sym front))),
    )
