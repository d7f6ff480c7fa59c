-- The blocks T(1), T(2), .. of HKDF-Expand: their lengths, and what one more of them changes.
use Rattle.std.proofs.Common.{◌≡◌, ℕ, zero, suc, ◌+◌, ◌-◌, ◌*◌, ◌≤◌, min, List, [], ◌∷◌, ◌++◌, length, take, drop, refl, sym, ap, ◌∙◌, add-one, arith, rules}
use Rattle.std.specs.Int.{div_ceil}
use Rattle.std.specs.List.{flat_map, range_with_len}
use Rattle.std.proofs.lemmas.List.{append-nil, length-append, map-id, take_all, drop_at, take_min, length-take-le, places}
use Rattle.std.proofs.lemmas.List.Concat.{flat_map-append}
use Rattle.std.proofs.lemmas.List.FromFn.{map-range_with_len_more}
use Rattle.std.proofs.lemmas.Slice.{between_is, take-put_mid}
use Rattle.std.proofs.Math.Seq.{take-append-add}
use borrow.Rule.Slice.PartMut.{put_mid}
use Rattle.sha2.proofs.Facts256.{length-sha256}
use Rattle.kr_hkdf.specs.Hmac.{hmac}
use Rattle.kr_hkdf.specs.Hkdf.{output_block, output_blocks, hkdf_expand}

-- a code is as long as a digest
pub length-hmac : (key text : List ℕ) → length (hmac key text) ≡ 32
unfolding hmac
length-hmac key text = length-sha256 _

length-output_block : (prk info : List ℕ) (n : ℕ) → length (output_block prk info (suc n)) ≡ 32
unfolding output_block
length-output_block prk info n = length-hmac _ _

-- T(n + 1) is made of T(n)
pub output_block-more : (prk info : List ℕ) (n : ℕ) → output_block prk info (n + 1) ≡ hmac prk (output_block prk info n ++ info ++ (n + 1) ∷ [])
unfolding output_block
output_block-more prk info n = rw (add-one n) refl

range_with_len-more : (n : ℕ) → range_with_len 1 (n + 1) ≡ range_with_len 1 n ++ (n + 1) ∷ []
range_with_len-more n =
    sym (map-id (range_with_len 1 (n + 1))) ∙ map-range_with_len_more (λ k. k) 1 n (n + 1) (omega arith) ∙ ap (λ (ks : List ℕ). ks ++ (n + 1) ∷ []) (map-id (range_with_len 1 n))

output_blocks-more : (prk info : List ℕ) (n : ℕ) → output_blocks prk info (n + 1) ≡ output_blocks prk info n ++ output_block prk info (n + 1)
output_blocks-more prk info n =
    ap (flat_map (output_block prk info)) (range_with_len-more n) ∙ flat_map-append (output_block prk info) (range_with_len 1 n) ((n + 1) ∷ []) ∙ ap (λ (b : List ℕ). output_blocks prk info n ++ b) (append-nil (output_block prk info (n + 1)))

output_blocks-suc : (prk info : List ℕ) (n : ℕ) → output_blocks prk info (suc n) ≡ output_blocks prk info n ++ output_block prk info (suc n)
output_blocks-suc prk info n = rw add-one at (output_blocks-more prk info n)

length-output_blocks : (prk info : List ℕ) (n : ℕ) → length (output_blocks prk info n) ≡ 32 * n
length-output_blocks prk info zero = refl
length-output_blocks prk info (suc n) =
    let before = length-output_blocks prk info n in
    let block = length-output_block prk info n in
    let both = length-append (output_blocks prk info n) (output_block prk info (suc n)) in
    ap length (output_blocks-suc prk info n) ∙ omega (arith, before, block, both)

-- T(1) to T(n) end with T(n)
drop-output_blocks : (prk info : List ℕ) (n : ℕ) → drop (32 * n - 32) (output_blocks prk info n) ≡ output_block prk info n
unfolding output_block
drop-output_blocks prk info zero = refl
drop-output_blocks prk info (suc n) =
    let before = length-output_blocks prk info n in
    ap (drop (32 * suc n - 32)) (output_blocks-suc prk info n)
    ∙ drop_at (output_blocks prk info n) (output_block prk info (suc n)) (32 * suc n - 32) (omega (arith, before))

-- in an output that n blocks are written to, T(n) stands where the next block looks for it
pub written_block : (prk info out : List ℕ) (n start : ℕ) → 32 * n ≤ length out → start ≡ 32 * n - 32
    → take (32 * n) out ≡ take (length out) (output_blocks prk info n)
    → take (32 * n - start) (drop start out) ≡ output_block prk info n
written_block prk info out n start fits starts written =
    let long = length-output_blocks prk info n in
    between_is out start (32 * n) ∙ ap (λ (k : ℕ). drop k (take (32 * n) out)) starts
    ∙ ap (drop (32 * n - 32)) (written ∙ take_all (length out) (output_blocks prk info n) (omega arith))
    ∙ drop-output_blocks prk info n

-- a write of ys from a up to end keeps the length
length-put_mid : (xs ys : List ℕ) (a end : ℕ) → a ≤ end → end ≤ length xs → length ys ≡ end - a → length (put_mid a (end - a) xs ys) ≡ length xs
length-put_mid xs ys a end ordered within long = search (rules, places)

-- and what stands before m, which is past end only where the list ends
written_at : (xs ys : List ℕ) (a end m : ℕ) → a ≤ end → end ≡ min m (length xs) → length ys ≡ end - a → take m (put_mid a (end - a) xs ys) ≡ take a xs ++ ys
written_at xs ys a end m ordered ends long =
    let zs : List ℕ = put_mid a (end - a) xs ys in
    let same : length zs ≡ length xs = length-put_mid xs ys a end ordered (omega arith) long in
    sym (take_min m zs) ∙ ap (λ (k : ℕ). take k zs) (ap (min m) same ∙ sym ends) ∙ take-put_mid a (end - a) xs ys end (omega arith) (omega arith)

-- the first m of two lists, where k of the second are among them
cut_at : (xs ys : List ℕ) (m k : ℕ) → min m (length xs + length ys) ≡ length xs + k → take m (xs ++ ys) ≡ xs ++ take k ys
cut_at xs ys m k e =
    sym (take_min m (xs ++ ys)) ∙ ap (λ (j : ℕ). take j (xs ++ ys)) (ap (min m) (length-append xs ys) ∙ e) ∙ take-append-add xs ys k

-- after n blocks the next one, cut where the output ends, is written from 32 * n up to end
pub write_block : (prk info out block : List ℕ) (n end : ℕ) → 32 * n ≤ length out → end ≡ min (length out) (32 * n + 32)
    → take (32 * n) out ≡ take (length out) (output_blocks prk info n)
    → block ≡ take (end - 32 * n) (output_block prk info (n + 1))
    → (length (put_mid (32 * n) (end - 32 * n) out block) ≡ length out) × (take (32 * (n + 1)) (put_mid (32 * n) (end - 32 * n) out block) ≡ take (length out) (output_blocks prk info (n + 1)))
write_block prk info out block n end fits ends written is_block =
    let b : List ℕ = output_blocks prk info n in
    let t : List ℕ = output_block prk info (n + 1) in
    let t_long : length t ≡ 32 = rw add-one (length-output_block prk info n) in
    let b_long : length b ≡ 32 * n = length-output_blocks prk info n in
    let block_long : length block ≡ end - 32 * n = ap length is_block ∙ length-take-le (end - 32 * n) t (omega arith) in (
      length-put_mid out block (32 * n) end (omega arith) (omega arith) block_long,
      written_at out block (32 * n) end (32 * (n + 1)) (omega arith) (omega arith) block_long
          ∙ ap (λ (front : List ℕ). front ++ block) (written ∙ take_all (length out) b (omega arith))
          ∙ ap (λ (ys : List ℕ). b ++ ys) is_block
          ∙ sym (cut_at b t (length out) (end - 32 * n) (omega arith))
          ∙ ap (take (length out)) (sym (output_blocks-more prk info n)),
    )

-- an output is as long as it was asked to be
pub length-hkdf_expand : (prk info : List ℕ) (size : ℕ) → length (hkdf_expand prk info size) ≡ size
unfolding hkdf_expand
length-hkdf_expand prk info size =
    length-take-le size (output_blocks prk info (div_ceil size 32)) (omega (arith, length-output_blocks prk info (div_ceil size 32)))
