-- CBC, block by block.
use Rattle.std.proofs.Common.{◌≡◌, ℕ, ◌+◌, ◌*◌, ◌-◌, ◌<◌, ◌≤◌, List, ◌++◌, length, take, drop, refl, sym, ap, ◌∙◌, arith, rules}
use Rattle.std.proofs.lemmas.List.{append_assoc, append-nil, drop-drop, take_all, places}
use Rattle.std.proofs.lemmas.Slice.{drop-put_mid, take-put_mid}
use Rattle.std.specs.Fork.{slice_chunk}
use Rattle.std.specs.Int.{div_ceil}
use borrow.Rule.Slice.PartMut.{put_mid}
use Rattle.kr_modes.specs.Blocks.{xor}
use Rattle.kr_modes.specs.Cbc.{cbc, cbc_blocks}
use Rattle.kr_modes.proofs.FirstBlocks.{blocks-first_blocks, first_blocks, first_blocks-from}

-- what the first i blocks of output and the last of them make of the rest
abbrev pub chained_from : (List ℕ → List ℕ) → List ℕ → List ℕ → List ℕ → ℕ → ℕ → List ℕ
chained_from encipher out previous bytes count i =
    take (16 * i) out ++ cbc_blocks encipher previous (first_blocks (count - i) (drop (i * 16) bytes))

pub chained_more : (encipher : List ℕ → List ℕ) (out previous bytes block : List ℕ) (count i k : ℕ) → i < count → 16 * i + 16 ≤ length out
    → k ≡ 16 → length block ≡ 16 → block ≡ encipher (xor (slice_chunk bytes 16 i) previous)
    → chained_from encipher (put_mid (16 * i) k out block) block bytes count (i + 1) ≡ chained_from encipher out previous bytes count i
unfolding cbc_blocks
chained_more encipher out previous bytes block count i k lt fits size long is =
    let rest : List (List ℕ) = first_blocks (count - (i + 1)) (drop ((i + 1) * 16) bytes) in
    let front : take (16 * (i + 1)) (put_mid (16 * i) k out block) ≡ take (16 * i) out ++ block =
    take-put_mid (16 * i) k out block (16 * (i + 1)) (omega arith) (omega arith) in
    rw (front, first_blocks-from bytes count i lt, append_assoc (take (16 * i) out) block (cbc_blocks encipher block rest), ← is) refl

pub length-written : (xs ys : List ℕ) (a k : ℕ) → a + k ≤ length xs → length ys ≡ k → length (put_mid a k xs ys) ≡ length xs
length-written xs ys a k fits long = search (rules, places)

-- nothing is written yet
pub chained_none : (encipher : List ℕ → List ℕ) (out iv bytes : List ℕ) (count : ℕ) → div_ceil (length bytes) 16 ≡ count
    → chained_from encipher out iv bytes count 0 ≡ cbc encipher iv bytes
unfolding cbc
chained_none encipher out iv bytes count e =
    let all : count - 0 ≡ count = omega arith in
    rw all (ap (cbc_blocks encipher iv) (ap (λ (n : ℕ). first_blocks n bytes) (sym e) ∙ sym (blocks-first_blocks bytes)))

-- all is written
pub chained_all : (encipher : List ℕ → List ℕ) (out previous bytes : List ℕ) (count i : ℕ) → i ≡ count → length out ≡ 16 * count
    → chained_from encipher out previous bytes count i ≡ out
unfolding cbc_blocks first_blocks
chained_all encipher out previous bytes count i e long =
    let none : count - i ≡ 0 = omega arith in
    rw none (append-nil (take (16 * i) out) ∙ take_all (16 * i) out (omega arith))

-- ---- in one buffer

-- what isn't written over from a on isn't from b on
pub unread_on : (xs ys : List ℕ) (a b : ℕ) → a ≤ b → drop a xs ≡ drop a ys → drop b xs ≡ drop b ys
unread_on xs ys a b le e =
    let sum : a + (b - a) ≡ b = omega arith in
    let on : (zs : List ℕ) → drop (b - a) (drop a zs) ≡ drop b zs = λ zs. drop-drop (b - a) a zs ∙ ap (λ (k : ℕ). drop k zs) sum in
    sym (on xs) ∙ ap (drop (b - a)) e ∙ on ys

-- a block that stands behind what is written over
pub unread_block : (xs ys : List ℕ) (a from i : ℕ) → a ≤ from + i * 16 → drop a xs ≡ drop a ys
    → slice_chunk (drop from xs) 16 i ≡ slice_chunk (drop from ys) 16 i
unread_block xs ys a from i le e =
    let at : (zs : List ℕ) → drop (i * 16) (drop from zs) ≡ drop (from + i * 16) zs = λ zs. drop-drop (i * 16) from zs in
    ap (take 16) (at xs ∙ unread_on xs ys a (from + i * 16) le e ∙ sym (at ys))

-- a block is written, and those behind it stay
pub unread_more : (xs ys block : List ℕ) (i k : ℕ) → 16 * i + 16 ≤ length xs → k ≡ 16 → length block ≡ k
    → drop (16 * i) xs ≡ drop (16 * i) ys → drop (16 * (i + 1)) (put_mid (16 * i) k xs block) ≡ drop (16 * (i + 1)) ys
unread_more xs ys block i k fits size long e =
    drop-put_mid (16 * i) k xs block (16 * (i + 1)) (omega arith) (omega arith) long
    ∙ unread_on xs ys (16 * i) (16 * (i + 1)) (omega arith) e
