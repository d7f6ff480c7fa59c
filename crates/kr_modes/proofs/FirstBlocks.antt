-- Blocks of a string, one after another.
use Rattle.std.proofs.Common.{◌≡◌, ℕ, zero, suc, ◌+◌, ◌*◌, ◌-◌, ◌<◌, List, [], ◌∷◌, length, take, drop, map, refl, sym, ap, ◌∙◌, arith}
use Rattle.std.proofs.lemmas.List.{drop-drop}
use Rattle.std.specs.Fork.{slice_chunk}
use Rattle.std.specs.Int.{div_ceil}
use Rattle.std.specs.List.{range_with_len}
use Rattle.kr_modes.specs.Blocks.{blocks}

-- n blocks
unfoldable pub first_blocks : ℕ → List ℕ → List (List ℕ)
first_blocks zero bytes = []
first_blocks (suc n) bytes = take 16 bytes ∷ first_blocks n (drop 16 bytes)

chunks_from : (bytes : List ℕ) (n start : ℕ) → map (slice_chunk bytes 16) (range_with_len start n) ≡ first_blocks n (drop (start * 16) bytes)
unfolding first_blocks
chunks_from bytes zero start = refl
chunks_from bytes (suc n) start =
    let next : (start + 1) * 16 ≡ start * 16 + 16 = omega arith in
    ap (λ (rest : List (List ℕ)). slice_chunk bytes 16 start ∷ rest)
    (chunks_from bytes n (start + 1) ∙ ap (first_blocks n) (ap (λ (k : ℕ). drop k bytes) next ∙ sym (drop-drop 16 (start * 16) bytes)))

pub blocks-first_blocks : (bytes : List ℕ) → blocks bytes ≡ first_blocks (div_ceil (length bytes) 16) bytes
unfolding blocks
blocks-first_blocks bytes = chunks_from bytes (div_ceil (length bytes) 16) 0

-- block i and those behind it
pub first_blocks-from : (bytes : List ℕ) (count i : ℕ) → i < count
    → first_blocks (count - i) (drop (i * 16) bytes) ≡ slice_chunk bytes 16 i ∷ first_blocks (count - (i + 1)) (drop ((i + 1) * 16) bytes)
unfolding first_blocks
first_blocks-from bytes count i lt =
    let some : count - i ≡ suc (count - (i + 1)) = omega arith in
    let next : (i + 1) * 16 ≡ i * 16 + 16 = omega arith in
    rw (some, next, ← drop-drop 16 (i * 16) bytes) refl
