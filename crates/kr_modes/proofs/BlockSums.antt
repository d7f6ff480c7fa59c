-- The exclusive or of two blocks by those of the numbers that their halves are, the lowest byte
-- first.
use Rattle.std.proofs.Common.{◌≡◌, ℕ, zero, suc, ◌+◌, ◌*◌, ◌/◌, ◌%◌, ◌^◌, ◌<◌, List, [], ◌∷◌, All, length, bit_xor, slice_index, refl, sym, ap, ◌∙◌, arith, inl, inr}
use Rattle.std.proofs.lemmas.Bool.{cases_lt}
use Rattle.std.proofs.lemmas.List.{get_or_past}
use Rattle.std.proofs.lemmas.List.Elements.{All-get_or}
use Rattle.std.proofs.lemmas.Nat.{le_bytes_8, xor_mod, xor_shr}
use Rattle.std.specs.Int.{w64, byte_at, from_le_bytes, to_le_bytes}
use Rattle.kr_modes.specs.Blocks.{xor}
use Rattle.kr_modes.proofs.Groups.{byte_is, low_first}
use Rattle.kr_modes.proofs.Xors.{xor_of_bytes}

below_256 : (bytes : List ℕ) → All (λ byte. byte < 256) bytes → (k : ℕ) → slice_index bytes k < 256
below_256 bytes all k = elim (cases_lt k (length bytes)) [
  | inl lt ↦ All-get_or (λ byte. byte < 256) bytes k 0 lt all
  | inr ge ↦ rw (get_or_past bytes k 0 ge) (omega arith)
]

byte_of_half : (n i : ℕ) → i < 8 → slice_index (to_le_bytes w64 n) i ≡ n / 2 ^ (8 * i) % 256
byte_of_half n i lt =
    let e : 0 + i ≡ i = omega arith in
    low_first 8 0 n i lt ∙ ap (λ (j : ℕ). byte_at j n) e ∙ byte_is i n

byte_of_number : (half : List ℕ) (i : ℕ) → length half ≡ 8 → All (λ byte. byte < 256) half → i < 8
    → from_le_bytes w64 half / 2 ^ (8 * i) % 256 ≡ slice_index half i
byte_of_number half i size all lt =
    let n : ℕ = from_le_bytes w64 half in
    sym (byte_of_half n i lt) ∙ ap (λ (bytes : List ℕ). slice_index bytes i) (le_bytes_8 half n size (below_256 half all) refl)

pub xor_of_halves : (a b : List ℕ) → length a ≡ 8 → length b ≡ 8 → All (λ byte. byte < 256) a → All (λ byte. byte < 256) b
    → to_le_bytes w64 (bit_xor (from_le_bytes w64 a) (from_le_bytes w64 b)) ≡ xor a b
xor_of_halves a b sa sb ha hb =
    let x : ℕ = from_le_bytes w64 a in
    let y : ℕ = from_le_bytes w64 b in
    xor_of_bytes (to_le_bytes w64 (bit_xor x y)) a b 8 refl sa sb
    (λ k lt.
    byte_of_half (bit_xor x y) k lt
    ∙ ap (λ (n : ℕ). n % 2 ^ 8) (xor_shr x y (8 * k))
    ∙ xor_mod (x / 2 ^ (8 * k)) (y / 2 ^ (8 * k)) 8
    ∙ (λ t. bit_xor (byte_of_number a k sa ha lt t) (byte_of_number b k sb hb lt t)))

-- the cells of both halves
each_cell : (block other low high : List ℕ)
    → low ≡ xor (slice_index block 0 ∷ slice_index block 1 ∷ slice_index block 2 ∷ slice_index block 3 ∷ slice_index block 4 ∷ slice_index block 5 ∷ slice_index block 6 ∷ slice_index block 7 ∷ []) (slice_index other 0 ∷ slice_index other 1 ∷ slice_index other 2 ∷ slice_index other 3 ∷ slice_index other 4 ∷ slice_index other 5 ∷ slice_index other 6 ∷ slice_index other 7 ∷ [])
    → high ≡ xor (slice_index block 8 ∷ slice_index block 9 ∷ slice_index block 10 ∷ slice_index block 11 ∷ slice_index block 12 ∷ slice_index block 13 ∷ slice_index block 14 ∷ slice_index block 15 ∷ []) (slice_index other 8 ∷ slice_index other 9 ∷ slice_index other 10 ∷ slice_index other 11 ∷ slice_index other 12 ∷ slice_index other 13 ∷ slice_index other 14 ∷ slice_index other 15 ∷ [])
    → (k : ℕ) → k < 16
    → slice_index (slice_index low 0 ∷ slice_index low 1 ∷ slice_index low 2 ∷ slice_index low 3 ∷ slice_index low 4 ∷ slice_index low 5 ∷ slice_index low 6 ∷ slice_index low 7 ∷ slice_index high 0 ∷ slice_index high 1 ∷ slice_index high 2 ∷ slice_index high 3 ∷ slice_index high 4 ∷ slice_index high 5 ∷ slice_index high 6 ∷ slice_index high 7 ∷ []) k
    ≡ bit_xor (slice_index block k) (slice_index other k)
unfolding xor
each_cell block other low high el eh zero lt = ap (λ (x : List ℕ). slice_index x 0) el
each_cell block other low high el eh (suc zero) lt = ap (λ (x : List ℕ). slice_index x 1) el
each_cell block other low high el eh (suc (suc zero)) lt = ap (λ (x : List ℕ). slice_index x 2) el
each_cell block other low high el eh (suc (suc (suc zero))) lt = ap (λ (x : List ℕ). slice_index x 3) el
each_cell block other low high el eh (suc (suc (suc (suc zero)))) lt = ap (λ (x : List ℕ). slice_index x 4) el
each_cell block other low high el eh (suc (suc (suc (suc (suc zero))))) lt = ap (λ (x : List ℕ). slice_index x 5) el
each_cell block other low high el eh (suc (suc (suc (suc (suc (suc zero)))))) lt = ap (λ (x : List ℕ). slice_index x 6) el
each_cell block other low high el eh (suc (suc (suc (suc (suc (suc (suc zero))))))) lt = ap (λ (x : List ℕ). slice_index x 7) el
each_cell block other low high el eh (suc (suc (suc (suc (suc (suc (suc (suc zero)))))))) lt = ap (λ (x : List ℕ). slice_index x 0) eh
each_cell block other low high el eh (suc (suc (suc (suc (suc (suc (suc (suc (suc zero))))))))) lt = ap (λ (x : List ℕ). slice_index x 1) eh
each_cell block other low high el eh (suc (suc (suc (suc (suc (suc (suc (suc (suc (suc zero)))))))))) lt = ap (λ (x : List ℕ). slice_index x 2) eh
each_cell block other low high el eh (suc (suc (suc (suc (suc (suc (suc (suc (suc (suc (suc zero))))))))))) lt = ap (λ (x : List ℕ). slice_index x 3) eh
each_cell block other low high el eh (suc (suc (suc (suc (suc (suc (suc (suc (suc (suc (suc (suc zero)))))))))))) lt = ap (λ (x : List ℕ). slice_index x 4) eh
each_cell block other low high el eh (suc (suc (suc (suc (suc (suc (suc (suc (suc (suc (suc (suc (suc zero))))))))))))) lt = ap (λ (x : List ℕ). slice_index x 5) eh
each_cell block other low high el eh (suc (suc (suc (suc (suc (suc (suc (suc (suc (suc (suc (suc (suc (suc zero)))))))))))))) lt = ap (λ (x : List ℕ). slice_index x 6) eh
each_cell block other low high el eh (suc (suc (suc (suc (suc (suc (suc (suc (suc (suc (suc (suc (suc (suc (suc zero))))))))))))))) lt = ap (λ (x : List ℕ). slice_index x 7) eh
each_cell block other low high el eh (suc (suc (suc (suc (suc (suc (suc (suc (suc (suc (suc (suc (suc (suc (suc (suc k)))))))))))))))) lt = absurd (omega arith)

pub halves_joined : (block other low high : List ℕ) → length block ≡ 16 → length other ≡ 16
    → low ≡ xor (slice_index block 0 ∷ slice_index block 1 ∷ slice_index block 2 ∷ slice_index block 3 ∷ slice_index block 4 ∷ slice_index block 5 ∷ slice_index block 6 ∷ slice_index block 7 ∷ []) (slice_index other 0 ∷ slice_index other 1 ∷ slice_index other 2 ∷ slice_index other 3 ∷ slice_index other 4 ∷ slice_index other 5 ∷ slice_index other 6 ∷ slice_index other 7 ∷ [])
    → high ≡ xor (slice_index block 8 ∷ slice_index block 9 ∷ slice_index block 10 ∷ slice_index block 11 ∷ slice_index block 12 ∷ slice_index block 13 ∷ slice_index block 14 ∷ slice_index block 15 ∷ []) (slice_index other 8 ∷ slice_index other 9 ∷ slice_index other 10 ∷ slice_index other 11 ∷ slice_index other 12 ∷ slice_index other 13 ∷ slice_index other 14 ∷ slice_index other 15 ∷ [])
    → (slice_index low 0 ∷ slice_index low 1 ∷ slice_index low 2 ∷ slice_index low 3 ∷ slice_index low 4 ∷ slice_index low 5 ∷ slice_index low 6 ∷ slice_index low 7 ∷ slice_index high 0 ∷ slice_index high 1 ∷ slice_index high 2 ∷ slice_index high 3 ∷ slice_index high 4 ∷ slice_index high 5 ∷ slice_index high 6 ∷ slice_index high 7 ∷ [])
    ≡ xor block other
halves_joined block other low high sb so el eh = xor_of_bytes _ block other 16 refl sb so (each_cell block other low high el eh)
