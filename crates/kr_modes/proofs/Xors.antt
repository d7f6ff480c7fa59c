-- The exclusive or of strings, byte by byte.
use Rattle.std.proofs.Common.{◌≡◌, ℕ, zero, suc, ◌<◌, ◌≤◌, List, [], ◌∷◌, ◌++◌, length, take, drop, slice_index, bit_xor, min, refl, sym, ap, ◌∙◌, arith}
use Rattle.std.proofs.lemmas.List.{ext_get_or, take_all}
use Rattle.std.specs.Simd.Lanes.{zip2}
use Rattle.std.specs.Int.Bits.{xor_self, xor_zero_l, xor_zero_r}
use Rattle.std.proofs.lemmas.Nat.{xor_comm}
use lib.Bits.{xor_assoc}
use Rattle.kr_modes.specs.Blocks.{xor}

pub length-xor : (xs ys : List ℕ) → length (xor xs ys) ≡ min (length xs) (length ys)
unfolding xor
length-xor [] ys = omega arith
length-xor (x ∷ xs) [] = omega arith
length-xor (x ∷ xs) (y ∷ ys) = let before = length-xor xs ys in omega arith

pub slice_index-xor : (xs ys : List ℕ) (k : ℕ) → k < length xs → k < length ys → slice_index (xor xs ys) k ≡ bit_xor (slice_index xs k) (slice_index ys k)
unfolding xor
slice_index-xor (x ∷ xs) (y ∷ ys) zero hx hy = refl
slice_index-xor (x ∷ xs) (y ∷ ys) (suc k) hx hy = slice_index-xor xs ys k (omega arith) (omega arith)
slice_index-xor other ys k hx hy = absurd (omega arith)

pub xor_of_bytes : (zs xs ys : List ℕ) (n : ℕ) → length zs ≡ n → length xs ≡ n → length ys ≡ n
    → ((k : ℕ) → k < n → slice_index zs k ≡ bit_xor (slice_index xs k) (slice_index ys k)) → zs ≡ xor xs ys
xor_of_bytes zs xs ys n lz lx ly each =
    ext_get_or 0 zs (xor xs ys) (omega (arith, length-xor xs ys))
    (λ k h. each k (omega arith) ∙ sym (slice_index-xor xs ys k (omega arith) (omega arith)))

pub xor-comm : (xs ys : List ℕ) → xor xs ys ≡ xor ys xs
unfolding xor
xor-comm [] [] = refl
xor-comm (x ∷ xs) (y ∷ ys) = λ i. xor_comm x y i ∷ xor-comm xs ys i
xor-comm other another = refl

pub xor_nothing : (xs : List ℕ) → xor xs [] ≡ []
unfolding xor
xor_nothing [] = refl
xor_nothing (x ∷ xs) = refl

pub take-xor : (n : ℕ) (xs ys : List ℕ) → take n (xor xs ys) ≡ xor (take n xs) ys
unfolding xor
take-xor (suc n) (x ∷ xs) (y ∷ ys) = ap (λ (zs : List ℕ). bit_xor x y ∷ zs) (take-xor n xs ys)
take-xor other xs ys = refl

-- what goes past the second doesn't count
pub xor_cut : (n : ℕ) (xs ys : List ℕ) → length ys ≤ n → xor xs ys ≡ xor (take n xs) ys
xor_cut n xs ys h = sym (take_all n (xor xs ys) (omega (arith, length-xor xs ys))) ∙ take-xor n xs ys

pub xor-append : (xs ys zs : List ℕ) → length ys ≤ length xs → xor xs (ys ++ zs) ≡ xor xs ys ++ xor (drop (length ys) xs) zs
unfolding xor
xor-append xs [] zs h = ap (λ (front : List ℕ). front ++ xor xs zs) (sym (xor_nothing xs))
xor-append [] (y ∷ ys) zs h = absurd (omega arith)
xor-append (x ∷ xs) (y ∷ ys) zs h = ap (λ (rest : List ℕ). bit_xor x y ∷ rest) (xor-append xs ys zs (omega arith))

bit_twice : (a b : ℕ) → bit_xor (bit_xor a b) b ≡ a
bit_twice a b = xor_assoc a b b ∙ ap (bit_xor a) (xor_self b) ∙ xor_zero_r a

pub xor_twice : (xs ys : List ℕ) → length xs ≤ length ys → xor (xor xs ys) ys ≡ xs
unfolding xor
xor_twice [] ys h = refl
xor_twice (x ∷ xs) [] h = absurd (omega arith)
xor_twice (x ∷ xs) (y ∷ ys) h = λ i. bit_twice x y i ∷ xor_twice xs ys (omega arith) i

pub same_from_xor : (a b : ℕ) → bit_xor a b ≡ 0 → a ≡ b
same_from_xor a b e =
    sym (xor_zero_r a) ∙ ap (bit_xor a) (sym e) ∙ sym (xor_assoc a a b) ∙ ap (λ (x : ℕ). bit_xor x b) (xor_self a) ∙ xor_zero_l b

-- the exclusive or of vectors
pub xor_lanes : (xs ys : List ℕ) → zip2 bit_xor xs ys ≡ xor xs ys
unfolding xor
xor_lanes [] ys = refl
xor_lanes (x ∷ xs) [] = refl
xor_lanes (x ∷ xs) (y ∷ ys) = ap (λ (rest : List ℕ). bit_xor x y ∷ rest) (xor_lanes xs ys)
