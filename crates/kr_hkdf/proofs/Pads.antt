-- One more byte of a block is XORed with a pad.
use Rattle.std.proofs.Common.{◌≡◌, ℕ, ◌+◌, ◌<◌, List, [], ◌∷◌, ◌++◌, length, take, drop, map, get_or, set, bit_xor, sym, ap, ◌∙◌, arith}
use Rattle.std.proofs.lemmas.List.{append_assoc, map-append, take_more, drop_more, set_at, get_or_at, length-map, length-take-le}

pub pad_more : (xs block : List ℕ) (pad i : ℕ) → i < length block → xs ≡ map (λ byte. bit_xor byte pad) (take i block) ++ drop i block
    → set xs i (bit_xor (get_or xs i 0) pad) ≡ map (λ byte. bit_xor byte pad) (take (i + 1) block) ++ drop (i + 1) block
pad_more xs block pad i within so_far =
    let f : ℕ → ℕ = λ byte. bit_xor byte pad in
    let x : ℕ = get_or block i 0 in
    let front : List ℕ = map f (take i block) in
    let rest : List ℕ = drop (i + 1) block in
    let long : length front ≡ i = length-map (take i block) f ∙ length-take-le i block (omega arith) in
    let now : xs ≡ front ++ x ∷ rest = so_far ∙ ap (λ (ys : List ℕ). front ++ ys) (drop_more block i 0 within) in
    let byte : get_or xs i 0 ≡ x = ap (λ (ys : List ℕ). get_or ys i 0) now ∙ get_or_at front x rest 0 i long in
    let written : set xs i (f (get_or xs i 0)) ≡ front ++ f x ∷ rest =
    ap (λ (ys : List ℕ). set ys i (f (get_or xs i 0))) now ∙ set_at front x rest (f (get_or xs i 0)) i long ∙ ap (λ (y : ℕ). front ++ f y ∷ rest) byte in
    let taken : map f (take (i + 1) block) ≡ front ++ f x ∷ [] = ap (map f) (take_more block i 0 within) ∙ map-append f (take i block) (x ∷ []) in
    written ∙ sym (append_assoc front (f x ∷ []) rest) ∙ ap (λ (ys : List ℕ). ys ++ rest) (sym taken)
