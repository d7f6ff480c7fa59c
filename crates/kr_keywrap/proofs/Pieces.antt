-- Eight bytes at a place of a string.
use Rattle.std.proofs.Common.{◌≡◌, ℕ, ◌+◌, ◌≤◌, List, ◌++◌, length, take, drop, sym, ap, ◌∙◌, arith}
use Rattle.std.proofs.lemmas.List.{append_assoc, drop-drop, drop_at, length-append, length-drop, length-take-le, take-append-drop, take_at}
use Rattle.kr_base.specs.Tapes.{with_bytes_at}

pub length-with_bytes_at : (r : List ℕ) (place : ℕ) (x : List ℕ) → place + 8 ≤ length r → length x ≡ 8
    → length (with_bytes_at r place x) ≡ length r
length-with_bytes_at r place x fits long =
    omega (
      arith,
      length-append (take place r) (x ++ drop (place + length x) r),
      length-append x (drop (place + length x) r),
      length-take-le place r (omega arith),
      length-drop (place + length x) r,
    )

pub piece_put : (r : List ℕ) (place : ℕ) (x : List ℕ) → place + 8 ≤ length r → length x ≡ 8
    → take 8 (drop place (with_bytes_at r place x)) ≡ x
piece_put r place x fits long =
    ap (take 8) (drop_at (take place r) (x ++ drop (place + length x) r) place (length-take-le place r (omega arith)))
    ∙ take_at x (drop (place + length x) r) 8 long

pub length-piece : (r : List ℕ) (place : ℕ) → place + 8 ≤ length r → length (take 8 (drop place r)) ≡ 8
length-piece r place fits = length-take-le 8 (drop place r) (omega (arith, length-drop place r))

-- the bytes that stood at a place, put back
pub piece_back : (r : List ℕ) (place : ℕ) (x : List ℕ) → place + 8 ≤ length r → length x ≡ 8
    → with_bytes_at (with_bytes_at r place x) place (take 8 (drop place r)) ≡ r
piece_back r place x fits long =
    let y : List ℕ = take 8 (drop place r) in
    let rest : List ℕ = drop (place + length x) r in
    let size : length y ≡ 8 = length-piece r place fits in
    let head : length (take place r) ≡ place = length-take-le place r (omega arith) in
    let front : take place (with_bytes_at r place x) ≡ take place r = take_at (take place r) (x ++ rest) place head in
    let both : length (take place r ++ x) ≡ place + length y = omega (arith, length-append (take place r) x) in
    let back : drop (place + length y) (with_bytes_at r place x) ≡ rest =
    ap (drop (place + length y)) (sym (append_assoc (take place r) x rest)) ∙ drop_at (take place r ++ x) rest (place + length y) both in
    let tail : rest ≡ drop 8 (drop place r) = ap (λ (n : ℕ). drop (place + n) r) long ∙ sym (drop-drop 8 place r) in
    (λ i. front i ++ (y ++ back i))
    ∙ ap (λ (l : List ℕ). take place r ++ (y ++ l)) tail
    ∙ ap (λ (l : List ℕ). take place r ++ l) (take-append-drop 8 (drop place r))
    ∙ take-append-drop place r
