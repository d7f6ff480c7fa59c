-- Equations of bytes that are shown by computing each case.
use Rattle.std.proofs.Common.{◌≡◌, ℕ, zero, suc, ◌<◌, Bool, true, ◌&&◌, nat_eq, refl, arith, ◌%◌}
use Rattle.std.proofs.lemmas.Bool.Decides.{Decides-eqb, Decides-below_and}

-- whether two functions agree at each number below n
abbrev pub agree_below : (ℕ → ℕ) → (ℕ → ℕ) → ℕ → Bool
agree_below f g zero = true
agree_below f g (suc n) = nat_eq (f n) (g n) && agree_below f g n

pub same_below : (n : ℕ) (f g : ℕ → ℕ) → agree_below f g n ≡ true → (k : ℕ) → k < n → f k ≡ g k
same_below n f g h =
    (Decides-below_and (λ k. nat_eq (f k) (g k)) (λ k. f k ≡ g k) (agree_below f g) (λ k. Decides-eqb (f k) (g k)) refl (λ _. refl) n).0 h

-- a function whose values below n are bytes
pub bytes_below : (n : ℕ) (f : ℕ → ℕ) → agree_below (λ k. f k % 256) f n ≡ true → (k : ℕ) → k < n → f k < 256
bytes_below n f h k lt =
    let whole : f k % 256 ≡ f k = same_below n (λ k. f k % 256) f h k lt in
    omega arith
