-- Lists that a loop over numbers fills.
use Rattle.std.proofs.Common.{◌≡◌, ℕ, ◌+◌, List, [], ◌∷◌, ◌++◌, map, sym, ap, ◌∙◌, arith}
use Rattle.std.specs.List.{range_with_len}
use Rattle.std.proofs.lemmas.List.{append_assoc}
use Rattle.std.proofs.lemmas.List.FromFn.{map-range_with_len_more}

-- one item more
pub one_more : {A : Type 0} (f : ℕ → A) (n : ℕ) (first done more : List A) (x : A)
    → done ≡ first ++ map f (range_with_len 0 n) → more ≡ done ++ x ∷ [] → x ≡ f n
    → more ≡ first ++ map f (range_with_len 0 (n + 1))
one_more f n first done more x so push is =
    push ∙ (λ i. so i ++ is i ∷ [])
    ∙ append_assoc first (map f (range_with_len 0 n)) (f n ∷ [])
    ∙ ap (λ rest. first ++ rest) (sym (map-range_with_len_more f 0 n n (zero_more n)))
  where
    zero_more : (n : ℕ) → 0 + n ≡ n
    zero_more n = omega arith
