-- The first number that passes a test.
use Rattle.std.proofs.Common.{◌≡◌, ℕ, zero, suc, ◌+◌, ◌<◌, ◌≤◌, Bool, true, Some, find, unwrap_or, ap, ◌∙◌, inl, inr, arith}
use Rattle.std.specs.List.{range_with_len}
use Rattle.std.proofs.lemmas.Bool.{cases_Bool, cases_lt}

-- where one number alone passes
pub find_one : (test : ℕ → Bool) (a n c : ℕ) → a ≤ c → c < a + n → test c ≡ true
    → ((k : ℕ) → a ≤ k → k < a + n → test k ≡ true → k ≡ c) → find test (range_with_len a n) ≡ Some c
find_one test a zero c le lt is one = absurd (omega arith)
find_one test a (suc n) c le lt is one = elim (cases_Bool (test a)) [
  | inl passed ↦ rw passed (ap Some (one a (omega arith) (omega arith) passed))
  | inr failed ↦ elim (cases_lt a c) [
    | inl below ↦ rw failed (find_one test (a + 1) n c (omega arith) (omega arith) is (λ k low high. one k (omega arith) (omega arith)))
    | inr at ↦
        let e : a ≡ c = omega arith in
        let t : test a ≡ true = ap test e ∙ is in
        absurd (cc)
  ]
]

-- what is found is below the end
pub find-lt : (test : ℕ → Bool) (a n m : ℕ) → a + n ≤ m → 0 < m → unwrap_or (find test (range_with_len a n)) 0 < m
find-lt test a zero m le some = some
find-lt test a (suc n) m le some = elim (cases_Bool (test a)) [
  | inl passed ↦ rw passed (omega arith)
  | inr failed ↦ rw failed (find-lt test (a + 1) n m (omega arith) some)
]
