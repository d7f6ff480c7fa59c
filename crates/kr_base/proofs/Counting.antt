-- Counts of faults from one call to the next.
use Rattle.std.proofs.Common.{ℕ, ◌^◌, ◌<◌, ◌≤◌, inl, inr, arith}
use Rattle.std.proofs.Math.Nat.{eq-or-lt_of_le}
use Rattle.kr_base.specs.Faults.{Rose}

-- a count that had not fallen, and then rose, rose
pub Rose-later : (a b c : ℕ) → a ≤ b → Rose b c → Rose a c
Rose-later a b c h (inl r) = inl (omega arith)
Rose-later a b c h (inr r) = elim (eq-or-lt_of_le h) [ inl e ↦ inr (omega arith, r.1) | inr l ↦ inl (omega arith) ]

-- a count that rose, and then did not fall, rose, while it stays within its type
pub Rose-kept : (a b c : ℕ) → Rose a b → b ≤ c → c < 2 ^ 64 → Rose a c
Rose-kept a b c (inl r) h w = inl (omega arith)
Rose-kept a b c (inr r) h w = inr (r.0, omega arith)
