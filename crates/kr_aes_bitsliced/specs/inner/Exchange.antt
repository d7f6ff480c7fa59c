-- Two planes that exchange bits: for each place of a mask, bit `place + shift` of the low plane
-- with bit `place` of the high one.
use Rattle.std.specs.Prelude.{◌≡◌, ℕ, ◌+◌, ◌<◌, List, slice_index}
use Rattle.std.specs.Int.{bit_at}

-- the places of the mask, and those above them by the shift, are places of a byte, and none is both
pub record AreApart (shift mask : ℕ) : Type 0 where
  pub small : shift < 8
  pub within : (place : ℕ) → place < 8 → bit_at mask place ≡ 1 → place + shift < 8
  pub apart : (place : ℕ) → place < 8 → bit_at mask place ≡ 1 → bit_at mask (place + shift) ≡ 0

-- the planes after the exchange
pub record IsExchange (shift mask : ℕ) (low high new_low new_high : List ℕ) : Type 0 where
  pub low_kept : (p place : ℕ) → p < 16 → bit_at mask place ≡ 1
      → bit_at (slice_index new_low p) place ≡ bit_at (slice_index low p) place
  pub low_taken : (p place : ℕ) → p < 16 → bit_at mask place ≡ 1
      → bit_at (slice_index new_low p) (place + shift) ≡ bit_at (slice_index high p) place
  pub high_taken : (p place : ℕ) → p < 16 → bit_at mask place ≡ 1
      → bit_at (slice_index new_high p) place ≡ bit_at (slice_index low p) (place + shift)
  pub high_kept : (p place : ℕ) → p < 16 → bit_at mask place ≡ 1
      → bit_at (slice_index new_high p) (place + shift)
      ≡ bit_at (slice_index high p) (place + shift)
