-- How far a buffer was filled from a source.
use Rattle.std.proofs.Common.{◌≡◌, ℕ, ◌+◌, ◌-◌, ◌≤◌, List, length, take, Option, sym, ◌∙◌, subst, arith}
use Rattle.std.specs.Io.KnownBytes.{Consumes}
use Rattle.std.proofs.KnownBytes.{Consumes-trans}
use borrow.Rule.Slice.PartMut.{put_mid}
use Rattle.kr_edge.proofs.Lines.{mid_long, next_bytes}

-- a buffer of which the first bytes were taken from the source
pub record Drawn (before now : Option (List ℕ)) (into : List ℕ) (filled size faults count : ℕ)
    : Type 0 where
  pub within : filled ≤ length into
  pub same : length into ≡ size
  pub taken : Consumes before now (take filled into)
  pub later : faults ≤ count

-- and behind one read more
pub drawn_more : {a b : Option (List ℕ)} {into : List ℕ} {filled size faults count : ℕ}
    (c : Option (List ℕ)) (piece : List ℕ) (n after : ℕ) → Drawn a b into filled size faults count
    → Consumes b c (take n piece) → n ≤ length piece → length piece ≡ length into - filled
    → count ≤ after
    → Drawn a c (put_mid filled (length into - filled) into piece) (filled + n) size faults after
drawn_more {a} {b} {into} {filled} {size} c piece n after d p m long later =
    let next = next_bytes into piece filled (length into - filled) n d.within m in
    let whole = mid_long into piece filled d.within long in
    record {
      within = omega (arith, whole, long, m, d.within);
      same = whole ∙ d.same;
      taken = subst (Consumes a c) (sym next) (Consumes-trans a b c _ _ d.taken p);
      later = omega (arith, d.later, later);
    }
