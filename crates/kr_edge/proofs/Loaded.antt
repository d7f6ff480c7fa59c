-- A file that holds more than a limit, and one that was read whole, where the files are told.
use Rattle.std.proofs.Common.{◌≡◌, ℕ, ◌+◌, ◌<◌, List, ◌++◌, length, Option, None, Some, refl, ◌∙◌, ap, append-nil, length-append, arith}
use Rattle.std.specs.Io.KnownBytes.{Consumes, IsAtEnd}
use Rattle.kr_base.specs.Told.{Agrees}
use Rattle.kr_base.specs.Streams.{TakesCount}
use Rattle.kr_edge.specs.Opened.{ReaderHolds}

pub long_file : (file : Option (Option (List ℕ))) (old new : Option (List ℕ)) (limit : ℕ) → ReaderHolds file old → TakesCount old new (limit + 1) → (bytes : List ℕ) × (limit < length bytes) × Agrees file (Some bytes)
long_file None old new limit h t = (t.0, omega (arith, t.2), tt)
long_file (Some None) old new limit h t = absurd h
long_file (Some (Some all)) old new limit h t = (all, longer old new h t.1, refl)
  where
    longer : (old new : Option (List ℕ)) → old ≡ Some all → Consumes old new t.0 → limit < length all
    longer None new h c = absurd cc
    longer (Some x) None h c = absurd c
    longer (Some x) (Some y) h c = let e : all ≡ t.0 ++ y = cc in omega (arith, ap length e, length-append t.0 y, t.2)

-- what was read to the end is the file
pub whole_file : (file : Option (Option (List ℕ))) (old new : Option (List ℕ)) (bytes : List ℕ)
    → ReaderHolds file old → Consumes old new bytes → IsAtEnd new → Agrees file (Some bytes)
whole_file None old new bytes h c e = tt
whole_file (Some None) old new bytes h c e = absurd h
whole_file (Some (Some all)) old new bytes h c e = ap Some (same old new h c e)
  where
    same : (old new : Option (List ℕ)) → old ≡ Some all → Consumes old new bytes → IsAtEnd new
        → all ≡ bytes
    same None new h c e = absurd cc
    same (Some x) None h c e = absurd c
    same (Some x) (Some y) h c e = let is : all ≡ bytes ++ y = cc in
        is ∙ ap (λ l. bytes ++ l) e ∙ append-nil bytes
