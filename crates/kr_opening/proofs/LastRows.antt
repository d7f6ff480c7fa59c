-- Where the last row of a path stands.
use Rattle.std.proofs.Common.{◌≡◌, ℕ, ◌+◌, ◌-◌, true, List, Some, arith}
use Rattle.std.specs.List.{slice_get}
use Rattle.std.specs.Str.{bytes_eq}
use Rattle.std.proofs.lemmas.Slice.Eq.{bytes_eq-Decides}
use Rattle.kr_store.specs.declared.rows.LogRow.{LogRow}
use Rattle.kr_store.specs.Rows.{latest_from}
use Rattle.kr_store.proofs.Places.{found_in}

-- where the last row of a path stands
pub record IsLastAt (k : ℕ) (rows : List LogRow) (path : List ℕ) (found : ℕ × LogRow) : Type 0 where
  pub place : ℕ
  pub number : found.0 ≡ k + place
  pub is : slice_get rows place ≡ Some found.1
  pub same : bytes_eq found.1.path path ≡ true

pub last_at : (k : ℕ) (rows : List LogRow) (path : List ℕ) (found : ℕ × LogRow)
    → latest_from k rows path ≡ Some found → IsLastAt k rows path found
last_at k rows path found e = let s = found_in k rows path found e in
    record {
      place = found.0 - k;
      number = omega (arith, s.first);
      is = s.item;
      same = (bytes_eq-Decides found.1.path path).1 s.path_is;
    }
