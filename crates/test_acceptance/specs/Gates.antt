-- A link that counts its own faults, over another one.
use Rattle.std.specs.Prelude.{ℕ}
use Rattle.kr_kms.specs.Calls.{Link}

-- the link with this count of faults
abbrev pub counting : Link → ℕ → Link
counting inner count = record {
  name = inner.name;
  count = count;
  status = inner.status;
}
