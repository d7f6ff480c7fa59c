-- A call on a link that counts its own faults.
use Rattle.std.specs.Prelude.{◌≡◌, ℕ, ◌≤◌, Result, IsErrOf}
use Rattle.kr_base.specs.Faults.{Rose, counted}
use Rattle.kr_kms.specs.Calls.{AsksLink, IsSameLink, Link}
use Rattle.kr_kms.specs.Exchanges.{Exchange, KeepsLink, asked_name, is_fault}
use Rattle.kr_kms.specs.declared.plugin.KmsNo.{KmsNo}
use Rattle.kr_kms.specs.declared.plugin.KmsNo.TheVariants.{Failed}
use Rattle.test_acceptance.specs.Gates.{counting}

module _ (old new : Link) (count after : ℕ) (same : IsSameLink old new) where
  pub asks : {T : Type 0} (answer : Result T KmsNo) → count ≤ after
      → (IsErrOf answer Failed → Rose count after)
      → AsksLink (counting old count) answer (counting new after)
  asks answer later failed = record {
    same = record { name = same.name; status = same.status; later = later };
    failed = failed;
  }

  pub keeps : (exchange : Exchange) → asked_name exchange ≡ old.name
      → after ≡ counted (is_fault exchange) count
      → KeepsLink (counting old count) exchange (counting new after)
  keeps exchange own counts = record {
    own = own;
    named = same.name;
    tells = same.status;
    counts = counts;
  }
