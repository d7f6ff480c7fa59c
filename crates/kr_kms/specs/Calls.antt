-- What the calls of a link answer.
use Rattle.std.specs.Prelude.{◌≡◌, ℕ, ◌≤◌, List, Option, Result, IfOk, IsErrOf}
use Rattle.kr_base.specs.Faults.{Rose}
use Rattle.kr_base.specs.Told.{Agrees}
use Rattle.kr_base.specs.Pairs.{Pairs}
use Rattle.kr_kms.specs.Limits.{IsWithinLimits}
use Rattle.kr_kms.specs.declared.plugin.Status.{Status}
use Rattle.kr_kms.specs.declared.plugin.Wrapped.{Wrapped}
use Rattle.kr_kms.specs.declared.plugin.KmsNo.{KmsNo}
use Rattle.kr_kms.specs.declared.plugin.KmsNo.TheVariants.{Failed}
use Rattle.kr_kms.specs.declared.seeds.SeedKey.{SeedKey}

-- a link: its plugin's name, its count of faults, and the status that it tells, if it tells one
pub record Link : Type 0 where
  pub name : List ℕ
  pub count : ℕ
  pub status : Option Status

-- the same link after some calls: the name and the told status stay, the count never falls
pub record IsSameLink (old new : Link) : Type 0 where
  pub name : new.name ≡ old.name
  pub status : new.status ≡ old.status
  pub later : old.count ≤ new.count

-- the link is the same after a call, and the count rose where the call failed
pub record AsksLink {T : Type 0} (old : Link) (result : Result T KmsNo) (new : Link) : Type 0 where
  pub same : IsSameLink old new
  pub failed : IsErrOf result Failed → Rose old.count new.count

-- the status is the told one
abbrev pub Says : Link → Result Status KmsNo → Link → Type 0
Says old result new = AsksLink old result new × IfOk result (λ status. Agrees old.status status)

-- what names the seed that was wrapped
abbrev pub key_in : List ℕ → Wrapped → SeedKey
key_in name wrapped = record {
  name = name;
  key_id = wrapped.key_id;
  annotations = wrapped.annotations;
  source = wrapped.cipher;
}

-- what was wrapped is within the limits
abbrev pub Wraps : Link → Result Wrapped KmsNo → Link → Type 0
Wraps old result new = AsksLink old result new × IfOk result IsWithinLimits

-- what names the seed that is asked for
abbrev pub asked_key : List ℕ → List ℕ → Pairs → List ℕ → SeedKey
asked_key name key_id annotations source = record {
  name = name;
  key_id = key_id;
  annotations = annotations;
  source = source;
}
