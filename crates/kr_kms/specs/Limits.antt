-- The limits of what a plugin wraps.
use Rattle.kr_base.specs.Limits.{IsShort, AreFew}
use Rattle.kr_kms.specs.declared.plugin.Wrapped.{Wrapped}

pub record IsWithinLimits (wrapped : Wrapped) : Type 0 where
  pub key_id : IsShort wrapped.key_id
  pub source : IsShort wrapped.cipher
  pub annotations : AreFew wrapped.annotations
