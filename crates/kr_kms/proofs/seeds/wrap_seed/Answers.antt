-- Nothing was asked, or one wrap was.
use Rattle.std.proofs.Common.{refl, rules}
use Rattle.kr_base.proofs.Walks.{talk_none, talk_one}
use Rattle.kr_kms.specs.inner.Wrapping.{no_name, not_wrapped, made}
use Rattle.kr_kms.proofs.seeds.wrap_seed.Goals as goal

pub returns-in_default-clause-asked : goal.returns-in_default-clause-asked
returns-in_default-clause-asked g c = talk_none _ _ _ (no_name refl)

pub returns-in-Err-clause-asked : goal.returns-in-Err-clause-asked
returns-in-Err-clause-asked g c = talk_one _ _ _ _ _ (search rules) (not_wrapped c.in-Err.why refl)

pub returns-in-Ok-wrap-clause-asked : goal.returns-in-Ok-wrap-clause-asked
returns-in-Ok-wrap-clause-asked g c = talk_one _ _ _ _ _ (search rules) (made c.in-Ok-wrap.wrapped (search rules))
