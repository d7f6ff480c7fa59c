-- Why no seed was drawn is why none was made.
use Rattle.std.proofs.Common.{ℕ, List, Option, None, Err, inl}
use Rattle.kr_kms.specs.Calls.{Link}
use Rattle.kr_kms.specs.Health.{HasBreach}
use Rattle.kr_kms.specs.Seeds.{MakesSeed}
use Rattle.kr_kms.specs.declared.health.SeedNo.{SeedNo}
use Rattle.kr_kms.specs.declared.health.SeedNo.TheVariants.{DiceFailed, NoMemory}
use Rattle.kr_kms.specs.inner.Wrapping.{IsDrawn}

pub not_drawn : {D : Type 0} (left : D → Option (List ℕ)) (count : D → ℕ)
    (old new : Link) (dice after : D) (why : SeedNo) → HasBreach old None
    → IsDrawn left count dice (Err why) after → MakesSeed left count old dice (Err why) new after
not_drawn left count old new dice after DiceFailed well none = (well, none.0, none.1, none.2)
not_drawn left count old new dice after NoMemory well same = inl same
not_drawn left count old new dice after other well none = absurd none
