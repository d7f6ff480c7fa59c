-- `bare`: identity reads what has no mark.
use Rattle.std.proofs.Common.{true, false, refl, sym, ap}
use Rattle.std.specs.Prelude.{not}
use Rattle.kr_provider.proofs.Marked.{marked}
use Rattle.kr_provider.proofs.readers.bare.Goals as goal

pub returns-then-starts_with : goal.returns-then-starts_with
returns-then-starts_with c =
    ap not (sym (marked true c.args.bytes.now c.if-starts_with.ensures.value))

pub returns-else-starts_with : goal.returns-else-starts_with
returns-else-starts_with c =
    (ap not (sym (marked false c.args.bytes.now c.if-starts_with.ensures.value)), refl)
