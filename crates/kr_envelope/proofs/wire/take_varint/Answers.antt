-- A varint ends with its first byte below 128.
use Rattle.std.proofs.Common.{◌≡◌, ap, sym, ◌∙◌, arith}
use Rattle.kr_envelope.specs.Wire.{number}
use Rattle.kr_envelope.proofs.Varints.{varint_end, varint_groups, varint_found}
use Rattle.kr_envelope.proofs.wire.take_varint.Goals as goal

pub returns-in_default : goal.returns-in_default
returns-in_default c n rest s = let found = varint_end c.args.bytes.now n rest s in let none = c.in_default.ensures in cc

pub returns-then-last-ge10 : goal.returns-then-last-ge10
returns-then-last-ge10 c n rest s =
    let groups = varint_groups c.args.bytes.now n rest c.in-Some.last s (sym c.in-Some.ensures) in
    omega (arith, groups.0, s.1.short, c.if-last-ge10.true)

pub returns-in_default-groups_value : goal.returns-in_default-groups_value
returns-in_default-groups_value c n rest s =
    let groups = varint_groups c.args.bytes.now n rest c.in-Some.last s (sym c.in-Some.ensures) in
    let same : n ≡ number c.split_at.result.0.now = s.1.value ∙ ap number (groups.1 ∙ sym c.split_at.ensures.front) in
    omega (arith, same, s.1.fits, c.in_default-groups_value.ensures)

pub returns : goal.returns
returns c = varint_found c.args.bytes.now c.split_at.result.0.now c.split_at.result.1.now c.in-Some.last c.in-Some-groups_value.value (sym c.in-Some.ensures) c.if-last-ge10.false
    c.split_at.ensures.front c.split_at.ensures.back c.in-Some-groups_value.ensures.0 c.in-Some-groups_value.ensures.1
