-- A payload is taken by its wire type.
use Rattle.std.proofs.Common.{sym}
use Rattle.kr_envelope.proofs.Fields.{no_varint, no_size, too_long, with_bytes}
use Rattle.kr_envelope.proofs.wire.take_payload.Goals as goal

pub returns-in_default-take_varint : goal.returns-in_default-take_varint
returns-in_default-take_varint c = no_varint c.args.bytes.now c.args.kind (sym c.in-0.is) c.in_default-take_varint.ensures

pub returns-in_default-take_varint-2 : goal.returns-in_default-take_varint-2
returns-in_default-take_varint-2 c = no_size c.args.bytes.now c.args.kind (sym c.in-2.is) c.in_default-take_varint-2.ensures

pub returns-then-length-rest : goal.returns-then-length-rest
returns-then-length-rest c = too_long c.args.bytes.now c.args.kind c.in-Some-take_varint.length c.in-Some-take_varint.rest.now (sym c.in-2.is) c.in-Some-take_varint.ensures c.if-length-rest.true

pub returns-else-length-rest : goal.returns-else-length-rest
returns-else-length-rest c = (
  (sym c.in-2.is),
  with_bytes c.args.bytes.now c.in-Some-take_varint.length c.in-Some-take_varint.rest.now c.split_at-in-2.result.0.now c.split_at-in-2.result.1.now c.in-Some-take_varint.ensures c.if-length-rest.false
      c.split_at-in-2.ensures.front c.split_at-in-2.ensures.back,
)
