-- A field is its key and its payload.
use Rattle.std.proofs.Common.{refl, arith, inl, inr}
use Rattle.kr_envelope.specs.inner.Taking.{payload_of}
use Rattle.kr_envelope.proofs.Fields.{no_key, bad_number, no_payload, with_payload}
use Rattle.kr_envelope.proofs.wire.take_field.Goals as goal

pub returns-in_default : goal.returns-in_default
returns-in_default c = no_key c.args.bytes.now c.in_default.ensures

pub returns-then-number-eq0 : goal.returns-then-number-eq0
returns-then-number-eq0 c = bad_number c.args.bytes.now c.in-Some.key c.in-Some.rest.now c.in-Some.ensures
    (λ h. elim c.then-number-eq0.either [ inl low ↦ omega arith | inr high ↦ omega arith ])

pub returns-in_default-take_payload : goal.returns-in_default-take_payload
returns-in_default-take_payload c = no_payload c.args.bytes.now c.in-Some.key c.in-Some.rest.now c.in-Some.ensures c.in_default-take_payload.ensures

pub returns : goal.returns
returns c = with_payload c.args.bytes.now c.in-Some.key c.in-Some.rest.now _ (payload_of c.in-Some-take_payload.payload) c.in-Some-take_payload.rest.now c.in-Some.ensures refl
    (omega (arith, c.if-number-eq0.false), c.if-number-gt-NUMBERS.false) c.in-Some-take_payload.ensures.0 c.in-Some-take_payload.ensures.1
