-- What calls take from the front of bytes.
use Rattle.std.specs.Prelude.{◌≡◌, ℕ, List, Option, None, Some}
use denote.Ref.{Bor}
use Rattle.kr_envelope.specs.declared.wire.Payload.{Payload}
use Rattle.kr_envelope.specs.declared.wire.Payload.TheVariants as taken
use Rattle.kr_envelope.specs.declared.wire.WireField.{WireField}
use Rattle.kr_envelope.specs.Wire as wire
use Rattle.kr_envelope.specs.Wire.{BeginsSpelled, IsVarint, IsPayload, IsField, wire_type}

-- what the lent parts hold
abbrev pub payload_of : Payload → wire.Payload
payload_of (taken.Varint n) = wire.varint n
payload_of (taken.Fixed64 content) = wire.fixed64 content.now
payload_of (taken.Bytes content) = wire.bytes content.now
payload_of (taken.Fixed32 content) = wire.fixed32 content.now

abbrev pub field_of : WireField → wire.WireField
field_of field = record { number = field.number; payload = payload_of field.payload }

-- a value at the front and the rest, or none exactly where none stands there
abbrev pub TakesVarint : List ℕ → Option (ℕ × Bor (List ℕ)) → Type 0
TakesVarint bytes None = (n : ℕ) (rest : List ℕ) → BeginsSpelled IsVarint bytes n rest → ⊥
TakesVarint bytes (Some taken) = BeginsSpelled IsVarint bytes taken.0 taken.1.now

abbrev pub TakesPayload : ℕ → List ℕ → Option (Payload × Bor (List ℕ)) → Type 0
TakesPayload kind bytes None =
    (payload : wire.Payload) (rest : List ℕ)
    → wire_type payload ≡ kind → BeginsSpelled IsPayload bytes payload rest → ⊥
TakesPayload kind bytes (Some taken) =
    (wire_type (payload_of taken.0) ≡ kind)
    × BeginsSpelled IsPayload bytes (payload_of taken.0) taken.1.now

abbrev pub TakesField : List ℕ → Option (WireField × Bor (List ℕ)) → Type 0
TakesField bytes None = (field : wire.WireField) (rest : List ℕ)
    → BeginsSpelled IsField bytes field rest → ⊥
TakesField bytes (Some taken) = BeginsSpelled IsField bytes (field_of taken.0) taken.1.now
