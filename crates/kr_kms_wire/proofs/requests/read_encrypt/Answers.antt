-- A request to wrap is read part by part.
use Rattle.std.proofs.Common.{codes, rules, sym, ◌∙◌}
use Rattle.serde_json.specs.View.{view}
use Rattle.kr_kms_wire.specs.Members.{member_bytes}
use Rattle.kr_kms_wire.specs.Requests.{encrypt_in}
use Rattle.kr_kms_wire.proofs.Shapes.{stops, no_plain, no_uid, whole_encrypt}
use Rattle.kr_kms_wire.proofs.requests.read_encrypt.Goals as goal

pub returns-in_err-plain : goal.returns-in_err-plain
returns-in_err-plain c = let value = view c.args.value.now in
    let none = stops (member_bytes (codes "plaintext") value) (encrypt_in value)
    c.in_err-plain.field-0.0 c.in_err-plain.ensures (no_plain value) in
    search (rules, none)

pub returns-in-None : goal.returns-in-None
returns-in-None c = no_uid (view c.args.value.now) c.in_ok-plain.plain c.in_ok-plain.ensures
    (sym c.member_number.ensures ∙ c.in-None.is)

pub returns-in-Some : goal.returns-in-Some
returns-in-Some c = whole_encrypt (view c.args.value.now) c.in_ok-plain.plain c.in-Some.uid
    c.in_ok-plain.ensures (sym c.member_number.ensures ∙ c.in-Some.is)
