-- A wrap is read part by part.
use Rattle.std.proofs.Common.{codes, rules}
use Rattle.serde_json.specs.View.{view}
use Rattle.kr_kms_wire.specs.Members.{member_text, member_bytes}
use Rattle.kr_kms_wire.specs.Replies.{annotations_in, wrapped_in}
use Rattle.kr_kms_wire.proofs.Shapes.{stops, no_wrap_key_id, no_annotations, no_cipher, whole_wrap}
use Rattle.kr_kms_wire.proofs.replies.read_wrapped.Goals as goal

pub returns-in_err-key_id : goal.returns-in_err-key_id
returns-in_err-key_id c = let value = view c.args.value.now in
    let stop = stops (member_text (codes "key_id") value) (wrapped_in value)
    c.in_err-key_id.field-0.0 c.in_err-key_id.ensures (no_wrap_key_id value) in search (rules, stop)

pub returns-in_err-annotations : goal.returns-in_err-annotations
returns-in_err-annotations c = let value = view c.args.value.now in
    let stop = stops (annotations_in value) (wrapped_in value) c.in_err-annotations.field-0.0
    c.in_err-annotations.ensures (no_annotations value c.in_ok-key_id.key_id c.in_ok-key_id.ensures) in search (rules, stop)

pub returns-in_err-cipher : goal.returns-in_err-cipher
returns-in_err-cipher c = let value = view c.args.value.now in
    let stop = stops (member_bytes (codes "ciphertext") value) (wrapped_in value) c.in_err-cipher.field-0.0
    c.in_err-cipher.ensures
    (no_cipher value c.in_ok-key_id.key_id c.in_ok-annotations.annotations c.in_ok-key_id.ensures
    c.in_ok-annotations.ensures) in search (rules, stop)

pub returns : goal.returns
returns c = whole_wrap (view c.args.value.now) c.in_ok-key_id.key_id c.in_ok-annotations.annotations
    c.in_ok-cipher.cipher c.in_ok-key_id.ensures c.in_ok-annotations.ensures
    c.in_ok-cipher.ensures
