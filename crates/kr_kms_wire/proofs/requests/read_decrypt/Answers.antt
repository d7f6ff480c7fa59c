-- A request to unwrap is read part by part.
use Rattle.std.proofs.Common.{codes, option_and_then, sym, ◌∙◌, rules}
use Rattle.serde_json.specs.Find.{get}
use Rattle.serde_json.specs.View.{view}
use Rattle.kr_kms_wire.specs.Members.{member_text, member_bytes, annotation_pairs}
use Rattle.kr_kms_wire.specs.Requests.{decrypt_in}
use Rattle.kr_kms_wire.proofs.Shapes.{stops, no_source, no_source_key, no_pairs, no_source_uid, whole_decrypt}
use Rattle.kr_kms_wire.proofs.requests.read_decrypt.Goals as goal

pub returns-in_err-source : goal.returns-in_err-source
returns-in_err-source c = let value = view c.args.value.now in
    let stop = stops (member_bytes (codes "ciphertext") value) (decrypt_in value) c.in_err-source.field-0.0 c.in_err-source.ensures
    (no_source value) in search (rules, stop)

pub returns-in_err-key_id : goal.returns-in_err-key_id
returns-in_err-key_id c = let value = view c.args.value.now in
    let stop = stops (member_text (codes "key_id") value) (decrypt_in value) c.in_err-key_id.field-0.0
    c.in_err-key_id.ensures (no_source_key value c.in_ok-source.source c.in_ok-source.ensures) in search (rules, stop)

pub returns-in_err-annotations : goal.returns-in_err-annotations
returns-in_err-annotations c = let value = view c.args.value.now in
    let stop = stops (option_and_then annotation_pairs (get (codes "annotations") value)) (decrypt_in value)
    c.in_err-annotations.field-0.0 c.in_err-annotations.ensures
    (no_pairs value c.in_ok-source.source c.in_ok-key_id.key_id c.in_ok-source.ensures
    c.in_ok-key_id.ensures) in search (rules, stop)

pub returns-in-None : goal.returns-in-None
returns-in-None c = no_source_uid (view c.args.value.now) c.in_ok-source.source
    c.in_ok-key_id.key_id c.in_ok-annotations.annotations c.in_ok-source.ensures
    c.in_ok-key_id.ensures c.in_ok-annotations.ensures (sym c.member_number.ensures ∙ c.in-None.is)

pub returns-in-Some : goal.returns-in-Some
returns-in-Some c = whole_decrypt (view c.args.value.now) c.in_ok-source.source
    c.in_ok-key_id.key_id c.in_ok-annotations.annotations c.in-Some.uid c.in_ok-source.ensures
    c.in_ok-key_id.ensures c.in_ok-annotations.ensures (sym c.member_number.ensures ∙ c.in-Some.is)
