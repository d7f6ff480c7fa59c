-- A status is read part by part.
use Rattle.std.proofs.Common.{codes, rules}
use Rattle.serde_json.specs.View.{view}
use Rattle.kr_kms_wire.specs.Members.{member_text}
use Rattle.kr_kms_wire.specs.Replies.{status_in}
use Rattle.kr_kms_wire.proofs.Shapes.{stops, no_version, no_healthz, no_key_id, whole_status}
use Rattle.kr_kms_wire.proofs.replies.read_status.Goals as goal

pub returns-in_err-version : goal.returns-in_err-version
returns-in_err-version c = let value = view c.args.value.now in
    let stop = stops (member_text (codes "version") value) (status_in value) c.in_err-version.field-0.0 c.in_err-version.ensures
    (no_version value) in search (rules, stop)

pub returns-in_err-healthz : goal.returns-in_err-healthz
returns-in_err-healthz c = let value = view c.args.value.now in
    let stop = stops (member_text (codes "healthz") value) (status_in value) c.in_err-healthz.field-0.0
    c.in_err-healthz.ensures (no_healthz value c.in_ok-version.version c.in_ok-version.ensures) in search (rules, stop)

pub returns-in_err-key_id : goal.returns-in_err-key_id
returns-in_err-key_id c = let value = view c.args.value.now in
    let stop = stops (member_text (codes "key_id") value) (status_in value) c.in_err-key_id.field-0.0
    c.in_err-key_id.ensures
    (no_key_id value c.in_ok-version.version c.in_ok-healthz.healthz c.in_ok-version.ensures
    c.in_ok-healthz.ensures) in search (rules, stop)

pub returns : goal.returns
returns c = whole_status (view c.args.value.now) c.in_ok-version.version c.in_ok-healthz.healthz
    c.in_ok-key_id.key_id c.in_ok-version.ensures c.in_ok-healthz.ensures
    c.in_ok-key_id.ensures
