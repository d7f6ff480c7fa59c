-- The members hold no float and don't nest deep, and what is written is read back.
use Rattle.std.proofs.Common.{◌≤◌, sym, ◌∙◌, ap, subst}
use Rattle.serde_json.specs.Data.{depth, object}
use Rattle.serde_json.specs.Read.{max_depth}
use Rattle.serde_json.specs.View.{members_view}
use Rattle.serde_json.specs.Written.{has_float}
use Rattle.kr_kms_wire.proofs.Lines.{no_float, request_depth}
use Rattle.kr_kms_wire.proofs.ReadBack.{request_reads_if}
use Rattle.kr_kms_wire.proofs.requests.request_line.Goals as goal

pub members_line-requires-clause-floats : goal.members_line-requires-clause-floats
members_line-requires-clause-floats c =
    ap (λ m. has_float (object m)) c.in_ok-members.ensures ∙ no_float c.args.request.now

pub members_line-requires-clause-nests : goal.members_line-requires-clause-nests
members_line-requires-clause-nests c =
    subst (λ m. depth (object m) ≤ max_depth) (sym c.in_ok-members.ensures)
    (request_depth c.args.request.now)

pub returns-clause-read : goal.returns-clause-read
returns-clause-read c = request_reads_if c.members_line.result c.args.request.now
    (members_view c.in_ok-members.members.entries) c.in_ok-members.ensures c.tell_bytes.ensures
    c.members_line.ensures.read
