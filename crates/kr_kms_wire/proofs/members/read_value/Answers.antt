-- A line's value, or that it has none.
use Rattle.std.proofs.Common.{◌≡◌, Some, subst}
use Rattle.std.specs.Prelude.{None}
use Rattle.std.specs.Str.{IsUtf8}
use Rattle.serde_json.specs.Read.{read}
use Rattle.serde_json.specs.View.{view}
use Rattle.kr_kms_wire.proofs.Shapes.{value_is, no_value}
use Rattle.kr_kms_wire.proofs.members.read_value.Goals as goal

pub returns-in-Ok : goal.returns-in-Ok
returns-in-Ok c = value_is c.args.line.now (Some (view c.in-Ok.value))
    (subst IsUtf8 c.strip_end.ensures c.in-Ok.ensures.ok.0)
    (subst (λ l. read l ≡ Some (view c.in-Ok.value)) c.strip_end.ensures c.in-Ok.ensures.ok.1)

pub returns-in_default : goal.returns-in_default
returns-in_default c = no_value c.args.line.now
    (subst (λ l. IsUtf8 l → read l ≡ None) c.strip_end.ensures
    (c.in-Err.ensures.err (λ m. c.in_default.not-Memory (c.classify.ensures.memory.1 m))))
