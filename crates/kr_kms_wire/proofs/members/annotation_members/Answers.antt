-- The pair at hand goes behind the others.
use Rattle.std.proofs.Common.{sym, subst}
use Rattle.serde_json.specs.View.{members_view}
use Rattle.kr_base.specs.Pairs.{IsSortedByKey}
use Rattle.kr_kms_wire.proofs.Lines.{member_more}
use Rattle.kr_kms_wire.proofs.members.annotation_members.Goals as goal

pub loop-key-preserved : goal.loop-key-preserved
loop-key-preserved c =
    let pairs = c.pairs-key-items.result.now in
    member_more pairs c.loop-key.key-index c.loop-key-item.result c.as_str.result.now
    c.as_slice.result.now (members_view c.loop-key.members.entries)
    (members_view c.put_bytes.new.members.entries)
    (subst IsSortedByKey (sym c.pairs-key-items.ensures.pairs) c.pairs-key-items.ensures.sorted)
    c.loop-key-test.true c.loop-key-item.is c.as_str.ensures c.as_slice.ensures
    c.loop-key.invariant c.in_ok-put_bytes.ensures
