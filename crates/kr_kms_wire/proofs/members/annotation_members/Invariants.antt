-- There is a member for each pair so far.
use Rattle.std.proofs.Common.{◌≡◌, take}
use Rattle.serde_json.specs.View.{members_view}
use Rattle.kr_kms_wire.specs.Members.{pair_members}
use Rattle.kr_kms_wire.proofs.members.annotation_members.Given as goal

abbrev pub invariant-loop-key : goal.invariant-loop-key
invariant-loop-key l =
    members_view l.members.entries ≡ pair_members (take l.key-index l.key-items)
