-- The pairs that are still to come go on from those that were found.
use Rattle.std.proofs.Common.{◌≡◌, []}
use Rattle.serde_json.specs.View.{members_view}
use Rattle.kr_kms_wire.specs.Members.{pairs_with}
use Rattle.kr_kms_wire.proofs.members.read_pairs.Given as goal

abbrev pub invariant-loop-key : goal.invariant-loop-key
invariant-loop-key l =
    pairs_with l.found (members_view l.key-iterator)
    ≡ pairs_with [] (members_view l.members.entries)
