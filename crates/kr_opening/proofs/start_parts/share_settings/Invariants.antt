use Rattle.kr_opening.proofs.Sharing.{AreShared}
use Rattle.kr_opening.proofs.start_parts.share_settings.Given as goal

abbrev pub invariant-loop-replica : goal.invariant-loop-replica
invariant-loop-replica l = AreShared l.replicas l.settings.items l.replica-index
