-- `load_replicas`: so many are loaded, and all that was loaded is in.
use Rattle.kr_opening.specs.Replicas.{rows_in}
use Rattle.kr_cmd_messages.specs.Command.{replica_names}
use Rattle.kr_cmd_store.specs.inner.Judging.{AreIn}
use Rattle.kr_cmd_store.proofs.Loads.{IsLoading}
use Rattle.kr_cmd_store.proofs.replicas.load_replicas.Given as goal

abbrev pub invariant-loop-number : goal.invariant-loop-number
invariant-loop-number g l =
    IsLoading (replica_names l.options) l.number (rows_in l.replicas.0)
    (g.W.World.told l.initial.world) (g.W.World.told l.world)
    × AreIn l.number l.replicas.0
