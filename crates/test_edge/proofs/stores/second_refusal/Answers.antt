-- The tape that goes back is the one that is out.
use Rattle.test_edge.proofs.Tapes.{is_out}
use Rattle.test_edge.proofs.stores.second_refusal.Goals as goal

pub back_tape-requires : goal.back_tape-requires
back_tape-requires g c = is_out c.in-Ok.ensures.ok
