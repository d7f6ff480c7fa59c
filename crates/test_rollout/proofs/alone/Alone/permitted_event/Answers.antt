-- `permitted_event`: the seat may ask for what its hand permits.
use Rattle.test_rollout.proofs.Hands.{caller_may}
use Rattle.test_rollout.proofs.alone.Alone.permitted_event.Goals as goal

pub returns : goal.returns
returns c = caller_may c.args.self.now c.self.inside.solo c.self.inside.hand c.permitted_event.result
    c.self.view_is c.known.ensures.seat_in c.self.invariant c.permitted_event.ensures
