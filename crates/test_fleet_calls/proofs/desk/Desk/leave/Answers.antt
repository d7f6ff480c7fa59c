-- `leave`: what is kept holds behind it.
use Rattle.test_fleet_calls.proofs.Calling.{acted_alone}
use Rattle.test_fleet_calls.proofs.desk.Desk.leave.Goals as goal

pub invariant_of-self : goal.invariant_of-self
invariant_of-self g c = acted_alone c.self.invariant c.leave-done.ensures.adds
    c.leave-done.ensures.idle
