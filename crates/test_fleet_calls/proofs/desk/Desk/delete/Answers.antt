-- `delete`: the call may be made, and what is kept holds behind it.
use Rattle.test_fleet_calls.proofs.Calling.{acted_alone}
use Rattle.test_fleet_calls.proofs.desk.Desk.delete.Goals as goal

pub delete-done-requires-clause-idle : goal.delete-done-requires-clause-idle
delete-done-requires-clause-idle g c = c.self.invariant.0.idle c.if-self.false

pub invariant_of-self : goal.invariant_of-self
invariant_of-self g c = acted_alone c.self.invariant c.delete-done.ensures.adds
    c.delete-done.ensures.idle
