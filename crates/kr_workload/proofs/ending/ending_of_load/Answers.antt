-- `ending_of_load`: by the gravest reply.
use Rattle.std.proofs.Common.{refl, sym, ◌∙◌}
use Rattle.kr_workers.specs.declared.ending.Ending.TheVariants as ending
use Rattle.kr_workload.proofs.Endings.{other_ends, refused_ends}
use Rattle.kr_workload.proofs.ending.ending_of_load.Goals as goal

pub returns-in-Refused : goal.returns-in-Refused
returns-in-Refused c = c.ending_of_refusals.ensures
    ∙ refused_ends c.args.replies.now (sym c.gravest_ending.ensures ∙ c.in-Refused.is)

pub returns-in-Done : goal.returns-in-Done
returns-in-Done c = other_ends c.args.replies.now ending.Done
    (sym c.gravest_ending.ensures ∙ c.in-Done.is) refl

pub returns-in-Unhealthy : goal.returns-in-Unhealthy
returns-in-Unhealthy c = other_ends c.args.replies.now ending.Unhealthy
    (sym c.gravest_ending.ensures ∙ c.in-Unhealthy.is) refl

pub returns-in-Full : goal.returns-in-Full
returns-in-Full c = other_ends c.args.replies.now ending.Full
    (sym c.gravest_ending.ensures ∙ c.in-Full.is) refl

pub returns-in-Memory : goal.returns-in-Memory
returns-in-Memory c = other_ends c.args.replies.now ending.Memory
    (sym c.gravest_ending.ensures ∙ c.in-Memory.is) refl

pub returns-in-Fault : goal.returns-in-Fault
returns-in-Fault c = other_ends c.args.replies.now ending.Fault
    (sym c.gravest_ending.ensures ∙ c.in-Fault.is) refl
