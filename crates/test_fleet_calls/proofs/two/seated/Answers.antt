-- `seated`: each new seat is ready.
use Rattle.std.proofs.Common.{ap}
use Rattle.kr_turn.specs.declared.view.Terms.{Terms}
use Rattle.kr_rollout.specs.declared.opening.Opening.{Opening}
use Rattle.test_fleet_calls.proofs.Beginning.{all_begin, two_begin}
use Rattle.test_fleet_calls.proofs.two.seated.Goals as goal

pub returns-in-Ok-clause-first : goal.returns-in-Ok-clause-first
returns-in-Ok-clause-first c = (two_begin c.in-Ok.made.0 c.args.budget c.in-Ok.made.1.0
    c.two_seats.result (all_begin c.in-Ok.made.0 c.args.core c.args.budget c.in-Ok.made.1.0
    c.requires (ap (λ (t : Terms Opening). t.basis) c.in-Ok.ensures.terms) c.in-Ok.ensures.seats
    c.in-Ok.ensures.fresh.each) c.two_seats.ensures).0

pub returns-in-Ok-clause-second : goal.returns-in-Ok-clause-second
returns-in-Ok-clause-second c = (two_begin c.in-Ok.made.0 c.args.budget c.in-Ok.made.1.0
    c.two_seats.result (all_begin c.in-Ok.made.0 c.args.core c.args.budget c.in-Ok.made.1.0
    c.requires (ap (λ (t : Terms Opening). t.basis) c.in-Ok.ensures.terms) c.in-Ok.ensures.seats
    c.in-Ok.ensures.fresh.each) c.two_seats.ensures).1
