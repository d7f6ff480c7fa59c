-- `started`: both configurations name the plugin `p` alone.
use Rattle.test_fleet_calls.proofs.Beginning.{two_among}
use Rattle.test_fleet_calls.proofs.opening.started.Goals as goal

pub start-requires-clause-names : goal.start-requires-clause-names
start-requires-clause-names c = two_among c.in-Ok.lists.1.0 c.in-Ok.lists.0.0
    c.args.first c.args.second c.in-Ok.ensures.1 c.in-Ok.ensures.0 c.requires.first
    c.requires.second
