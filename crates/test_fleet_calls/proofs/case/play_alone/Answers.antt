-- `play_alone`: a new core has no lines, so its only caller holds nothing.
use Rattle.test_fleet_calls.proofs.Beginning.{no_other_lines, only_begin, some_seat}
use Rattle.test_fleet_calls.proofs.case.play_alone.Goals as goal

pub new-solo-requires-clause-own : goal.new-solo-requires-clause-own
new-solo-requires-clause-own g c = no_other_lines c.args.core c.args.budget c.requires.core

pub new-solo-requires-clause-seat : goal.new-solo-requires-clause-seat
new-solo-requires-clause-seat g c = some_seat c.args.core c.args.budget c.requires.core

pub new-desk-requires-clause-caller : goal.new-desk-requires-clause-caller
new-desk-requires-clause-caller g c = only_begin c.args.core c.args.budget c.new-solo.result
    c.requires.core c.new-solo.ensures
