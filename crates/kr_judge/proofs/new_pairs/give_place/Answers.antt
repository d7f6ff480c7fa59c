use Rattle.std.proofs.Common.{sym}
use Rattle.kr_judge.proofs.Groups.{grouped_moved}
use Rattle.kr_judge.proofs.new_pairs.give_place.Goals as goal

pub returns-in-Ok-clause-grouped : goal.returns-in-Ok-clause-grouped
returns-in-Ok-clause-grouped c = grouped_moved c.args.groups.now c.move_place.new.self c.args.pairs.now.items c.args.place c.index.result.now c.args.pair c.as_str-from.result.now c.as_str.result.now
    c.requires.grouped c.requires.place c.index.ensures c.as_str-from.ensures (sym c.as_str.ensures) c.in-Ok.ensures.ok
