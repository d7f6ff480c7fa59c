-- What the tactic leaves open of `class_places`.
use Rattle.std.proofs.Common.{ap, ◌∙◌}
use Rattle.kr_config.specs.Kept.{rows_of}
use Rattle.kr_config.specs.Lists.{class_list}
use Rattle.kr_config.proofs.ClassIndexes.{places_more}
use Rattle.kr_config.proofs.class_index.class_places.Goals as goal

pub loop-class-preserved : goal.loop-class-preserved
loop-class-preserved c =
    let rows = rows_of c.args.entries.now in
    places_more rows c.args.classes.now c.loop-class.class-index c.class-item.result
    c.in_ok-class.class c.loop-class.index.items c.push.new.self.items c.first_entry-entry.result
    c.loop-class.invariant c.loop-class-test.true c.class-item.is c.in_ok-class.ensures
    (c.first_entry-entry.ensures ∙ ap (class_list rows) c.borrowed.ensures)
    c.in_ok-push.ensures.items
