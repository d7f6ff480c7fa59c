-- What the tactic leaves open of `hinted_next_class`.
use Rattle.std.specs.Option.{option_map}
use Rattle.kr_config.specs.Kept.{rows_of}
use Rattle.kr_config.specs.Nexts.{lent_class}
use Rattle.kr_config.proofs.ClassIndexes.{searchable, next_of_index}
use Rattle.kr_config.proofs.settings.Settings.hinted_next_class.Goals as goal

pub next_listed_class-requires : goal.next_listed_class-requires
next_listed_class-requires c =
    searchable (rows_of c.args.self.now.entries.0) c.classes.result.now c.classes.ensures

pub returns : goal.returns
returns c =
    next_of_index (rows_of c.args.self.now.entries.0) c.classes.result.now
    (option_map lent_class c.args.after) (option_map lent_class c.next_listed_class.result)
    c.classes.ensures c.next_listed_class.ensures
