-- What the tactic leaves open of `hinted_list`.
use Rattle.kr_config.specs.Kept.{rows_of}
use Rattle.kr_config.proofs.ClassIndexes.{searchable}
use Rattle.kr_config.proofs.settings.Settings.hinted_list.Goals as goal

pub entry_place-requires : goal.entry_place-requires
entry_place-requires c =
    searchable (rows_of c.args.self.now.entries.0) c.classes.result.now c.classes.ensures
