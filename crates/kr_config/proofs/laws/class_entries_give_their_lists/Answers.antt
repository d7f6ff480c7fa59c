-- What the tactic leaves open of `class_entries_give_their_lists`.
use Rattle.kr_config.proofs.ClassEntries.{each_class_its_entry, entries_narrow}
use Rattle.kr_config.proofs.laws.class_entries_give_their_lists.Goals as goal

pub returns-clause-each : goal.returns-clause-each
returns-clause-each c = each_class_its_entry

pub returns-clause-narrow : goal.returns-clause-narrow
returns-clause-narrow c = entries_narrow
