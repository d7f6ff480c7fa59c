-- What the tactic leaves open of `class_place`.
use Rattle.kr_config.proofs.ClassTables.{law_of_classes}
use Rattle.kr_config.proofs.class_table.ClassTable.class_place.Goals as goal

pub returns-in-Some-clause-law : goal.returns-in-Some-clause-law
returns-in-Some-clause-law c =
    λ added table rows there. law_of_classes added c.args.self.now rows c.args.resource.now table
    there

pub returns-in-Some-group_place-clause-law : goal.returns-in-Some-group_place-clause-law
returns-in-Some-group_place-clause-law c =
    λ added table rows there. law_of_classes added c.args.self.now rows c.args.resource.now table
    there

pub returns-clause-law : goal.returns-clause-law
returns-clause-law c = λ added table rows there.
    law_of_classes added c.args.self.now rows c.args.resource.now table there
