-- What the tactic leaves open of `classes`.
use Rattle.std.proofs.Common.{sym, subst}
use Rattle.kr_config.specs.Kept.{rows_of}
use Rattle.kr_config.specs.inner.ClassIndexes.{IsIndexOf}
use Rattle.kr_config.proofs.ClassChecks.{indexed}
use Rattle.kr_config.proofs.settings.Settings.classes.Goals as goal

pub returns : goal.returns
returns c =
    subst (IsIndexOf (rows_of c.args.self.now.entries.0)) (sym c.as_slice.ensures)
    (indexed (rows_of c.args.self.now.entries.0) c.args.self.now.index.0
    c.args.self.now.told_apart c.args.self.now.listed)
