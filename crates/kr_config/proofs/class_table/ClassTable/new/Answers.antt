-- What the tactic leaves open of `new`.
use Rattle.std.proofs.Common.{◌≡◌, sym, subst, []}
use Rattle.kr_config.specs.Classes.{IsTableOf}
use Rattle.kr_config.specs.inner.ClassTables.{or_rest}
use Rattle.kr_config.proofs.ClassTables.{table_new}
use Rattle.kr_config.proofs.class_table.ClassTable.new.Goals as goal

pub returns : goal.returns
returns c = let empty : c.new-classes.result.items ≡ [] = c.new-classes.ensures.items in
    subst (λ l. IsTableOf [] (or_rest l)) (sym empty) table_new
