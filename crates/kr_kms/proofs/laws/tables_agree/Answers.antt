-- A call on a table.
use Rattle.kr_kms.proofs.Opening.{table_agrees}
use Rattle.kr_kms.proofs.laws.tables_agree.Goals as goal

pub returns : goal.returns
returns c = table_agrees
