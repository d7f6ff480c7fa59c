-- What was looked at isn't the salt.
use Rattle.std.proofs.Common.{◌≡◌, drop}
use Rattle.kr_kms.specs.Table.{annotated_salt}
use Rattle.kr_kms.proofs.table_plugin.annotated_salt.Given as goal

abbrev pub invariant-loop-pair : goal.invariant-loop-pair
invariant-loop-pair l = annotated_salt l.annotations ≡ annotated_salt (drop l.pair-index l.pair-items)
