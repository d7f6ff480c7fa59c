-- `copy_rows`: so many rows are copied.
use Rattle.kr_config.specs.Kept.{rows_of}
use Rattle.kr_cmd_store.proofs.Copying.{IsCopying}
use Rattle.kr_cmd_store.proofs.migration.copy_rows.Given as goal

abbrev pub invariant-loop-copied : goal.invariant-loop-copied
invariant-loop-copied g l = IsCopying (rows_of l.settings.entries.0) l.source.rows l.copied
    l.initial.target l.target
