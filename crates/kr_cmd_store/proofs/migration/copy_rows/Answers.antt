-- `copy_rows`: each turn copies the row of the next revision.
use Rattle.std.proofs.Common.{◌≡◌, ◌+◌, ◌-◌, subst, arith}
use Rattle.kr_config.specs.Kept.{rows_of}
use Rattle.kr_cmd_store.specs.inner.Migrating.{HasCopied}
use Rattle.kr_cmd_store.proofs.Copying.{copies_all, copies_more, copies_none, copies_not}
use Rattle.kr_cmd_store.proofs.migration.copy_rows.Goals as goal

pub loop-copied-init : goal.loop-copied-init
loop-copied-init g c = copies_none (rows_of c.args.settings.now.entries.0)
    c.args.source.now.rows c.args.target.now c.requires.empty

pub copy_row-requires-clause-copied : goal.copy_row-requires-clause-copied
copy_row-requires-clause-copied g c =
    let same : c.loop-copied.copied ≡ c.loop-copied.copied + 1 - 1 = omega arith in
    subst (λ n. HasCopied (rows_of c.args.settings.now.entries.0) c.args.source.now.rows n
    c.loop-copied.target) same c.loop-copied.invariant.copied

pub returns-in-Err : goal.returns-in-Err
returns-in-Err g c name a = copies_not (rows_of c.args.settings.now.entries.0)
    c.args.source.now.rows c.loop-copied.invariant c.copy_row.new.target
    (omega (arith, c.loop-copied-test.true, c.revision-copied-end.ensures)) c.in-Err.stop
    c.in-Err.ensures.does name a

pub loop-copied-preserved : goal.loop-copied-preserved
loop-copied-preserved g c = copies_more (rows_of c.args.settings.now.entries.0)
    c.args.source.now.rows c.loop-copied.invariant c.copy_row.new.target
    (omega (arith, c.loop-copied-test.true, c.revision-copied-end.ensures)) tt
    c.in-Ok.ensures.does c.in-Ok.ensures.copied

pub returns : goal.returns
returns g c name a = copies_all (rows_of c.args.settings.now.entries.0)
    c.args.source.now.rows c.loop-copied.invariant tt
    (omega (arith, c.loop-copied-test.false, c.revision-copied-end.ensures)) c.requires.empty name a
