-- `copy_row`: a put or a delete, as it is lent.
use Rattle.std.proofs.Common.{Some, refl, subst}
use Rattle.kr_config.specs.Kept.{rows_of}
use Rattle.kr_store.specs.Rows.{delete_of}
use Rattle.kr_store.specs.Stores.{IsLent, LendsRow}
use Rattle.kr_cmd_store.specs.inner.Migrating.{migrated_put}
use Rattle.kr_cmd_steps.specs.inner.Tapes.{stored_of}
use Rattle.kr_cmd_store.proofs.Copying.{as_line, live_before, more_copied, no_row}
use Rattle.kr_cmd_store.proofs.MigratedRows.{delete_lent, put_found, put_lent}
use Rattle.kr_cmd_store.proofs.migration.copy_row.Goals as goal

pub copy_put-requires-clause-path : goal.copy_put-requires-clause-path
copy_put-requires-clause-path g c =
    (subst (IsLent c.args.source.now.format) c.in-Some-Put.field-0-is c.in-Some-Put.ensures.rules).0

pub copy_put-requires-clause-resource : goal.copy_put-requires-clause-resource
copy_put-requires-clause-resource g c =
    (subst (IsLent c.args.source.now.format) c.in-Some-Put.field-0-is
    c.in-Some-Put.ensures.rules).1.0

pub copy_put-requires-clause-stored : goal.copy_put-requires-clause-stored
copy_put-requires-clause-stored g c =
    (subst (IsLent c.args.source.now.format) c.in-Some-Put.field-0-is
    c.in-Some-Put.ensures.rules).1.1

pub returns-in-Some-Put-clause-does : goal.returns-in-Some-Put-clause-does
returns-in-Some-Put-clause-does g c row is name a =
    as_line name (stored_of c.args.target.now) c.copy_put.result
    (put_lent (rows_of c.args.settings.now.entries.0) c.args.source.now.rows
    c.args.revision c.in-Some-Put.row.now row
    (subst (λ r. LendsRow c.args.source.now.rows c.args.revision (Some r))
    c.in-Some-Put.field-0-is c.in-Some-Put.ensures.row) is)
    (c.copy_put.ensures.does name a)

pub returns-in-Some-Put-clause-copied : goal.returns-in-Some-Put-clause-copied
returns-in-Some-Put-clause-copied g c =
    let config = rows_of c.args.settings.now.entries.0 in
    let found = put_found config c.args.source.now.rows c.args.revision c.in-Some-Put.row.now
    (subst (λ r. LendsRow c.args.source.now.rows c.args.revision (Some r))
    c.in-Some-Put.field-0-is c.in-Some-Put.ensures.row) in
    more_copied config c.args.source.now.rows c.args.revision found.0
    (migrated_put config c.in-Some-Put.row.now) c.args.target.now c.copy_put.new.target
    c.requires.first found.1 found.2 c.requires.copied c.copy_put.result c.copy_put.ensures.grown

pub copy_delete-requires-clause-live : goal.copy_delete-requires-clause-live
copy_delete-requires-clause-live g c = live_before (rows_of c.args.settings.now.entries.0)
    c.args.source.now.rows c.args.source.now.format c.args.revision c.in-Some-Delete.path.now
    c.args.target.now c.known.ensures.1.0 c.requires.first
    (subst (λ r. LendsRow c.args.source.now.rows c.args.revision (Some r))
    c.in-Some-Delete.field-0-is c.in-Some-Delete.ensures.row)
    c.requires.copied

pub returns-in-Some-Delete-clause-does : goal.returns-in-Some-Delete-clause-does
returns-in-Some-Delete-clause-does g c row is name a =
    as_line name (stored_of c.args.target.now) c.copy_delete.result
    (delete_lent (rows_of c.args.settings.now.entries.0) c.args.source.now.rows
    c.args.revision c.in-Some-Delete.path.now row
    (subst (λ r. LendsRow c.args.source.now.rows c.args.revision (Some r))
    c.in-Some-Delete.field-0-is c.in-Some-Delete.ensures.row) is)
    (c.copy_delete.ensures.does name a)

pub returns-in-Some-Delete-clause-copied : goal.returns-in-Some-Delete-clause-copied
returns-in-Some-Delete-clause-copied g c =
    let config = rows_of c.args.settings.now.entries.0 in
    let row = delete_of c.in-Some-Delete.path.now in
    more_copied config c.args.source.now.rows c.args.revision row row c.args.target.now
    c.copy_delete.new.target c.requires.first
    (subst (λ r. LendsRow c.args.source.now.rows c.args.revision (Some r))
    c.in-Some-Delete.field-0-is c.in-Some-Delete.ensures.row) refl
    c.requires.copied c.copy_delete.result c.copy_delete.ensures.grown

pub unreachable-requires : goal.unreachable-requires
unreachable-requires g c = no_row c.args.source.now.rows c.args.revision c.requires.first
    c.requires.last c.in-None.ensures.row
