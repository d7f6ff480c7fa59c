-- A reload or a join: one more owner of the settings of its file.
use Rattle.std.proofs.Common.{List, Option, ap, sym, ◌∙◌}
use Rattle.std.specs.Prelude.{is_some}
use Rattle.kr_config.specs.Kept.{ConfigEntry, rows_of}
use Rattle.kr_workers.specs.Files.{rows_at}
use Rattle.kr_workers.specs.Replies.{told_of_join, told_of_reload}
use Rattle.kr_workers.proofs.OneLine.{may_bring, read_rows, serves_join, serves_reload, unread}
use Rattle.kr_workers.proofs.line.bring_line.Goals as goal

pub share_file_settings-requires : goal.share_file_settings-requires
share_file_settings-requires g c =
    let may = may_bring c.args.way c.args.named c.args.file.now c.requires.ready in
    ap (λ (r : Option (List ConfigEntry)). is_some r)
    (ap (rows_at c.args.files.now) c.as_str.ensures ∙ may.0.2)

pub returns-in_default-clause-serves : goal.returns-in_default-clause-serves
returns-in_default-clause-serves g c =
    let may = may_bring c.args.way c.args.named c.args.file.now c.requires.ready in
    unread g.L.Kms.link g.L.Kms.step g.D.Dice.left g.D.Dice.count c.args.files.now c.args.replica
    (g.A.Acts.caller c.args.acts.now) c.args.bench.now c.args.way c.args.named c.args.file.now
    may.0.1 may.0.2 c.requires.ready.idle

pub reload-requires-clause-replica : goal.reload-requires-clause-replica
reload-requires-clause-replica g c =
    (may_bring c.args.way c.args.named c.args.file.now c.requires.ready).0.0

pub reload-requires-clause-idle : goal.reload-requires-clause-idle
reload-requires-clause-idle g c = c.requires.ready.idle

pub reload-requires-clause-names : goal.reload-requires-clause-names
reload-requires-clause-names g c =
    let may = may_bring c.args.way c.args.named c.args.file.now c.requires.ready in
    read_rows (g.A.Acts.caller c.args.acts.now).opening.names c.args.files.now c.args.file.now
    c.as_str.result.now may.0.1 (rows_of c.in-Ok.settings.entries.0) c.as_str.ensures may.0.2
    c.in-Ok.ensures may.0.3

pub reload-requires-clause-room : goal.reload-requires-clause-room
reload-requires-clause-room g c =
    (may_bring c.args.way c.args.named c.args.file.now c.requires.ready).1

pub reload-requires-clause-links : goal.reload-requires-clause-links
reload-requires-clause-links g c = c.requires.ready.links

pub returns-in-Reload-clause-serves : goal.returns-in-Reload-clause-serves
returns-in-Reload-clause-serves g c = serves_reload g.L.Kms.link g.L.Kms.step g.D.Dice.left
    g.D.Dice.count c.args.files.now c.args.replica (g.A.Acts.caller c.args.acts.now)
    (g.A.Acts.caller c.reload.new.acts) c.args.bench.now c.reload.new.bench
    c.told_of_reload.result c.args.way c.in-Reload.is c.args.named c.args.file.now
    (rows_of c.in-Ok.settings.entries.0) c.reload.result
    (ap (rows_at c.args.files.now) (sym c.as_str.ensures) ∙ c.in-Ok.ensures)
    (c.told_of_reload.ensures ∙ ap (λ n. told_of_reload n c.reload.result) c.seat-number.ensures)
    c.reload.ensures.reloads c.reload.ensures.adds c.reload.ensures.idle c.reload.ensures.asked
    c.reload.ensures.later c.reload.ensures.kept c.reload.ensures.exchanged

pub join-requires-clause-replica : goal.join-requires-clause-replica
join-requires-clause-replica g c =
    (may_bring c.args.way c.args.named c.args.file.now c.requires.ready).0.0

pub join-requires-clause-idle : goal.join-requires-clause-idle
join-requires-clause-idle g c = c.requires.ready.idle

pub join-requires-clause-names : goal.join-requires-clause-names
join-requires-clause-names g c =
    let may = may_bring c.args.way c.args.named c.args.file.now c.requires.ready in
    read_rows (g.A.Acts.caller c.args.acts.now).opening.names c.args.files.now c.args.file.now
    c.as_str.result.now may.0.1 (rows_of c.in-Ok.settings.entries.0) c.as_str.ensures may.0.2
    c.in-Ok.ensures may.0.3

pub join-requires-clause-room : goal.join-requires-clause-room
join-requires-clause-room g c =
    (may_bring c.args.way c.args.named c.args.file.now c.requires.ready).1

pub join-requires-clause-links : goal.join-requires-clause-links
join-requires-clause-links g c = c.requires.ready.links

pub returns-in-Join-clause-serves : goal.returns-in-Join-clause-serves
returns-in-Join-clause-serves g c = serves_join g.L.Kms.link g.L.Kms.step g.D.Dice.left
    g.D.Dice.count c.args.files.now c.args.replica (g.A.Acts.caller c.args.acts.now)
    (g.A.Acts.caller c.join.new.acts) c.args.bench.now c.join.new.bench
    c.told_of_join.result c.args.way c.in-Join.is c.args.named c.args.file.now
    (rows_of c.in-Ok.settings.entries.0) c.join.result
    (ap (rows_at c.args.files.now) (sym c.as_str.ensures) ∙ c.in-Ok.ensures)
    (c.told_of_join.ensures ∙ ap (λ n. told_of_join n c.join.result) c.seat-number.ensures)
    c.join.ensures.joins c.join.ensures.adds c.join.ensures.idle c.join.ensures.asked
    c.join.ensures.later c.join.ensures.kept c.join.ensures.exchanged
