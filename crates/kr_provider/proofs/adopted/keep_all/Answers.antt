-- `keep_all`: there is a page for each key that is still to come.
use Rattle.std.proofs.Common.{◌∙◌, ◌++◌, ◌+◌, ◌≤◌, ap, append-nil, arith, drop, length, map, sym}
use Rattle.std.specs.List.{list_all}
use Rattle.std.proofs.lemmas.List.{length-map}
use Rattle.kr_aes.specs.KeyExpansion.{padded_schedule}
use Rattle.kr_config.specs.Kept.{rows_of}
use Rattle.kr_config.specs.Providers.{is_provider}
use Rattle.kr_provider.specs.KeyPages.{words_out, secrets_among, secrets_in, size_of}
use Rattle.kr_provider.proofs.Keys.{room_for, row_at, rows_end, rows_more, secrets_counted}
use Rattle.kr_provider.proofs.Stacks.{holds}
use Rattle.kr_provider.proofs.adopted.keep_all.Goals as goal

pub keep_key_pages-requires-clause-rules : goal.keep_key_pages-requires-clause-rules
keep_key_pages-requires-clause-rules c = ap (list_all is_provider) c.as_slice.ensures
    ∙ row_at c.args.entries.now c.loop-entry.entry-index c.entry-item.result c.requires.rules
    c.loop-entry-test.true c.entry-item.is

pub keep_key_pages-requires-clause-room : goal.keep_key_pages-requires-clause-room
keep_key_pages-requires-clause-room c =
    let inv = c.loop-entry.invariant in
    let rows = rows_of c.args.entries.now in
    let e = ap (λ l. words_out c.loop-entry.pages ++ map padded_schedule (secrets_in l))
    (sym (rows_more c.args.entries.now c.loop-entry.entry-index c.entry-item.result
    c.loop-entry-test.true c.entry-item.is)) ∙ inv.2 in
    let long = length-map (secrets_in rows) padded_schedule in
    let count = secrets_counted rows in
    let whole : length (map padded_schedule (secrets_in rows)) ≤ size_of c.args.pages.now =
    omega (arith, long, count, c.requires.room) in
    let room = room_for c.loop-entry.pages (secrets_among c.entry-item.result.providers.0)
    (secrets_in (rows_of (drop (c.loop-entry.entry-index + 1) c.args.entries.now))) _ _ e whole
    in
    rw c.as_slice.ensures (omega (arith, room, inv.1))

pub returns-clause-keys : goal.returns-clause-keys
returns-clause-keys c =
    let inv = c.loop-entry.invariant in
    let rest = ap (λ l. words_out c.loop-entry.pages ++ map padded_schedule (secrets_in l))
    (rows_end c.args.entries.now c.loop-entry.entry-index (omega arith)) in
    holds (secrets_in (rows_of c.args.entries.now)) c.loop-entry.pages inv.0
    (sym (append-nil (words_out c.loop-entry.pages)) ∙ sym rest ∙ inv.2)
