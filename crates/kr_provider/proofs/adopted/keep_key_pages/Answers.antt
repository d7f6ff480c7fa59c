-- `keep_key_pages`: there is a page for each key that is still to come.
use Rattle.std.proofs.Common.{◌∙◌, ◌++◌, ◌+◌, List, ℕ, ap, arith, drop, length, map, sym}
use Rattle.kr_aes.specs.KeyExpansion.{padded_schedule}
use Rattle.kr_provider.specs.KeyPages.{words_out, key_secret, secrets_among}
use Rattle.kr_provider.proofs.Keys.{room_for, room_whole, whos_more}
use Rattle.kr_provider.proofs.adopted.keep_key_pages.Goals as goal

pub keep-requires-clause-room : goal.keep-requires-clause-room
keep-requires-clause-room c =
    let inv = c.loop-who.invariant in
    let e = ap (λ l. words_out c.loop-who.pages ++ map padded_schedule (secrets_among l))
    (sym (whos_more c.args.providers.now c.loop-who.who-index c.who-item.result
    c.loop-who-test.true c.who-item.is)) ∙ inv.2 in
    let one = ap (λ (l : List (List ℕ)). length l) c.in-Some.ensures in
    let room = room_for c.loop-who.pages (key_secret c.who-item.result)
    (secrets_among (drop (c.loop-who.who-index + 1) c.args.providers.now)) _ _ e
    (room_whole c.args.pages.now (secrets_among c.args.providers.now) _ c.requires.room) in
    omega (arith, one, room, inv.1)
