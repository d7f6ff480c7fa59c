-- The store's tape is borrowed for the listing, and is back then.
use Rattle.std.proofs.Common.{◌∙◌, ℕ, List, Option, Result, Ok, Err}
use Rattle.kr_kms.specs.Outside.{Outside}
use Rattle.kr_kms.specs.declared.world.Access.TheVariants.{ToRead}
use Rattle.kr_store.specs.declared.rows.Row.{Row}
use Rattle.kr_cmd_messages.specs.declared.refusal.Stop.{Stop}
use Rattle.kr_cmd_steps.specs.Environment.{with_world}
use Rattle.kr_cmd_steps.specs.StoreSteps.{live_on}
use Rattle.kr_cmd_steps.specs.inner.Tapes.{ReturnsRead}
use Rattle.kr_cmd_steps.proofs.Returning.{lends_read, read_links}
use Rattle.kr_cmd_steps.proofs.Tapes.{not_lent, is_out}
use Rattle.kr_cmd_store.specs.inner.Verifying.{rows_listed}
use Rattle.kr_cmd_store.proofs.verifying.find_rows.Goals as goal

pub returns-in-Err-clause-does : goal.returns-in-Err-clause-does
returns-in-Err-clause-does g c a = not_lent c.in-Err.ensures.files c.in-Err.ensures.objects a
    c.args.name.now ToRead c.in-Err.stop c.in-Err.ensures.why c.in-Err.ensures.asked

pub returns-in-Err-clause-links : goal.returns-in-Err-clause-links
returns-in-Err-clause-links g c = c.in-Err.ensures.objects.links

pub return_tape-requires-clause-out : goal.return_tape-requires-clause-out
return_tape-requires-clause-out g c = λ κs lives. is_out c.args.name.now c.in-Ok.ensures.lent

-- of the rows alone the same is true
listed : (name : List ℕ) (old new : Outside) (told : Option (List ℕ)) (count : ℕ)
    (read : Result (List Row × ℕ) Stop) → ReturnsRead name old new told count read
    → ReturnsRead name old new told count (rows_listed read)
listed name old new told count (Ok rows) back = back
listed name old new told count (Err why) back = back

pub returns-clause-does : goal.returns-clause-does
returns-clause-does g c a =
    let name = c.args.name.now in
    let mid = g.W.World.told c.open_tape.new.world in
    let new = g.W.World.told c.return_tape.new.world in
    let rows = c.live_rows_on_tape-rows.result.0 in
    let tape = c.live_rows_on_tape-rows.result.1 in
    let told = g.W.Tap.Tape.told tape in
    let count = g.W.Tap.Tape.count tape in
    lends_read name mid new told count a (live_on name) (rows_listed rows) c.in-Ok.ensures.lent
    (listed name mid new told count rows c.return_tape.ensures)
    (c.live_rows_on_tape-rows.ensures.does name (with_world mid a))

pub returns-clause-links : goal.returns-clause-links
returns-clause-links g c =
    let tape = c.live_rows_on_tape-rows.result.1 in
    read_links c.args.name.now (g.W.World.told c.open_tape.new.world)
    (g.W.World.told c.return_tape.new.world) (g.W.Tap.Tape.told tape) (g.W.Tap.Tape.count tape)
    c.live_rows_on_tape-rows.result.0 c.return_tape.ensures ∙ c.in-Ok.ensures.lent.links
