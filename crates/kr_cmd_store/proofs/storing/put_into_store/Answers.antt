-- The store's tape is borrowed for the put, made where it is absent, and comes back.
use Rattle.std.proofs.Common.{◌<◌, [], sym, subst}
use Rattle.kr_kms.specs.declared.world.Access.TheVariants.{ToMake}
use Rattle.kr_config.specs.Kept.{rows_of}
use Rattle.kr_cmd_steps.specs.StoreSteps.{sealed_into, stored_into}
use Rattle.kr_cmd_steps.specs.Phases.{stored_on}
use Rattle.kr_cmd_steps.specs.Steps.{and_then}
use Rattle.kr_cmd_messages.specs.declared.refusal.Object.TheVariants.{Store}
use Rattle.kr_cmd_steps.proofs.RunTo.{by_bytes}
use Rattle.kr_cmd_steps.specs.Environment.{with_exchanges, with_world}
use Rattle.kr_cmd_steps.proofs.HeardLinks.{heard_so, heard_within, nothing_does}
use Rattle.kr_cmd_steps.proofs.Settling.{lends_settled_to, settled_links}
use Rattle.kr_cmd_steps.proofs.Tapes.{not_lent, is_out}
use Rattle.kr_cmd_store.proofs.storing.put_into_store.Goals as goal

pub returns-in-Err : goal.returns-in-Err
returns-in-Err g c =
    nothing_does g.W.Link.Kms.link g.W.World.lent g.W.World.took g.W.Link.Kms.step 0
    (λ i. (c.in-Err.ensures.objects.links i).handed) []
    (λ a. with_world (g.W.World.told c.args.world.now) a)
    (λ a. with_world (g.W.World.told c.open_tape.new.world) a)
    (λ a. by_bytes (λ name. stored_into c.args.words.now name (rows_of c.args.settings.entries.0)
    c.args.programs.now c.args.bytes) c.as_str-name.ensures
    (not_lent c.in-Err.ensures.files c.in-Err.ensures.objects a c.as_str-name.result.now ToMake
    c.in-Err.stop c.in-Err.ensures.why c.in-Err.ensures.asked))

pub settle_tape-requires-clause-out : goal.settle_tape-requires-clause-out
settle_tape-requires-clause-out g c = λ κs lives. subst (λ t. 0 < t.out c.as_str-name.result.now)
    (sym c.put_on_tape-put.ensures.tapes) (is_out c.as_str-name.result.now c.in-Ok.ensures.lent)

pub returns : goal.returns
returns g c =
    let link = g.W.Link.Kms.link in
    let lent = g.W.World.lent in
    let took = g.W.World.took in
    let step = g.W.Link.Kms.step in
    let settled = settled_links c.as_str-name.result.now Store
    (g.W.World.told c.put_on_tape-put.new.world) (g.W.World.told c.settle_tape.new.world)
    (g.W.Tap.Tape.told c.put_on_tape-put.result.1) (g.W.Tap.Tape.count c.put_on_tape-put.result.1)
    c.put_on_tape-put.result.0 c.settle_tape.result c.settle_tape.ensures in
    heard_within link lent took step 0 {out = g.W.World.told c.open_tape.new.world}
    {mid = g.W.World.told c.put_on_tape-put.new.world}
    (λ i. (c.in-Ok.ensures.lent.links i).handed) (λ i. (settled i).handed) [] [] _
    (heard_so link lent took step 0 [] [] _ _ c.put_on_tape-put.ensures.made (λ es does a.
    by_bytes (λ name. stored_into c.args.words.now name (rows_of c.args.settings.entries.0)
    c.args.programs.now c.args.bytes) c.as_str-name.ensures
    (lends_settled_to Store c.as_str-name.result.now ToMake (g.W.World.told c.put_on_tape-put.new.world)
    (g.W.World.told c.settle_tape.new.world) (g.W.Tap.Tape.told c.put_on_tape-put.result.1)
    (g.W.Tap.Tape.count c.put_on_tape-put.result.1) a (with_exchanges es a) (and_then
    (stored_on Store c.as_str-name.result.now) (sealed_into c.args.words.now
    c.as_str-name.result.now (rows_of c.args.settings.entries.0) c.args.programs.now c.args.bytes))
    c.put_on_tape-put.result.0 c.settle_tape.result c.in-Ok.ensures.lent c.settle_tape.ensures
    (does c.as_str-name.result.now a))))
