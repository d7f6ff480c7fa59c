use Rattle.std.specs.Prelude.{Some}
use Rattle.std.specs.Option.{option_map}
use Rattle.kr_kms.specs.Outside.{same_name}
use Rattle.kr_cmd_steps.specs.Environment.{with_world, with_lent}
use Rattle.kr_cmd_steps.specs.Phases.{stored_on}
use Rattle.kr_cmd_steps.specs.StoreSteps.{judging_by}
use Rattle.kr_cmd_steps.specs.inner.Lent.{with_lent_tape}
use Rattle.kr_cmd_steps.specs.inner.Tapes.{stored_of}
use Rattle.kr_cmd_messages.specs.declared.refusal.Object.TheVariants.{Store}
use Rattle.kr_cmd_steps.proofs.RunTo.{goes_on, stops}
use Rattle.kr_cmd_steps.proofs.Loading.{as_closed}
use Rattle.kr_cmd_steps.proofs.Tapes.{behind_tape}
use Rattle.kr_cmd_store.proofs.judge.judge_on_tape.Goals as goal

pub returns-in-Err-clause-made : goal.returns-in-Err-clause-made
returns-in-Err-clause-made g c name a =
    stops (stored_on Store name) (λ stored. judging_by c.args.words.now.options stored.rows)
    c.in-Err.stop
    (c.in-Err.ensures.err name (with_world (g.W.World.told c.args.world.now) a))

pub returns-clause-made : goal.returns-clause-made
returns-clause-made g c name a =
    let store = c.in-Ok.store in
    let options = c.args.words.now.options in
    let old = g.W.World.told c.args.world.now in
    let new = g.W.World.told c.judge_stored-made.new.world in
    goes_on (stored_on Store name) (λ stored. judging_by options stored.rows) (stored_of store)
    (c.in-Ok.ensures.ok name (with_world old a))
    (as_closed (judging_by options store.rows) name (with_world new a)
    (with_lent_tape name store.told store.count (with_world old a))
    c.close.ensures.told c.close.ensures.count
    (behind_tape name store.told store.count a c.judge_stored-made.ensures.tapes
    (c.judge_stored-made.ensures.made
    (with_lent same_name name (option_map Some store.told) store.count old.tapes) a)))
