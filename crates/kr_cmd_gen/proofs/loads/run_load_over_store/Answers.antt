-- `run_load_over_store`: the workers' sources, and the tape of the store, which comes back.
use Rattle.std.proofs.Common.{Err, subst}
use Rattle.kr_cmd_steps.specs.Environment.{with_world}
use Rattle.kr_cmd_steps.specs.Phases.{stored_on}
use Rattle.kr_cmd_gen.specs.GeneratedLoads.{load_beginning, load_over}
use Rattle.kr_cmd_steps.specs.Steps.{and_then}
use Rattle.kr_cmd_fleet.specs.inner.Plans.{plan_of}
use Rattle.kr_cmd_gen.specs.inner.LoadOutcomes.{SettlesLoad, sources_in}
use Rattle.kr_cmd_messages.specs.declared.refusal.Object.TheVariants.{Store}
use Rattle.kr_cmd_gen.proofs.Generating.{load_lacks, load_taped, load_untaped, others_stay, sources_many}
use Rattle.kr_cmd_steps.proofs.Tapes.{is_out}
use Rattle.kr_cmd_gen.proofs.loads.run_load_over_store.Goals as goal

pub returns-in-Err-clause-runs : goal.returns-in-Err-clause-runs
returns-in-Err-clause-runs g c a unheard =
    load_lacks g.row.W-Tap.Denot g.W.Link.Kms.link g.W.Link.Kms.step
    c.args.words.now.seed c.args.words.now.store (plan_of c.args.plan.now)
    (with_world (g.W.World.told c.args.world.now) a)

pub returns-in-Err-open_tape-clause-runs : goal.returns-in-Err-open_tape-clause-runs
returns-in-Err-open_tape-clause-runs g c a unheard =
    let plan = plan_of c.args.plan.now in
    let name = c.as_str-store.result.now in
    let old = with_world (g.W.World.told c.args.world.now) a in
    let new = with_world (g.W.World.told c.open_tape.new.world) a in
    subst (λ n. SettlesLoad g.row.W-Tap.Denot g.W.Link.Kms.link g.W.Link.Kms.step
    c.args.words.now.seed (load_over n plan) n plan old new (Err c.in-Err-open_tape.stop))
    c.as_str-store.ensures
    (load_untaped g.row.W-Tap.Denot g.W.Link.Kms.link g.W.Link.Kms.step
    c.args.words.now.seed name plan (and_then (stored_on Store name) (load_beginning plan)) a
    c.in-Err-open_tape.stop c.in-Err-open_tape.ensures.files c.in-Err-open_tape.ensures.objects
    c.in-Err-open_tape.ensures.why c.in-Err-open_tape.ensures.asked)

pub returns-in-Err-open_tape-clause-others : goal.returns-in-Err-open_tape-clause-others
returns-in-Err-open_tape-clause-others g c = record {
  dice = c.in-Err-open_tape.ensures.objects.dice;
  links = c.in-Err-open_tape.ensures.objects.links;
}

pub run_load_on_tape-made-requires-clause-four : goal.run_load_on_tape-made-requires-clause-four
run_load_on_tape-made-requires-clause-four g c = λ κs lives.
    sources_many c.args.words.now.seed c.make_outfits.new.outfits.0 c.in-Ok.ensures.sources

pub returns-clause-runs : goal.returns-clause-runs
returns-clause-runs g c a unheard =
    let plan = plan_of c.args.plan.now in
    let name = c.as_str-store.result.now in
    let old = with_world (g.W.World.told c.args.world.now) a in
    let new = with_world (g.W.World.told c.settle_tape.new.world) a in
    let out = g.W.World.told c.open_tape.new.world in
    subst (λ n. SettlesLoad g.row.W-Tap.Denot g.W.Link.Kms.link g.W.Link.Kms.step
    c.args.words.now.seed (load_over n plan) n plan old new c.settle_tape.result)
    c.as_str-store.ensures
    (load_taped g.row.W-Tap.Denot g.W.Link.Kms.link g.W.Link.Kms.step
    c.args.words.now.seed name plan (and_then (stored_on Store name) (load_beginning plan)) a
    (g.W.World.told c.settle_tape.new.world) (g.W.Tap.Tape.told c.run_load_on_tape-made.result.1)
    (g.W.Tap.Tape.count c.run_load_on_tape-made.result.1) (sources_in c.make_outfits.new.outfits.0)
    (sources_in c.run_load_on_tape-made.result.2.0) c.run_load_on_tape-made.result.0 c.settle_tape.result
    c.in-Ok.ensures.sources c.in-Ok-open_tape.ensures.lent c.settle_tape.ensures
    (c.run_load_on_tape-made.ensures.made name (with_world out a) unheard))

pub returns-clause-others : goal.returns-clause-others
returns-clause-others g c = others_stay (g.W.World.told c.settle_tape.new.world)
    (g.W.Tap.Tape.told c.run_load_on_tape-made.result.1) (g.W.Tap.Tape.count c.run_load_on_tape-made.result.1)
    c.run_load_on_tape-made.result.0 c.settle_tape.result c.in-Ok-open_tape.ensures.lent
    c.settle_tape.ensures

pub settle_tape-requires-clause-out : goal.settle_tape-requires-clause-out
settle_tape-requires-clause-out g c = λ κs lives.
    is_out c.as_str-store.result.now c.in-Ok-open_tape.ensures.lent
