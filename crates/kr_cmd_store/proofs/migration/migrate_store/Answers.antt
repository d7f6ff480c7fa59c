-- `migrate_store`: the target's tape is borrowed while the source's is out, and comes back.
use Rattle.std.proofs.Common.{◌≡◌, ◌∙◌, false, sym, subst, ap, arith}
use Rattle.kr_config.specs.Kept.{rows_of}
use Rattle.kr_kms.specs.Outside.{same_name}
use Rattle.kr_kms.specs.declared.world.Access.TheVariants.{ToMake}
use Rattle.kr_cmd_steps.specs.Environment.{with_world}
use Rattle.kr_cmd_steps.specs.StoreSteps.{copied_into, migrating_into, target_on}
use Rattle.kr_cmd_steps.specs.Steps.{and_then}
use Rattle.kr_cmd_messages.specs.declared.refusal.Object.TheVariants.{Target}
use Rattle.kr_cmd_steps.specs.inner.Lent.{with_lent_tape}
use Rattle.kr_cmd_steps.specs.inner.Tapes.{stored_of}
use Rattle.kr_cmd_steps.proofs.RunTo.{by_bytes}
use Rattle.kr_cmd_steps.proofs.Settling.{returned_out, settled_links}
use Rattle.kr_cmd_steps.proofs.Tapes.{is_out}
use Rattle.kr_cmd_store.proofs.TwoTapes.{not_lent_behind, settles_behind}
use Rattle.kr_cmd_store.proofs.migration.migrate_store.Goals as goal

pub returns-in-Err-clause-made : goal.returns-in-Err-clause-made
returns-in-Err-clause-made g c name told count a apart =
    let other = c.as_str-name.result.now in
    by_bytes (λ to. migrating_into to (rows_of c.args.settings.now.entries.0)
    (stored_of c.args.source.now)) c.as_str-name.ensures
    (not_lent_behind name other told count
    (subst (λ n. same_name name n ≡ false) (sym c.as_str-name.ensures) apart) ToMake a
    c.in-Err.stop c.in-Err.ensures.files c.in-Err.ensures.objects c.in-Err.ensures.why
    c.in-Err.ensures.asked)

pub returns-in-Err-clause-out : goal.returns-in-Err-clause-out
returns-in-Err-clause-out g c = λ key. ap (λ o. o.out key) c.in-Err.ensures.objects.tapes

pub settle_tape-requires-clause-out : goal.settle_tape-requires-clause-out
settle_tape-requires-clause-out g c = λ κs lives.
    is_out c.as_str-name.result.now c.in-Ok.ensures.lent

pub returns-clause-made : goal.returns-clause-made
returns-clause-made g c name told count a apart =
    let other = c.as_str-name.result.now in
    by_bytes (λ to. migrating_into to (rows_of c.args.settings.now.entries.0)
    (stored_of c.args.source.now)) c.as_str-name.ensures
    (settles_behind name other told count
    (subst (λ n. same_name name n ≡ false) (sym c.as_str-name.ensures) apart) Target ToMake
    (g.W.World.told c.open_tape.new.world) (g.W.World.told c.settle_tape.new.world)
    (g.W.Tap.Tape.told c.copy_onto_tape-made.result.1) (g.W.Tap.Tape.count c.copy_onto_tape-made.result.1) a
    (and_then (target_on other) (copied_into other (rows_of c.args.settings.now.entries.0)
    (stored_of c.args.source.now))) c.copy_onto_tape-made.result.0 c.settle_tape.result
    c.in-Ok.ensures.lent c.settle_tape.ensures
    (c.copy_onto_tape-made.ensures other
    (with_lent_tape name told count (with_world (g.W.World.told c.open_tape.new.world) a))))

pub returns-clause-out : goal.returns-clause-out
returns-clause-out g c = λ key.
    omega (
      arith,
      c.in-Ok.ensures.lent.out.out key,
      returned_out c.as_str-name.result.now Target
          (g.W.World.told c.open_tape.new.world) (g.W.World.told c.settle_tape.new.world)
          (g.W.Tap.Tape.told c.copy_onto_tape-made.result.1) (g.W.Tap.Tape.count c.copy_onto_tape-made.result.1)
          c.copy_onto_tape-made.result.0 c.settle_tape.result c.settle_tape.ensures key,
    )

pub returns-in-Err-clause-links : goal.returns-in-Err-clause-links
returns-in-Err-clause-links g c = c.in-Err.ensures.objects.links

pub returns-clause-links : goal.returns-clause-links
returns-clause-links g c = settled_links c.as_str-name.result.now Target
    (g.W.World.told c.open_tape.new.world) (g.W.World.told c.settle_tape.new.world)
    (g.W.Tap.Tape.told c.copy_onto_tape-made.result.1)
    (g.W.Tap.Tape.count c.copy_onto_tape-made.result.1) c.copy_onto_tape-made.result.0
    c.settle_tape.result c.settle_tape.ensures ∙ c.in-Ok.ensures.lent.links
