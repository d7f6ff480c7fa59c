use Rattle.std.proofs.Common.{◌≡◌, ℕ, List, [], ap, refl, sym, subst}
use Rattle.kr_config.specs.Kept.{ConfigEntry, rows_of}
use Rattle.kr_provider.specs.PluginOrder.{plugin_order}
use Rattle.kr_cmd_steps.specs.Environment.{Environment, with_exchanges}
use Rattle.kr_cmd_steps.specs.ValueSteps.{bench_steps}
use Rattle.kr_cmd_steps.specs.Steps.{Steps}
use Rattle.kr_cmd_steps.specs.inner.Lent.{with_told_input}
use Rattle.kr_cmd_messages.specs.declared.command.Conversion.{Conversion}
use Rattle.kr_cmd_steps.specs.declared.programs.Program.{Program}
use Rattle.kr_cmd_messages.specs.declared.refusal.Outcome.{Outcome}
use Rattle.kr_cmd_steps.proofs.Apart.{bench_by, unlent}
use Rattle.kr_cmd_steps.proofs.Configured.{fed, unconfigured_input, unfed}
use Rattle.kr_cmd_steps.proofs.HeardLinks.{heard_so, heard_within}
use Rattle.kr_cmd_steps.proofs.Links.{LinksOf}
use Rattle.kr_cmd_steps.proofs.NamedPrograms.{names_in}
use Rattle.kr_cmd_values.proofs.convert.convert.Goals as goal

abbrev taken_up : Conversion → List ConfigEntry → List Program → List ℕ → Steps Outcome
taken_up words rows programs bytes =
    bench_steps programs words.direction words.resource words.path rows bytes

pub returns-in-Err : goal.returns-in-Err
returns-in-Err g c = unconfigured_input c.args.words.now.config c.args.words.now.options
    (g.W.World.told c.args.world.now)
    (g.W.World.told c.linked_settings.new.world) c.args.words.now.direction (taken_up c.args.words.now)
    (g.I.Source.left c.args.input.now) (g.I.Source.count c.args.input.now) g.W.Link.Kms.link
    g.W.World.lent g.W.World.took g.W.Link.Kms.step c.linked_settings.ensures.links c.in-Err.stop
    c.in-Err.ensures.does

pub returns-in-Err-take_input : goal.returns-in-Err-take_input
returns-in-Err-take_input g c = unfed c.args.words.now.config c.args.words.now.options
    (g.W.World.told c.args.world.now)
    (g.W.World.told c.linked_settings.new.world) c.args.words.now.direction (taken_up c.args.words.now)
    (g.I.Source.left c.args.input.now) (g.I.Source.count c.args.input.now) g.W.Link.Kms.link
    g.W.World.lent g.W.World.took g.W.Link.Kms.step c.linked_settings.ensures.links
    c.in-Err-take_input.stop c.in-Ok.read.0 c.in-Ok.read.1 c.in-Ok.ensures.does
    (g.I.Source.left c.take_input.new.input) (g.I.Source.count c.take_input.new.input)
    c.in-Err-take_input.ensures.does

pub make-requires-clause-programs : goal.make-requires-clause-programs
make-requires-clause-programs g c κs within = subst (λ p. names_in p
    ≡ plugin_order (rows_of c.in-Ok.read.0.entries.0)) (sym c.as_slice.ensures)
    c.in-Ok.ensures.names

pub returns : goal.returns
returns g c =
    let words = c.args.words.now in
    let settings = c.in-Ok.read.0 in
    let programs = c.in-Ok.read.1 in
    let mid = g.W.World.told c.linked_settings.new.world in
    let taken : Environment → Environment = λ a. with_told_input (g.I.Source.left c.take_input.new.input)
    (g.I.Source.count c.take_input.new.input) a in
    let link = g.W.Link.Kms.link in
    let lent = g.W.World.lent in
    let took = g.W.World.took in
    let step = g.W.Link.Kms.step in
    heard_so link lent took step 0 [] [] _ _
    (heard_within link lent took step 0 (ap (λ (o : LinksOf). o.handed) c.in-Ok.ensures.links)
    refl [] [] _ c.make.ensures.made)
    (λ es does a. fed words.config words.options
    (g.W.World.told c.args.world.now)
    (g.W.World.told c.linked_settings.new.world) words.direction (taken_up words) (g.I.Source.left c.args.input.now)
    (g.I.Source.count c.args.input.now) settings programs c.in-Ok-take_input.bytes
    c.in-Ok.ensures.does c.in-Ok-take_input.ensures.does a
    (unlent (taken a) (with_exchanges es (taken a)) c.make.ensures.tapes
    (bench_by words.direction (rows_of settings.entries.0) c.as_slice.ensures c.as_str.ensures
    c.as_str-2.ensures refl (does mid.tapes (taken a)))))
