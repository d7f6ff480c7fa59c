-- `get`: each phase goes on from the one before.
use Rattle.std.proofs.Common.{◌≡◌, ◌≤◌, List, [], length, inl, refl, sym, ◌∙◌, ap, subst}
use Rattle.kr_base.specs.Limits.{path_limit, value_limit}
use Rattle.kr_config.specs.Kept.{ConfigEntry, rows_of}
use Rattle.kr_provider.specs.PluginOrder.{plugin_order}
use Rattle.kr_store.specs.declared.rows.Row as stored
use Rattle.kr_cmd_steps.specs.Environment.{with_exchanges, with_world}
use Rattle.kr_cmd_steps.specs.Phases.{read_for}
use Rattle.kr_cmd_steps.specs.ValueSteps.{bench_steps}
use Rattle.kr_cmd_steps.specs.StoreSteps.{row_on}
use Rattle.kr_cmd_steps.specs.Steps.{Steps, and_then}
use Rattle.kr_cmd_messages.specs.declared.command.Direction.TheVariants.{Decrypt}
use Rattle.kr_cmd_messages.specs.declared.command.Lookup.{Lookup}
use Rattle.kr_cmd_steps.specs.declared.programs.Program.{Program}
use Rattle.kr_cmd_messages.specs.declared.refusal.Outcome.{Outcome}
use Rattle.kr_cmd_messages.specs.declared.refusal.Stop.TheVariants.{NoMemory}
use Rattle.kr_cmd_steps.proofs.Apart.{bench_by, unlent}
use Rattle.kr_cmd_steps.proofs.Configured.{configured, unconfigured_heard}
use Rattle.kr_cmd_steps.proofs.RunTo.{files_same, goes_on, not_opened, stops}
use Rattle.kr_cmd_steps.proofs.HeardLinks.{heard_so, heard_within, nothing_does}
use Rattle.kr_cmd_steps.proofs.NamedPrograms.{names_in}
use Rattle.kr_cmd_store.proofs.lookup.get.Goals as goal

abbrev read_so : Lookup → List ConfigEntry → List Program → stored.Row → Steps Outcome
read_so words rows programs row =
    bench_steps programs Decrypt row.resource words.path rows row.stored

abbrev looked_up : Lookup → List ConfigEntry → List Program → Steps Outcome
looked_up words rows programs =
    and_then (read_for words.store (row_on words.store words.path)) (read_so words rows programs)

pub returns-in-Err : goal.returns-in-Err
returns-in-Err g c = unconfigured_heard c.args.words.now.config c.args.words.now.options
    (g.W.World.told c.args.world.now)
    (g.W.World.told c.linked_settings.new.world) (looked_up c.args.words.now) g.W.Link.Kms.link
    g.W.World.lent g.W.World.took g.W.Link.Kms.step c.linked_settings.ensures.links c.in-Err.stop
    c.in-Err.ensures.does

pub returns-in-Err-find_row : goal.returns-in-Err-find_row
returns-in-Err-find_row g c =
    let words = c.args.words.now in
    let settings = c.in-Ok.read.0 in
    let programs = c.in-Ok.read.1 in
    nothing_does g.W.Link.Kms.link g.W.World.lent g.W.World.took g.W.Link.Kms.step 0
    (λ i. ((c.in-Err-find_row.ensures.links ∙ c.in-Ok.ensures.links) i).handed) []
    (λ a. with_world (g.W.World.told c.args.world.now) a)
    (λ a. with_world (g.W.World.told c.find_row.new.world) a)
    (λ a. configured words.config words.options
    (g.W.World.told c.args.world.now)
    (g.W.World.told c.linked_settings.new.world) (looked_up words) settings programs c.in-Ok.ensures.does a
    (stops (read_for words.store (row_on words.store words.path))
    (read_so words (rows_of settings.entries.0) programs) c.in-Err-find_row.stop
    (c.in-Err-find_row.ensures.does a)))

-- there was no memory for a copy of the value
pub returns-in_default : goal.returns-in_default
returns-in_default g c =
    let words = c.args.words.now in
    let settings = c.in-Ok.read.0 in
    let programs = c.in-Ok.read.1 in
    nothing_does g.W.Link.Kms.link g.W.World.lent g.W.World.took g.W.Link.Kms.step 0
    (λ i. ((c.in-Ok-find_row.ensures.links ∙ c.in-Ok.ensures.links) i).handed) []
    (λ a. with_world (g.W.World.told c.args.world.now) a)
    (λ a. with_world (g.W.World.told c.find_row.new.world) a)
    (λ a. configured words.config words.options
    (g.W.World.told c.args.world.now)
    (g.W.World.told c.linked_settings.new.world) (looked_up words) settings programs c.in-Ok.ensures.does a
    (goes_on (read_for words.store (row_on words.store words.path))
    (read_so words (rows_of settings.entries.0) programs) c.in-Ok-find_row.row
    (c.in-Ok-find_row.ensures.does a)
    (not_opened (files_same (g.W.World.told c.find_row.new.world))
    (record { dice = refl; tapes = refl; links = refl }) a 0 NoMemory tt (inl refl))))

pub make-requires-clause-programs : goal.make-requires-clause-programs
make-requires-clause-programs g c κs within = subst (λ p. names_in p
    ≡ plugin_order (rows_of c.in-Ok.read.0.entries.0)) (sym c.as_slice-2.ensures)
    c.in-Ok.ensures.names

pub make-requires-clause-path : goal.make-requires-clause-path
make-requires-clause-path g c κs within =
    subst (λ p. length p ≤ path_limit) (sym c.as_str-2.ensures) c.requires.path

pub make-requires-clause-fits : goal.make-requires-clause-fits
make-requires-clause-fits g c κs within =
    subst (λ b. length b ≤ value_limit)
    (sym (c.in-Ok-copy.ensures ∙ c.as_slice.ensures
    ∙ ap (λ (r : stored.Row). r.stored) c.get-found.ensures))
    c.in-Ok-find_row.ensures.fits

pub returns : goal.returns
returns g c =
    let words = c.args.words.now in
    let settings = c.in-Ok.read.0 in
    let programs = c.in-Ok.read.1 in
    let rows = rows_of settings.entries.0 in
    let link = g.W.Link.Kms.link in
    let lent = g.W.World.lent in
    let took = g.W.World.took in
    let step = g.W.Link.Kms.step in
    heard_within link lent took step 0 {out = g.W.World.told c.find_row.new.world}
    {mid = g.W.World.told c.make.new.world}
    (λ i. ((c.in-Ok-find_row.ensures.links ∙ c.in-Ok.ensures.links) i).handed) refl [] [] _
    (heard_so link lent took step 0 [] [] _ _ c.make.ensures.made
    (λ es does a. configured words.config words.options
    (g.W.World.told c.args.world.now)
    (g.W.World.told c.linked_settings.new.world) (looked_up words) settings programs c.in-Ok.ensures.does a
    (goes_on (read_for words.store (row_on words.store words.path)) (read_so words rows programs)
    c.in-Ok-find_row.row (c.in-Ok-find_row.ensures.does a)
    (unlent a (with_exchanges es a) c.make.ensures.tapes
    (bench_by Decrypt rows c.as_slice-2.ensures
    (c.as_str.ensures ∙ ap (λ (r : stored.Row). r.resource) c.get-found.ensures)
    c.as_str-2.ensures
    (c.in-Ok-copy.ensures ∙ c.as_slice.ensures
    ∙ ap (λ (r : stored.Row). r.stored) c.get-found.ensures)
    (does (g.W.World.told c.find_row.new.world).tapes a))))))
