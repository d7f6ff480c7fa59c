-- `verify`: each phase goes on from the one before.
use Rattle.std.proofs.Common.{◌≡◌, List, [], refl, sym, subst, ◌∙◌}
use Rattle.std.specs.Prelude.{All}
use Rattle.kr_config.specs.Kept.{ConfigEntry, rows_of}
use Rattle.kr_provider.specs.PluginOrder.{plugin_order}
use Rattle.kr_cmd_steps.specs.Environment.{with_world}
use Rattle.kr_cmd_steps.specs.Phases.{read_for}
use Rattle.kr_cmd_steps.specs.StoreSteps.{live_on, verifying_with}
use Rattle.kr_cmd_steps.specs.Steps.{Steps, and_then}
use Rattle.kr_cmd_steps.specs.declared.programs.Program.{Program}
use Rattle.kr_cmd_messages.specs.declared.command.Verification.{Verification}
use Rattle.kr_cmd_messages.specs.declared.refusal.Outcome.{Outcome}
use Rattle.kr_cmd_steps.proofs.Configured.{configured, unconfigured_heard}
use Rattle.kr_cmd_steps.proofs.RunTo.{by_bytes, goes_on, stops}
use Rattle.kr_cmd_steps.proofs.HeardLinks.{heard_so, heard_within, nothing_does}
use Rattle.kr_cmd_steps.proofs.NamedPrograms.{names_in}
use Rattle.kr_cmd_store.specs.inner.Verifying.{IsWithin}
use Rattle.kr_cmd_store.proofs.ToldRows.{verified_by}
use Rattle.kr_cmd_store.proofs.verifying.verify.Goals as goal

abbrev listed : Verification → List ConfigEntry → List Program → Steps Outcome
listed words rows programs = and_then (read_for words.store (live_on words.store))
    (verifying_with programs rows)

pub returns-in-Err : goal.returns-in-Err
returns-in-Err g c = unconfigured_heard c.args.words.now.config c.args.words.now.options
    (g.W.World.told c.args.world.now)
    (g.W.World.told c.linked_settings.new.world) (listed c.args.words.now) g.W.Link.Kms.link g.W.World.lent
    g.W.World.took g.W.Link.Kms.step c.linked_settings.ensures.links c.in-Err.stop
    c.in-Err.ensures.does

pub returns-in-Err-find_rows : goal.returns-in-Err-find_rows
returns-in-Err-find_rows g c =
    let words = c.args.words.now in
    let settings = c.in-Ok.read.0 in
    let programs = c.in-Ok.read.1 in
    nothing_does g.W.Link.Kms.link g.W.World.lent g.W.World.took g.W.Link.Kms.step 0
    (λ i. ((c.in-Err-find_rows.ensures.links ∙ c.in-Ok.ensures.links) i).handed) []
    (λ a. with_world (g.W.World.told c.args.world.now) a)
    (λ a. with_world (g.W.World.told c.find_rows.new.world) a)
    (λ a. configured words.config words.options
    (g.W.World.told c.args.world.now)
    (g.W.World.told c.linked_settings.new.world) (listed words) settings programs c.in-Ok.ensures.does a
    (stops (read_for words.store (live_on words.store))
    (verifying_with programs (rows_of settings.entries.0)) c.in-Err-find_rows.stop
    (by_bytes (λ name. read_for name (live_on name)) c.as_str.ensures
    (c.in-Err-find_rows.ensures.does a))))

pub read_by_links-requires-clause-programs : goal.read_by_links-requires-clause-programs
read_by_links-requires-clause-programs g c κs within = subst (λ p. names_in p
    ≡ plugin_order (rows_of c.in-Ok.read.0.entries.0)) (sym c.as_slice.ensures)
    c.in-Ok.ensures.names

pub read_by_links-requires-clause-within : goal.read_by_links-requires-clause-within
read_by_links-requires-clause-within g c κs within =
    subst (All IsWithin) (sym c.as_slice-2.ensures) c.in-Ok-find_rows.ensures.within

pub returns : goal.returns
returns g c =
    let words = c.args.words.now in
    let settings = c.in-Ok.read.0 in
    let programs = c.in-Ok.read.1 in
    let rows = rows_of settings.entries.0 in
    let link = g.W.Link.Kms.link in
    let lent = g.W.World.lent in
    let took = g.W.World.took in
    let step = g.W.Link.Kms.step in
    heard_within link lent took step 0 {out = g.W.World.told c.find_rows.new.world}
    {mid = g.W.World.told c.read_by_links.new.world}
    (λ i. ((c.in-Ok-find_rows.ensures.links ∙ c.in-Ok.ensures.links) i).handed) refl [] [] _
    (heard_so link lent took step 0 [] [] _ _ c.read_by_links.ensures
    (λ es does a. configured words.config words.options
    (g.W.World.told c.args.world.now)
    (g.W.World.told c.linked_settings.new.world) (listed words) settings programs c.in-Ok.ensures.does a
    (goes_on (read_for words.store (live_on words.store)) (verifying_with programs rows)
    c.in-Ok-find_rows.rows.0
    (by_bytes (λ name. read_for name (live_on name)) c.as_str.ensures
    (c.in-Ok-find_rows.ensures.does a))
    (verified_by rows c.as_slice.ensures c.as_slice-2.ensures (does a)))))
