-- `migrate`: each phase goes on from the one before, and the source's tape comes back.
use Rattle.std.proofs.Common.{◌≡◌, ◌<◌, ◌∙◌, ℕ, List, false, sym, subst}
use Rattle.kr_config.specs.Kept.{ConfigEntry, rows_of}
use Rattle.kr_kms.specs.Outside.{same_name}
use Rattle.kr_kms.specs.declared.world.Access.TheVariants.{ToRead}
use Rattle.kr_cmd_steps.specs.Phases.{configuration, tape_for}
use Rattle.kr_cmd_steps.specs.StoreSteps.{migrating_into, source_on}
use Rattle.kr_cmd_steps.specs.Steps.{Steps, and_then}
use Rattle.kr_cmd_messages.specs.declared.command.Migration.{Migration}
use Rattle.kr_cmd_messages.specs.declared.refusal.Outcome.{Outcome}
use Rattle.kr_cmd_steps.proofs.RunTo.{goes_on, stops, by_bytes}
use Rattle.kr_cmd_steps.proofs.Tapes.{not_lent, lends_tape, is_out}
use Rattle.kr_cmd_store.proofs.migration.migrate.Goals as goal

abbrev on_tape : (to : List ℕ) → List ConfigEntry → (name : List ℕ) → Steps Outcome
on_tape to rows name = tape_for name ToRead (and_then (source_on name) (migrating_into to rows))

abbrev loaded : Migration → List ConfigEntry → Steps Outcome
loaded words rows = on_tape words.to rows words.store

pub returns-in-Err-clause-links : goal.returns-in-Err-clause-links
returns-in-Err-clause-links g c = c.in-Err.ensures.links

pub returns-in-Err-clause-does : goal.returns-in-Err-clause-does
returns-in-Err-clause-does g c a = let words = c.args.words.now in
    stops (configuration words.config) (loaded words) c.in-Err.stop
    (by_bytes configuration c.as_str.ensures (c.in-Err.ensures.does a))

pub returns-in-Err-open_tape-clause-links : goal.returns-in-Err-open_tape-clause-links
returns-in-Err-open_tape-clause-links g c =
    c.in-Err-open_tape.ensures.objects.links ∙ c.in-Ok.ensures.links

pub returns-in-Err-open_tape-clause-does : goal.returns-in-Err-open_tape-clause-does
returns-in-Err-open_tape-clause-does g c a =
    let words = c.args.words.now in
    let rows = rows_of c.in-Ok.settings.entries.0 in
    goes_on (configuration words.config) (loaded words) rows
    (by_bytes configuration c.as_str.ensures (c.in-Ok.ensures.does a))
    (by_bytes (on_tape words.to rows) c.as_str-name.ensures
    (not_lent c.in-Err-open_tape.ensures.files c.in-Err-open_tape.ensures.objects a
    c.as_str-name.result.now ToRead c.in-Err-open_tape.stop c.in-Err-open_tape.ensures.why
    c.in-Err-open_tape.ensures.asked))

pub close_tape-requires-clause-out : goal.close_tape-requires-clause-out
close_tape-requires-clause-out g c = λ κs lives. let name = c.as_str-name.result.now in
    subst (λ n. 0 < n) (sym (c.migrate_tape-made.ensures.out name))
    (is_out name c.in-Ok-open_tape.ensures.lent)

pub returns-clause-links : goal.returns-clause-links
returns-clause-links g c = c.close_tape.ensures.links ∙ c.migrate_tape-made.ensures.links
    ∙ c.in-Ok-open_tape.ensures.lent.links ∙ c.in-Ok.ensures.links

pub returns-clause-does : goal.returns-clause-does
returns-clause-does g c a =
    let words = c.args.words.now in
    let rows = rows_of c.in-Ok.settings.entries.0 in
    let name = c.as_str-name.result.now in
    goes_on (configuration words.config) (loaded words) rows
    (by_bytes configuration c.as_str.ensures (c.in-Ok.ensures.does a))
    (by_bytes (on_tape words.to rows) c.as_str-name.ensures
    (lends_tape name ToRead a c.in-Ok-open_tape.ensures.lent c.close_tape.ensures
    (c.migrate_tape-made.ensures.made name a
    (subst (λ n. same_name n words.to ≡ false) (sym c.as_str-name.ensures) c.requires.apart))))
