-- `put_on_tape`: the store is loaded, the data are sealed while its tape is out, and the row is added.
use Rattle.std.proofs.Common.{◌≤◌, ℕ, List, [], length, refl, sym, ◌∙◌, ap, subst}
use Rattle.std.specs.Option.{option_map}
use Rattle.std.specs.Prelude.{Some}
use Rattle.kr_base.specs.Limits.{path_limit}
use Rattle.kr_base.specs.Rules.{IsPath, IsResource}
use Rattle.kr_config.specs.Kept.{ConfigEntry, rows_of}
use Rattle.kr_config.specs.Lists.{list_of}
use Rattle.kr_kms.specs.Outside.{same_name}
use Rattle.kr_provider.specs.Readers.{writer_of}
use Rattle.kr_store.specs.Rows.{check_in, put_of}
use Rattle.kr_cmd_steps.specs.Environment.{with_exchanges, with_lent, with_world}
use Rattle.kr_opening.specs.Checks.{store_check}
use Rattle.kr_cmd_steps.specs.Phases.{adding, silently, stored_on}
use Rattle.kr_cmd_steps.specs.ValueSteps.{bench_steps}
use Rattle.kr_cmd_steps.specs.StoreSteps.{new_row, revision_line, sealed_into}
use Rattle.kr_cmd_steps.specs.Steps.{Steps, and_then, give}
use Rattle.kr_cmd_steps.specs.StoreFiles.{Stored}
use Rattle.kr_cmd_messages.specs.declared.command.Conversion.{Conversion}
use Rattle.kr_cmd_messages.specs.declared.command.Direction.TheVariants.{Encrypt}
use Rattle.kr_cmd_messages.specs.declared.refusal.Object.TheVariants.{Store}
use Rattle.kr_cmd_messages.specs.declared.refusal.Outcome.{Outcome}
use Rattle.kr_cmd_messages.specs.declared.refusal.Stop.TheVariants.{NoMemory}
use Rattle.kr_cmd_steps.specs.inner.Lent.{with_lent_tape}
use Rattle.kr_cmd_steps.specs.inner.Phases.{Does}
use Rattle.kr_cmd_steps.specs.inner.Tapes.{stored_of}
use Rattle.kr_cmd_steps.proofs.Adding.{put_answers}
use Rattle.kr_cmd_steps.proofs.Apart.{bench_by}
use Rattle.kr_cmd_steps.proofs.RunTo.{goes_on, stops}
use Rattle.kr_cmd_steps.proofs.Loading.{as_closed}
use Rattle.kr_cmd_steps.proofs.HeardLinks.{heard_nothing, heard_so}
use Rattle.kr_cmd_steps.proofs.Hearing.{none_heard}
use Rattle.kr_cmd_steps.proofs.Tapes.{behind_tape_to}
use Rattle.kr_cmd_steps.proofs.Works.{lacks}
use Rattle.kr_cmd_store.proofs.storing.put_on_tape.Goals as goal

abbrev added_then : Conversion → (name : List ℕ) → List ConfigEntry → Stored → Outcome → Steps Outcome
added_then words name rows read sealed =
    and_then (adding Store name read (new_row read.format words rows sealed.bytes))
    (λ grown. give (silently (revision_line grown)))

pub returns-in-Err-clause-made : goal.returns-in-Err-clause-made
returns-in-Err-clause-made g c =
    heard_nothing g.W.Link.Kms.link g.W.World.lent g.W.World.took g.W.Link.Kms.step 0 refl [] _
    (λ name a.
    none_heard (with_lent_tape name (g.W.Tap.Tape.told c.in-Err.tape)
    (g.W.Tap.Tape.count c.in-Err.tape) (with_world (g.W.World.told c.args.world.now) a))
    (stops (stored_on Store name) (sealed_into c.args.words.now name
    (rows_of c.args.settings.entries.0) c.args.programs.now c.args.bytes) c.in-Err.stop
    (c.in-Err.ensures.err name (with_world (g.W.World.told c.args.world.now) a))))

pub make-requires-clause-path : goal.make-requires-clause-path
make-requires-clause-path g c κs within =
    subst (λ p. length p ≤ path_limit) (sym c.as_str-3.ensures) c.requires.path.1

pub returns-in-Err-make-clause-made : goal.returns-in-Err-make-clause-made
returns-in-Err-make-clause-made g c =
    heard_so g.W.Link.Kms.link g.W.World.lent g.W.World.took g.W.Link.Kms.step 0 [] [] _ _
    c.in-Err-make.ensures.made
    (λ es does name a.
    let words = c.args.words.now in
    let rows = rows_of c.args.settings.entries.0 in
    let store = c.in-Ok.store in
    let read = stored_of store in
    let now = with_world (g.W.World.told c.args.world.now) a in
    let later = with_world (g.W.World.told c.make.new.world) (with_exchanges es a) in
    let into = sealed_into words name rows c.args.programs.now c.args.bytes in
    as_closed (and_then (stored_on Store name) into) name later _ c.close.ensures.told
    c.close.ensures.count
    (goes_on (stored_on Store name) into read (c.in-Ok.ensures.ok name now)
    (stops (bench_steps c.args.programs.now Encrypt words.resource words.path rows
    c.args.bytes) (added_then words name rows read) c.in-Err-make.stop
    (behind_tape_to name store.told store.count a (with_exchanges es a) c.make.ensures.tapes
    (bench_by Encrypt rows refl c.as_str-2.ensures c.as_str-3.ensures refl
    (does (with_lent same_name name (option_map Some store.told) store.count
    (g.W.World.told c.args.world.now).tapes) a))))))

pub returns-in-Err-next_line-clause-made : goal.returns-in-Err-next_line-clause-made
returns-in-Err-next_line-clause-made g c =
    heard_so g.W.Link.Kms.link g.W.World.lent g.W.World.took g.W.Link.Kms.step 0 [] [] _ _
    c.in-Ok-make.ensures.made
    (λ es does name a.
    let words = c.args.words.now in
    let rows = rows_of c.args.settings.entries.0 in
    let store = c.in-Ok.store in
    let read = stored_of store in
    let sealed = c.in-Ok-make.sealed in
    let now = with_world (g.W.World.told c.args.world.now) a in
    let later = with_world (g.W.World.told c.make.new.world) (with_exchanges es a) in
    let into = sealed_into words name rows c.args.programs.now c.args.bytes in
    as_closed (and_then (stored_on Store name) into) name later _ c.close-in-Err-next_line.ensures.told
    c.close-in-Err-next_line.ensures.count
    (goes_on (stored_on Store name) into read (c.in-Ok.ensures.ok name now)
    (goes_on (bench_steps c.args.programs.now Encrypt words.resource words.path rows
    c.args.bytes) (added_then words name rows read) sealed
    (behind_tape_to name store.told store.count a (with_exchanges es a) c.make.ensures.tapes
    (bench_by Encrypt rows refl c.as_str-2.ensures c.as_str-3.ensures refl
    (does (with_lent same_name name (option_map Some store.told) store.count
    (g.W.World.told c.args.world.now).tapes) a)))
    (stops (adding Store name read (new_row read.format words rows sealed.bytes))
    (λ grown. give (silently (revision_line grown))) NoMemory
    (lacks _ (with_lent_tape name store.told store.count later))))))

pub add_put-added-requires-clause-stored : goal.add_put-added-requires-clause-stored
add_put-added-requires-clause-stored g c = c.in-Ok-make.ensures.size refl

pub add_put-added-requires-clause-within : goal.add_put-added-requires-clause-within
add_put-added-requires-clause-within g c = c.in-Ok.ensures.limit.0

pub add_put-added-requires-clause-path : goal.add_put-added-requires-clause-path
add_put-added-requires-clause-path g c =
    subst IsPath (sym c.as_str-4.ensures) c.requires.path

pub add_put-added-requires-clause-resource : goal.add_put-added-requires-clause-resource
add_put-added-requires-clause-resource g c =
    subst IsResource (sym c.as_str-5.ensures) c.requires.resource

pub returns-clause-made : goal.returns-clause-made
returns-clause-made g c =
    heard_so g.W.Link.Kms.link g.W.World.lent g.W.World.took g.W.Link.Kms.step 0 [] [] _ _
    c.in-Ok-make.ensures.made
    (λ es does name a.
    let words = c.args.words.now in
    let rows = rows_of c.args.settings.entries.0 in
    let store = c.in-Ok.store in
    let read = stored_of store in
    let sealed = c.in-Ok-make.sealed in
    let now = with_world (g.W.World.told c.args.world.now) a in
    let later = with_world (g.W.World.told c.make.new.world) (with_exchanges es a) in
    let into = sealed_into words name rows c.args.programs.now c.args.bytes in
    let row = new_row read.format words rows sealed.bytes in
    let check_is = c.writer_check-check.ensures ∙ ap (λ list. store_check (writer_of list))
    (c.resource_list.ensures ∙ ap (list_of rows) c.as_str.ensures) in
    as_closed (and_then (stored_on Store name) into) name later _ c.close-2.ensures.told
    c.close-2.ensures.count
    (goes_on (stored_on Store name) into read (c.in-Ok.ensures.ok name now)
    (goes_on (bench_steps c.args.programs.now Encrypt words.resource words.path rows
    c.args.bytes) (added_then words name rows read) sealed
    (behind_tape_to name store.told store.count a (with_exchanges es a) c.make.ensures.tapes
    (bench_by Encrypt rows refl c.as_str-2.ensures c.as_str-3.ensures refl
    (does (with_lent same_name name (option_map Some store.told) store.count
    (g.W.World.told c.args.world.now).tapes) a)))
    (subst (λ r. Does (added_then words name rows read sealed)
    (with_lent_tape name store.told store.count later)
    (with_lent_tape name c.add_put-added.new.store.told c.add_put-added.new.store.count later) r)
    (sym c.answer_once_added.ensures)
    (put_answers Store name read row _ c.add_put-added.result c.in-Ok-next_line.line
    (λ i. put_of (c.as_str-4.ensures i) (c.as_str-5.ensures i) sealed.bytes
    (check_in read.format (check_is i)))
    (c.in-Ok-next_line.ensures row)
    (c.add_put-added.ensures.does name later))))))
