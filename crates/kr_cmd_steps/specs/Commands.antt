-- The page of the commands: each is a row of phases, put behind one another by `and_then`, which
-- goes on with what the phase before gave. Each phase stands in the file that its import names;
-- what a step is, and where it may end a command, in `Steps` and `Environment`.
use Rattle.std.specs.Prelude.{◌≡◌, ℕ, List, Ok}
use Rattle.kr_kms.specs.declared.world.Access.TheVariants.{ToRead, ToWrite}
use Rattle.kr_cmd_steps.specs.Check.{listing}
use Rattle.kr_cmd_steps.specs.Inspect.{Inspects}
use Rattle.kr_cmd_steps.specs.PlanLines.{ShowsPlan}
use Rattle.kr_cmd_steps.specs.Steps.{Steps, and_then}
use Rattle.kr_cmd_messages.specs.declared.command.Command.TheVariants.{Verify}
use Rattle.kr_cmd_messages.specs.declared.command.Command.{Command}
use Rattle.kr_cmd_messages.specs.declared.command.Command.TheVariants.{Convert, Check, Inspect, Put, Get, Migrate, Rows, Judge, Plan, Rewrite}
use Rattle.kr_cmd_messages.specs.declared.command.Conversion.{Conversion}
use Rattle.kr_cmd_messages.specs.declared.command.Lookup.{Lookup}
use Rattle.kr_cmd_messages.specs.declared.command.Verification.{Verification}
use Rattle.kr_cmd_messages.specs.declared.command.JudgeWords.{JudgeWords}
use Rattle.kr_cmd_messages.specs.declared.command.Migration.{Migration}
use Rattle.kr_cmd_messages.specs.declared.command.Planning.{Planning}
use Rattle.kr_cmd_messages.specs.declared.command.Rewriting.{Rewriting}
use Rattle.kr_cmd_messages.specs.declared.command.Direction.TheVariants.{Encrypt, Decrypt}
use Rattle.kr_cmd_messages.specs.declared.refusal.Object.TheVariants.{Store}
use Rattle.kr_cmd_messages.specs.declared.refusal.Outcome.{Outcome}
use Rattle.kr_cmd_steps.specs.Phases.{configuration, tape_for, read_for, settled_for, show, input_of, linking_programs}
use Rattle.kr_cmd_steps.specs.ValueSteps.{bench_steps}
use Rattle.kr_cmd_steps.specs.StoreSteps.{stored_into, row_on, live_on, verifying_with, source_on, migrating_into, listing_on, judging_on}
use Rattle.kr_cmd_steps.specs.RewriteSteps.{rewriting_on}

abbrev pub converting : Conversion → Steps Outcome
converting words =
    and_then (configuration words.config) (λ rows.
    and_then (linking_programs words.options rows) (λ programs.
    and_then (input_of words.direction) (λ bytes.
    bench_steps programs words.direction words.resource words.path rows bytes)))

abbrev pub putting : Conversion → (store : List ℕ) → Steps Outcome
putting words store =
    and_then (configuration words.config) (λ rows.
    and_then (linking_programs words.options rows) (λ programs.
    and_then (input_of Encrypt) (stored_into words store rows programs)))

-- the tape is back before the random source and the links are borrowed
abbrev pub getting : Lookup → Steps Outcome
getting words =
    and_then (configuration words.config) (λ rows.
    and_then (linking_programs words.options rows) (λ programs.
    and_then (read_for words.store (row_on words.store words.path)) (λ row.
    bench_steps programs Decrypt row.resource words.path rows row.stored)))

-- so it is here, and all live rows are found before the first value is read
abbrev pub verifying : Verification → Steps Outcome
verifying words =
    and_then (configuration words.config) (λ rows.
    and_then (linking_programs words.options rows) (λ programs.
    and_then (read_for words.store (live_on words.store)) (verifying_with programs rows)))

-- the target's tape is borrowed once the source was read
abbrev pub migrating : Migration → Steps Outcome
migrating words =
    and_then (configuration words.config) (λ rows.
    tape_for words.store ToRead
    (and_then (source_on words.store) (migrating_into words.to rows)))

abbrev pub judging : JudgeWords → Steps Outcome
judging words = tape_for words.store ToRead (judging_on words.store words.options)

abbrev pub planning : Planning → Steps Outcome
planning words =
    and_then (configuration words.from) (λ from.
    and_then (configuration words.to) (λ to. show (ShowsPlan words from to)))

abbrev pub rewriting : Rewriting → Steps Outcome
rewriting words =
    and_then (configuration words.config) (λ rows.
    and_then (linking_programs words.options rows) (λ programs.
    settled_for Store words.store ToWrite (rewriting_on words.store rows programs)))

abbrev pub steps : Command → Steps Outcome
steps (Convert words) = converting words
steps (Check config resource) =
    and_then (configuration config) (λ rows. show (λ shown. shown ≡ Ok (listing rows resource)))
steps (Put words store) = putting words store
steps (Get words) = getting words
steps (Verify words) = verifying words
steps (Migrate words) = migrating words
steps (Rows store) = tape_for store ToRead (listing_on store)
steps (Judge words) = judging words
steps (Plan words) = planning words
steps (Rewrite words) = rewriting words
steps Inspect = and_then (input_of Decrypt) (λ bytes. show (Inspects bytes))
