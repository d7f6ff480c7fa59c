-- The steps over a store, each command's behind the others'.
use Rattle.std.specs.Prelude.{ℕ, List, [], ◌∷◌, ◌++◌, map, Option, Some, None, Result, Ok, Err, length, codes, decimal}
use Rattle.kr_config.specs.Kept.{ConfigEntry}
use Rattle.kr_config.specs.Lists.{list_of}
use Rattle.kr_config.specs.declared.who.Who.{Who}
use Rattle.kr_kms.specs.Cache.{CacheState}
use Rattle.kr_kms.specs.declared.world.Access.TheVariants.{ToMake}
use Rattle.kr_provider.specs.PluginOrder.{plugin_order}
use Rattle.kr_provider.specs.Publication.{Publication}
use Rattle.kr_provider.specs.Readers.{reader_in, writer_of}
use Rattle.kr_opening.specs.Checks.{store_check}
use Rattle.kr_store.specs.Rows.{check_in, live, put_of}
use Rattle.kr_store.specs.Stores.{IsListing}
use Rattle.kr_store.specs.declared.format.Check as kept
use Rattle.kr_store.specs.declared.format.Format.{Format}
use Rattle.kr_store.specs.declared.rows.Change.{Change}
use Rattle.kr_store.specs.declared.rows.Change.TheVariants as change
use Rattle.kr_store.specs.declared.rows.LogRow.{LogRow}
use Rattle.kr_store.specs.declared.rows.Row as stored
use Rattle.kr_judge.specs.declared.verdict.Verdict.{Verdict}
use Rattle.kr_cmd_messages.specs.Command.{replica_names, reload_in, reload_number, reload_file}
use Rattle.kr_cmd_steps.specs.Judgements.{IsJudged, verdict_outcome}
use Rattle.kr_cmd_steps.specs.RowFindings.{finding_of, findings_outcome}
use Rattle.kr_cmd_steps.specs.RowLines.{ShowsRows}
use Rattle.kr_cmd_steps.specs.declared.finding.Finding.{Finding}
use Rattle.kr_cmd_steps.specs.StoreFiles.{Stored, IsSource, IsTarget, none_there}
use Rattle.kr_cmd_steps.specs.Steps.{Steps, borrow_dice, read_tape, find, give, and_then}
use Rattle.kr_cmd_steps.specs.Plugins.{borrow_links, make_seeds}
use Rattle.kr_cmd_messages.specs.declared.command.Conversion.{Conversion}
use Rattle.kr_cmd_messages.specs.declared.command.Direction.TheVariants.{Encrypt}
use Rattle.kr_cmd_messages.specs.declared.refusal.Object.TheVariants.{Store, Target}
use Rattle.kr_cmd_steps.specs.declared.programs.Program.{Program}
use Rattle.kr_cmd_messages.specs.declared.refusal.Refusal.{Refusal}
use Rattle.kr_cmd_messages.specs.declared.refusal.Refusal.TheVariants.{NoPath}
use Rattle.kr_cmd_messages.specs.declared.refusal.Outcome.{Outcome}
use Rattle.kr_cmd_steps.specs.Phases.{by_result, configuration, stored_on, settled_for, with_memory, silently, show, adding}
use Rattle.kr_cmd_steps.specs.ValueSteps.{none_kept, value_read, bench_steps}

-- the row of a value, with the check of its writer where the format keeps one
abbrev pub new_row : Format → Conversion → List ConfigEntry → (value : List ℕ) → LogRow
new_row format words rows value = put_of words.path words.resource value
    (check_in format (store_check (writer_of (list_of rows words.resource))))

-- how many rows the store has now, which is the revision of the last
abbrev pub revision_line : Stored → List ℕ
revision_line store = codes "revision " ++ (decimal (length store.rows) ++ codes "\n")

-- the data are sealed, and the value is put behind the rows of the store
abbrev pub sealed_into : Conversion → (store : List ℕ) → List ConfigEntry → List Program
    → (bytes : List ℕ) → Stored → Steps Outcome
sealed_into words store rows programs bytes read =
    and_then (bench_steps programs Encrypt words.resource words.path rows bytes) (λ sealed.
    and_then (adding Store store read (new_row read.format words rows sealed.bytes)) (λ grown.
    give (silently (revision_line grown))))

-- the store's tape is out from before the sealing until the row is written and settled
abbrev pub stored_into : Conversion → (store : List ℕ) → List ConfigEntry → List Program
    → (bytes : List ℕ)
    → Steps Outcome
stored_into words store rows programs bytes = settled_for Store store ToMake
    (and_then (stored_on Store store) (sealed_into words store rows programs bytes))

-- the row, where the path has one
abbrev pub row_found : (path : List ℕ) → Option stored.Row → Result stored.Row Refusal
row_found path None = Err (NoPath path)
row_found path (Some row) = Ok row

-- the live row of the path in the store on a tape that is lent
abbrev pub row_on : (store path : List ℕ) → Steps stored.Row
row_on store path = and_then (stored_on Store store)
    (λ read. with_memory (by_result (row_found path (live read.rows path))))

-- the live rows of the store on a tape that is lent, by their paths
abbrev pub live_on : (store : List ℕ) → Steps (List stored.Row)
live_on store = and_then (stored_on Store store)
    (λ read. find (List stored.Row) (IsListing read.rows) give)

-- what the row's value is found to be, read as `get` reads it, with the seeds that are kept
abbrev pub row_finding : Publication → stored.Row → CacheState → Steps (Finding × CacheState)
row_finding p row kept =
    and_then (value_read p.seeds (list_of p.rows row.resource) row.path row.stored kept)
    (λ read. give (finding_of read.0, read.1))

-- one row behind another, where there is memory for what was found
abbrev pub row_findings : Publication → List stored.Row → CacheState → Steps (List Finding)
row_findings p [] kept = give []
row_findings p (row ∷ rows) kept = and_then (row_finding p row kept) (λ found. with_memory
    (and_then (row_findings p rows found.1) (λ findings. give (found.0 ∷ findings))))

-- what is found of all rows is told
abbrev pub telling_findings : List stored.Row → List Finding → Steps Outcome
telling_findings live findings = with_memory (give (findings_outcome live findings))

abbrev pub verifying_by : List ConfigEntry → (live : List stored.Row) → Steps Outcome
verifying_by rows live = with_memory
    (and_then (make_seeds (plugin_order rows)) (λ seeds.
    and_then (row_findings (record { rows = rows; seeds = seeds }) live none_kept)
    (telling_findings live)))

abbrev pub verifying_with : List Program → List ConfigEntry → (live : List stored.Row)
    → Steps Outcome
verifying_with programs rows live = borrow_dice 0 (borrow_links programs (verifying_by rows live))

-- the check of the provider that reads a value; zeros where none does
abbrev pub reader_check : Option Who → kept.Check
reader_check None = record { value = 0 }
reader_check (Some who) = store_check who

-- a row as the second format has it: a put has the check of its value's reader
abbrev pub migrated_change : List ConfigEntry → Change → Change
migrated_change rows (change.Put resource value check) = change.Put resource value
    (Some (reader_check (reader_in (list_of rows resource) value)))
migrated_change rows change.Delete = change.Delete

abbrev pub migrated_row : List ConfigEntry → LogRow → LogRow
migrated_row rows row = record { path = row.path; change = migrated_change rows row.change }

-- the store that is migrated, on a tape that is lent
abbrev pub source_on : (name : List ℕ) → Steps Stored
source_on name =
    read_tape Store name (λ bytes. find (Result Stored Refusal) (IsSource bytes) by_result)

-- the store that is written, on a tape that is lent: its length is asked, then it is read
abbrev pub target_read : (name : List ℕ) → Steps Stored
target_read name =
    read_tape Target name (λ bytes. find (Result Stored Refusal) (IsTarget bytes) by_result)

abbrev pub target_on : (name : List ℕ) → Steps Stored
target_on name = read_tape Target name
    (λ bytes. and_then (by_result (none_there bytes)) (λ u. target_read name))

-- these rows behind those of the store, one by one
abbrev pub copying : (name : List ℕ) → Stored → List LogRow → Steps Stored
copying name store [] = give store
copying name store (row ∷ rows) =
    and_then (adding Target name store row) (λ grown. copying name grown rows)

abbrev pub migrated_line : List LogRow → List ℕ
migrated_line rows = codes "migrated " ++ (decimal (length rows) ++ codes "\n")

-- the rows of the source are copied; what is then written is made before
abbrev pub copied_into : (to : List ℕ) → List ConfigEntry → (source target : Stored) → Steps Outcome
copied_into to rows source target =
    with_memory (and_then (copying to target (map (migrated_row rows) source.rows))
    (λ copied. give (silently (migrated_line source.rows))))

-- the target's tape, which is made where it is absent, once the source was read
abbrev pub migrating_into : (to : List ℕ) → List ConfigEntry → (source : Stored) → Steps Outcome
migrating_into to rows source =
    settled_for Target to ToMake (and_then (target_on to) (copied_into to rows source))

abbrev pub listing_on : List ℕ → Steps Outcome
listing_on name = and_then (stored_on Store name) (λ stored. show (ShowsRows stored.rows))

-- ---- judge

-- the configurations in files, one behind another; each is that of a replica that is in
abbrev pub configurations : (read : List (Option (List ConfigEntry))) → (names : List (List ℕ))
    → Steps (List (Option (List ConfigEntry)))
configurations read [] = with_memory (give read)
configurations read (name ∷ names) = and_then (configuration name)
    (λ rows. configurations (read ++ Some rows ∷ []) names)

abbrev pub judgement_on : List LogRow → (replicas : List (Option (List ConfigEntry)))
    → (replica : ℕ)
    → List ConfigEntry → Steps Verdict
judgement_on stored replicas replica rows =
    find (Result Verdict Refusal) (IsJudged stored replicas replica rows) by_result

abbrev pub telling : Verdict → Steps Outcome
telling verdict = with_memory (give (verdict_outcome verdict))

-- what is written of the verdict on the replica's new configuration
abbrev pub judging_at : List LogRow → (replicas : List (Option (List ConfigEntry))) → (replica : ℕ)
    → List ConfigEntry → Steps Outcome
judging_at stored replicas replica rows =
    and_then (judgement_on stored replicas replica rows) telling

abbrev pub judging_by : (options : List (List ℕ × List ℕ)) → List LogRow → Steps Outcome
judging_by options stored =
    and_then (configurations [] (replica_names options)) (λ replicas.
    and_then (configuration (reload_file (reload_in options)))
    (judging_at stored replicas (reload_number (reload_in options))))

abbrev pub judging_on : (name : List ℕ) → (options : List (List ℕ × List ℕ)) → Steps Outcome
judging_on name options =
    and_then (stored_on Store name) (λ stored. judging_by options stored.rows)
