-- What each command asks plugins.
use Rattle.std.proofs.Common.{◌≡◌, ℕ, zero, suc, List, [], ◌∷◌, ◌++◌, All, Bool, false, true, map, Contains, Option, None, Some, Result, Ok, Err, ◌∙◌, ap, append-nil, arith, inl, inr, refl, subst, sym}
use Rattle.std.specs.Io.KnownBytes.{Consumes, IsAtEnd}
use Rattle.std.proofs.lemmas.List.Elements.{All-nil}
use Rattle.kr_base.specs.Limits.{data_limit}
use Rattle.kr_base.specs.Told.{Agrees}
use Rattle.std.specs.Prelude.{length, nat_lt}
use Rattle.kr_config.specs.Kept.{ConfigEntry}
use Rattle.kr_config.specs.Lists.{list_of}
use Rattle.kr_config.specs.declared.who.Who.{Who}
use Rattle.kr_config.specs.declared.who.Who.TheVariants.{Kms}
use Rattle.kr_envelope.specs.declared.object.EncryptedObject.{EncryptedObject}
use Rattle.kr_envelope.specs.declared.object.ObjectNo.{ObjectNo}
use Rattle.kr_kms.specs.Cache.{CacheState, seed_at, with_used}
use Rattle.kr_kms.specs.Exchanges.{Exchange, UnwrapCall}
use Rattle.kr_kms.specs.Health.{breach_in}
use Rattle.kr_kms.specs.declared.health.Field.{Field}
use Rattle.kr_kms.specs.declared.plugin.KmsNo.{KmsNo}
use Rattle.kr_kms.specs.declared.seeds.SeedKey.{SeedKey}
use Rattle.kr_kms.specs.declared.seeds.SeedRow.{SeedRow}
use Rattle.kr_kms.specs.declared.world.Access.TheVariants.{ToMake, ToRead, ToWrite}
use Rattle.kr_kms.specs.declared.world.WorldCall.TheVariants.{Tape, Returned}
use Rattle.kr_provider.specs.Envelopes.{HasObject, seed_key, Envelope}
use Rattle.kr_provider.specs.PluginOrder.{plugin_order}
use Rattle.kr_provider.specs.Publication.{Publication, seed_of}
use Rattle.kr_provider.specs.Reading.{Reading, data_of, refused, unopened, value_reading, is_stale}
use Rattle.kr_provider.specs.Readers.{reader_in, writer_of}
use Rattle.kr_provider.specs.Sealing.{draw_size, sealed_by}
use Rattle.kr_provider.specs.declared.refusal.Opened.{Opened}
use Rattle.kr_provider.specs.declared.refusal.ValueNo.{ValueNo}
use Rattle.kr_store.specs.Rows.{live}
use Rattle.kr_store.specs.Stores.{IsListing}
use Rattle.kr_store.specs.declared.rows.LogRow.{LogRow}
use Rattle.kr_store.specs.declared.rows.Row as stored
use Rattle.kr_cmd_messages.proofs.OneCommand.{one_command}
use Rattle.kr_cmd_messages.specs.Receipts.{Receipt}
use Rattle.kr_cmd_messages.specs.declared.refusal.Done.{Done}
use Rattle.kr_cmd_messages.specs.declared.refusal.Stop.{Stop}
use Rattle.kr_cmd_messages.specs.declared.refusal.Stop.TheVariants.{Fault, NoMemory, Refused, Words}
use Rattle.kr_cmd_messages.specs.Command.{Asks}
use Rattle.kr_cmd_messages.specs.declared.command.Command.{Command}
use Rattle.kr_cmd_messages.specs.declared.command.Command.TheVariants.{Convert, Put, Get, Verify, Migrate, Rewrite}
use Rattle.kr_cmd_messages.specs.declared.command.Conversion.{Conversion}
use Rattle.kr_cmd_messages.specs.declared.command.Direction.{Direction}
use Rattle.kr_cmd_messages.specs.declared.command.Direction.TheVariants.{Encrypt, Decrypt}
use Rattle.kr_cmd_messages.specs.declared.command.Lookup.{Lookup}
use Rattle.kr_cmd_messages.specs.declared.command.Migration.{Migration}
use Rattle.kr_cmd_messages.specs.declared.command.Rewriting.{Rewriting}
use Rattle.kr_cmd_messages.specs.declared.command.Verification.{Verification}
use Rattle.kr_cmd_messages.specs.declared.refusal.Object.{Object}
use Rattle.kr_cmd_messages.specs.declared.refusal.Object.TheVariants.{Store, Target}
use Rattle.kr_cmd_messages.specs.declared.refusal.Outcome.{Outcome}
use Rattle.kr_cmd_messages.specs.declared.refusal.Refusal.{Refusal}
use Rattle.kr_cmd_steps.specs.Environment.{Environment, step_state, with_what_is_said}
use Rattle.kr_cmd_steps.specs.Phases.{adding, by_result, configuration, input_of, linking_programs, settled_for, silently, stored_on, tape_for, with_memory, within_limit, read_for}
use Rattle.kr_cmd_steps.specs.ValueSteps.{bench_steps, data_steps, draw_some, opening, published_source, reading_given, source_steps, value_read, value_sealed, value_steps, value_with, working, working_by, fetching, none_kept}
use Rattle.kr_cmd_steps.specs.StoreSteps.{copied_into, copying, live_on, migrated_line, migrated_row, migrating_into, new_row, revision_line, row_finding, row_findings, row_found, row_on, sealed_into, source_on, stored_into, target_on, target_read, telling_findings, verifying_by, verifying_with}
use Rattle.kr_cmd_steps.specs.Commands.{steps}
use Rattle.kr_cmd_steps.specs.RewriteSteps.{Progress, driving, nothing_done, one_rewritten, replacing, resealing, rewriting_by, rewriting_live, rewriting_on, row_anew, row_by, row_data, row_steps, starting, within_journal}
use Rattle.kr_cmd_steps.specs.Plugins.{borrow_links, make_seed, make_seeds, settings_programs, unless_breach, wrap_seed}
use Rattle.kr_cmd_steps.specs.RowFindings.{finding_of}
use Rattle.kr_cmd_steps.specs.Ran.{Answers, Closes, EndsAll, ReachesEnd}
use Rattle.kr_cmd_steps.specs.Steps.{Steps, borrow_dice, settle, find, give, and_then, with_asked, with_tape, StepState, RunTo, Point, amid, awaits, gives, refuses, give_back}
use Rattle.kr_cmd_steps.specs.StoreFiles.{IsStored, Stored, none_there, with_row}
use Rattle.kr_cmd_steps.specs.declared.programs.Program.{Program}
use Rattle.kr_cmd_laws.specs.VerifyLaws.{AreLive}
use Rattle.kr_cmd_laws.specs.PluginLaws.{IsInput, IsLiveOf, IsQuestion, IsStoredValue, PluginsSee, Sees, verified_as}
use Rattle.kr_cmd_laws.specs.FleetPlugins.{AllHeard}
use Rattle.kr_cmd_laws.proofs.OnlyAsks.{plain_asks, OnlyAsks, only_asked, only_then}
use Rattle.kr_cmd_laws.proofs.Plain.{plain}

-- ---- phases that ask nothing

module _ (P : Exchange → Type 0) where
  pub results_only : {A B : Type 0} (r : Result A Refusal) (others : A → Steps B) (left : StepState)
      → ((x : A) → OnlyAsks P (others x) left) → OnlyAsks P (and_then (by_result r) others) left
  results_only (Ok x) others left o = o x
  results_only (Err why) others left o = tt

  result_only : {A : Type 0} (r : Result A Refusal) (left : StepState) → OnlyAsks P (by_result r) left
  result_only (Ok x) left = tt
  result_only (Err why) left = tt

  configured : {B : Type 0} (name : List ℕ) (others : List ConfigEntry → Steps B) (left : StepState)
      → ((rows : List ConfigEntry) (l : StepState) → l.input ≡ left.input → l.tapes ≡ left.tapes
      → OnlyAsks P (others rows) l) → OnlyAsks P (and_then (configuration name) others) left
  configured name others left o = λ bytes r is. results_only r others _
      (λ rows. o rows _ refl refl)

  linked : {B : Type 0} (options : List (List ℕ × List ℕ)) (rows : List ConfigEntry)
      (others : List Program → Steps B) (left : StepState)
      → ((programs : List Program) → OnlyAsks P (others programs) left)
      → OnlyAsks P (and_then (linking_programs options rows) others) left
  linked options rows others left o = λ u v.
      results_only (settings_programs options (plugin_order rows)) others left o

  links_only : {A : Type 0} (programs : List Program) (next : Steps A)
      → ((l : StepState) → OnlyAsks P next l) → (left : StepState)
      → OnlyAsks P (borrow_links programs next) left
  links_only [] next o left = o left
  links_only (program ∷ programs) next o left = links_only programs next o _

  draws_only : {A : Type 0} (size : ℕ) (next : List ℕ → Steps A)
      → ((drawn : List ℕ) (l : StepState) → OnlyAsks P (next drawn) l) → (left : StepState)
      → OnlyAsks P (draw_some size next) left
  draws_only zero next o left = o [] left
  draws_only (suc more) next o left = λ bytes rest fits. o bytes _

  shown_only : (value : Option (List ℕ)) (left : StepState) → OnlyAsks P (value_steps value) left
  shown_only None left = tt
  shown_only (Some value) left = tt

  data_only : (read : Result Opened ValueNo) (left : StepState) → OnlyAsks P (data_steps read) left
  data_only (Ok opened) left = tt
  data_only (Err why) left = tt

  given_only : (reading : Reading) (stale : Bool) (left : StepState)
      → OnlyAsks P (reading_given reading stale) left
  given_only (data_of plain) stale left = tt
  given_only (refused why) stale left = tt
  given_only unopened stale left = λ none u. absurd none

  stored_only : {B : Type 0} (object : Object) (name : List ℕ) (others : Stored → Steps B)
      → ((held : Stored) (l : StepState) → OnlyAsks P (others held) l) → (left : StepState)
      → OnlyAsks P (and_then (stored_on object name) others) left
  stored_only object name others o left = λ bytes agrees r is.
      results_only r others left (λ held. o held left)

  adding_only : {B : Type 0} (object : Object) (name : List ℕ) (store : Stored) (row : LogRow)
      (others : Stored → Steps B) → ((grown : Stored) (l : StepState) → OnlyAsks P (others grown) l)
      → (left : StepState) → OnlyAsks P (and_then (adding object name store row) others) left
  adding_only object name store row others o left = only_then P others o
      (adding object name store row) left (λ u v. results_only (within_limit (with_row row store)) _
      left (λ grown told. tt))

  copying_only : (name : List ℕ) (store : Stored) (rows : List LogRow) (left : StepState)
      → OnlyAsks P (copying name store rows) left
  copying_only name store [] left = tt
  copying_only name store (row ∷ rows) left = adding_only Target name store row
      (λ grown. copying name grown rows) (λ grown l. copying_only name grown rows l) left

  copied_only : (to : List ℕ) (rows : List ConfigEntry) (source target : Stored) (left : StepState)
      → OnlyAsks P (copied_into to rows source target) left
  copied_only to rows source target left = λ u v.
      only_then P (λ copied. give (silently (migrated_line source.rows))) (λ copied l. tt)
      (copying to target (map (migrated_row rows) source.rows)) left
      (copying_only to target (map (migrated_row rows) source.rows) left)

  target_only : (name : List ℕ) (left : StepState) → OnlyAsks P (target_on name) left
  target_only name left = λ bytes agrees. results_only (none_there bytes) (λ u. target_read name)
      left (λ u more also r is. result_only r left)

  into_only : (to : List ℕ) (rows : List ConfigEntry) (source : Stored) (left : StepState)
      → OnlyAsks P (migrating_into to rows source) left
  into_only to rows source left =
      let out : StepState = with_tape true to (with_asked (Tape to ToMake) left) in
      only_then P (λ (made : Outcome). settle Target to (give made))
      (λ made l. tt) (and_then (target_on to) (copied_into to rows source)) out
      (only_then P (copied_into to rows source) (copied_only to rows source) (target_on to) out
      (target_only to out))

  migrating_only : (words : Migration) (left : StepState)
      → OnlyAsks P (steps (Migrate words)) left
  migrating_only words left = configured words.config
      (λ rows. tape_for words.store ToRead
      (and_then (source_on words.store) (migrating_into words.to rows))) left
      (λ rows l i t. λ bytes agrees r is. results_only r (migrating_into words.to rows)
      (with_tape false words.store (with_asked (Tape words.store ToRead) l))
      (λ source. into_only words.to rows source
      (with_tape false words.store (with_asked (Tape words.store ToRead) l))))

-- ---- seeds and values

module _ (IsHeld : List ℕ → Type 0) where
  -- what may be asked
  abbrev P : Exchange → Type 0
  P = IsQuestion IsHeld

  seed_only : (plugin : List ℕ) (breach : Option (Field × List ℕ)) (left : StepState)
      → OnlyAsks P (unless_breach plugin breach (wrap_seed plugin)) left
  seed_only plugin None left = λ bytes rest fits. (λ answer. fits, λ wrapped h. tt)
  seed_only plugin (Some breach) left = tt

  pub seeds_only : (plugins : List (List ℕ)) (left : StepState) → OnlyAsks P (make_seeds plugins) left
  seeds_only [] left = tt
  seeds_only (plugin ∷ plugins) left = only_then P
      (λ row. and_then (make_seeds plugins) (λ rows. give (row ∷ rows)))
      (λ row l. only_then P (λ rows. give (row ∷ rows)) (λ rows m. tt) (make_seeds plugins) l
      (seeds_only plugins l)) (make_seed plugin) left
      (λ answer. tt, λ status h. seed_only plugin (breach_in status) _)

  sealed_only : (seeds : List SeedRow) (who : Who) (path plain : List ℕ) (left : StepState)
      → OnlyAsks P (value_sealed seeds who path plain) left
  sealed_only seeds who path plain left = λ u v. draws_only P (draw_size who)
      (λ drawn. give (sealed_by seeds who path plain drawn)) (λ drawn l. tt) left

  fetched_only : {A : Type 0} (seed : Option (List ℕ)) (kept : CacheState) (key : SeedKey)
      (next : Option (List ℕ) → CacheState → Steps A) (left : StepState)
      → ((answer : Result (List ℕ) KmsNo) → P (UnwrapCall key answer))
      → ((o : Option (List ℕ)) (after : CacheState) (l : StepState) → OnlyAsks P (next o after) l)
      → OnlyAsks P (fetching seed kept key next) left
  fetched_only (Some seed) kept key next left asks o = o (Some seed) (with_used kept key) left
  fetched_only None kept key next left asks o =
      (asks, λ bytes h. λ after keeps. o (Some bytes) after _)

  source_only : {A : Type 0} (source : Option (List ℕ)) (kept : CacheState) (key : SeedKey)
      (next : Option (List ℕ) → CacheState → Steps A) (left : StepState)
      → ((answer : Result (List ℕ) KmsNo) → P (UnwrapCall key answer))
      → ((o : Option (List ℕ)) (after : CacheState) (l : StepState) → OnlyAsks P (next o after) l)
      → OnlyAsks P (source_steps source kept key next) left
  source_only (Some seed) kept key next left asks o = o (Some seed) kept left
  source_only None kept key next left asks o =
      fetched_only (seed_at kept.rows key) kept key next left asks o

  opened_only : {A : Type 0} (seeds : List SeedRow) (reader : Option Who) (bytes : List ℕ)
      (object : Result EncryptedObject ObjectNo) (kept : CacheState)
      (next : Option (List ℕ) → CacheState → Steps A) (left : StepState)
      → IsHeld bytes → HasObject reader bytes object
      → ((o : Option (List ℕ)) (after : CacheState) (l : StepState) → OnlyAsks P (next o after) l)
      → OnlyAsks P (opening seeds reader object kept next) left
  opened_only seeds (Some (Kms name)) bytes (Ok object) kept next left held has o =
      source_only (published_source (seed_of name seeds) (seed_key name object)) kept
      (seed_key name object) next left (λ answer. (bytes, name, object, held, has, refl)) o
  opened_only seeds other bytes object kept next left held has o = o None kept left

  with_only : (seeds : List SeedRow) (list : List Who) (path bytes : List ℕ)
      (object : Result EncryptedObject ObjectNo) (source : Option (List ℕ)) (kept : CacheState)
      (left : StepState) → OnlyAsks P (value_with seeds list path bytes object source kept) left
  with_only seeds list path bytes object source kept left =
      let envelope : Envelope = record { object = object; source = source } in
      only_then P (λ read. give (read, kept)) (λ read l. tt)
      (reading_given (value_reading envelope list path bytes) (is_stale envelope seeds list bytes))
      left (given_only P (value_reading envelope list path bytes)
      (is_stale envelope seeds list bytes) left)

  pub value_only : (seeds : List SeedRow) (list : List Who) (path bytes : List ℕ) (kept : CacheState)
      (left : StepState) → IsHeld bytes → OnlyAsks P (value_read seeds list path bytes kept) left
  value_only seeds list path bytes kept left held = λ object has.
      opened_only seeds (reader_in list bytes) bytes object kept
      (value_with seeds list path bytes object) left held has
      (with_only seeds list path bytes object)

  work_only : (direction : Direction) (resource path : List ℕ) (rows : List ConfigEntry) (bytes : List ℕ)
      (seeds : List SeedRow) (left : StepState) → (direction ≡ Decrypt → IsHeld bytes)
      → OnlyAsks P (working_by direction resource path rows bytes seeds) left
  work_only Encrypt resource path rows bytes seeds left held =
      let writer = writer_of (list_of rows resource) in
      only_then P value_steps (shown_only P) (value_sealed seeds writer path bytes) left
      (sealed_only seeds writer path bytes left)
  work_only Decrypt resource path rows bytes seeds left held =
      let list = list_of rows resource in
      only_then P (λ read. data_steps read.0) (λ read. data_only P read.0)
      (value_read seeds list path bytes none_kept) left
      (value_only seeds list path bytes none_kept left (held refl))

  bench_only : (programs : List Program) (direction : Direction) (resource path : List ℕ)
      (rows : List ConfigEntry) (bytes : List ℕ) (left : StepState) → (direction ≡ Decrypt → IsHeld bytes)
      → OnlyAsks P (bench_steps programs direction resource path rows bytes) left
  bench_only programs direction resource path rows bytes left held =
      links_only P programs (working direction resource path rows bytes)
      (λ l u v. only_then P (working_by direction resource path rows bytes)
      (λ seeds m. work_only direction resource path rows bytes seeds m held)
      (make_seeds (plugin_order rows)) l (seeds_only (plugin_order rows) l)) _

  findings_only : (p : Publication) (rows : List stored.Row) (kept : CacheState) (left : StepState)
      → ((row : stored.Row) → Contains rows row → IsHeld row.stored)
      → OnlyAsks P (row_findings p rows kept) left
  findings_only p [] kept left held = tt
  findings_only p (row ∷ rows) kept left held =
      only_then P (λ found. with_memory
      (and_then (row_findings p rows found.1) (λ findings. give (found.0 ∷ findings))))
      (λ found l. λ u v. only_then P (λ findings. give (found.0 ∷ findings)) (λ findings m. tt)
      (row_findings p rows found.1) l (findings_only p rows found.1 l
      (λ other c. held other (suc c.0, omega (arith, c.1), c.2))))
      (row_finding p row kept) left
      (only_then P (λ read. give (finding_of read.0, read.1)) (λ read l. tt)
      (value_read p.seeds (list_of p.rows row.resource) row.path row.stored kept) left
      (value_only p.seeds (list_of p.rows row.resource) row.path row.stored kept left
      (held row (0, omega arith, refl))))

  verified_only : (programs : List Program) (rows : List ConfigEntry) (found : List stored.Row) (left : StepState)
      → ((row : stored.Row) → Contains found row → IsHeld row.stored)
      → OnlyAsks P (verifying_with programs rows found) left
  verified_only programs rows found left held =
      links_only P programs (verifying_by rows found) (λ l u v. only_then P
      (λ seeds. and_then (row_findings (record { rows = rows; seeds = seeds }) found none_kept)
      (telling_findings found))
      (λ seeds m. only_then P (telling_findings found) (λ findings n a b. tt)
      (row_findings (record { rows = rows; seeds = seeds }) found none_kept) m
      (findings_only (record { rows = rows; seeds = seeds }) found none_kept m held))
      (make_seeds (plugin_order rows)) l (seeds_only (plugin_order rows) l)) _

  -- ---- the rows of a rewrite

  replacing_only : (name : List ℕ) (p : Publication) (row : stored.Row) (at : Progress)
      (value : Option (List ℕ)) (left : StepState) → OnlyAsks P (replacing name p row at value) left
  replacing_only name p row at None left = tt
  replacing_only name p row at (Some value) left =
      let new = row_anew at.store.format p row value in
      adding_only P Store name at.store new (λ grown. give (one_rewritten new at))
      (λ grown l. tt) left

  resealing_only : (long : Bool) (name : List ℕ) (p : Publication) (row : stored.Row)
      (plain : List ℕ) (at : Progress) (left : StepState)
      → OnlyAsks P (resealing long name p row plain at) left
  resealing_only true name p row plain at left = tt
  resealing_only false name p row plain at left =
      let who = writer_of (list_of p.rows row.resource) in
      only_then P (replacing name p row at) (replacing_only name p row at)
      (value_sealed p.seeds who row.path plain) left (sealed_only p.seeds who row.path plain left)

  row_data_only : (name : List ℕ) (p : Publication) (row : stored.Row) (at : Progress)
      (plain : List ℕ) (stale : Bool) (left : StepState)
      → OnlyAsks P (row_data name p row at plain stale) left
  row_data_only name p row at plain false left = tt
  row_data_only name p row at plain true left = λ u v.
      resealing_only (nat_lt data_limit (length plain)) name p row plain at left

  row_by_only : (name : List ℕ) (p : Publication) (row : stored.Row) (at : Progress)
      (read : Result Opened ValueNo) (left : StepState) → OnlyAsks P (row_by name p row at read) left
  row_by_only name p row at (Ok opened) left =
      row_data_only name p row at opened.plain opened.stale left
  row_by_only name p row at (Err why) left = tt

  driving_only : (name : List ℕ) (p : Publication) (rows : List stored.Row) (kept : CacheState)
      (at : Progress) (left : StepState)
      → ((row : stored.Row) → Contains rows row → IsHeld row.stored)
      → OnlyAsks P (driving name p rows kept at) left
  driving_only name p [] kept at left held = λ told u v. tt
  driving_only name p (row ∷ rows) kept at left held = λ told.
      let list = list_of p.rows row.resource in
      only_then P (λ done. driving name p rows done.1 done.0)
      (λ done l. driving_only name p rows done.1 done.0 l
      (λ other c. held other (suc c.0, omega (arith, c.1), c.2)))
      (row_steps name p row kept at) _
      (only_then P (λ read. and_then (row_by name p row at read.0) (λ done. give (done, read.1)))
      (λ read l. only_then P (λ done. give (done, read.1)) (λ done m. tt)
      (row_by name p row at read.0) l (row_by_only name p row at read.0 l))
      (value_read p.seeds list row.path row.stored kept) _
      (value_only p.seeds list row.path row.stored kept _ (held row (0, omega arith, refl))))

  rewritten_only : (name : List ℕ) (programs : List Program) (rows : List ConfigEntry)
      (store : Stored) (found : List stored.Row) (left : StepState)
      → ((row : stored.Row) → Contains found row → IsHeld row.stored)
      → OnlyAsks P (rewriting_live name rows programs store found) left
  rewritten_only name programs rows store found left held =
      results_only P (within_journal found)
      (λ u. borrow_dice 0 (borrow_links programs (rewriting_by name rows store found))) left
      (λ u. links_only P programs (rewriting_by name rows store found) (λ l a b. only_then P
      (λ seeds. and_then (starting store.rows rows) (λ v.
      driving name (record { rows = rows; seeds = seeds }) found none_kept (nothing_done store)))
      (λ seeds m r is. results_only P r (λ v.
      driving name (record { rows = rows; seeds = seeds }) found none_kept (nothing_done store)) m
      (λ v. driving_only name (record { rows = rows; seeds = seeds }) found none_kept
      (nothing_done store) m held))
      (make_seeds (plugin_order rows)) l (seeds_only (plugin_order rows) l)) _)

-- ---- commands

-- what was taken to the end of a told input is the input
whole : (told rest : Option (List ℕ)) (bytes : List ℕ) → Consumes told rest bytes → IsAtEnd rest
    → Agrees told bytes
whole None rest bytes c e = tt
whole (Some all) None bytes c e = absurd c
whole (Some all) (Some rest) bytes c e =
    c ∙ ap (λ r. bytes ++ r) e ∙ append-nil bytes

module _ (old : Environment) where
  -- where a command begins, that asked nothing before
  abbrev begin : StepState
  begin = record (step_state old) { heard = Some [] }

  input_held : (direction : Direction) (bytes : List ℕ) → Agrees old.input bytes
      → direction ≡ Decrypt → IsInput direction old bytes
  input_held Encrypt bytes agrees is = absurd cc
  input_held Decrypt bytes agrees is = agrees

  converts : (words : Conversion) → OnlyAsks (Sees (Convert words) old) (steps (Convert words))
      begin
  converts words =
      let P = IsQuestion (IsInput words.direction old) in
      configured P words.config (λ rows. and_then (linking_programs words.options rows)
      (λ programs. and_then (input_of words.direction) (λ bytes.
      bench_steps programs words.direction words.resource words.path rows bytes))) begin
      (λ rows l i t. linked P words.options rows (λ programs. and_then (input_of words.direction)
      (λ bytes. bench_steps programs words.direction words.resource words.path rows bytes)) l
      (λ programs. λ bytes rest c e. bench_only (IsInput words.direction old) programs
      words.direction words.resource words.path rows bytes _
      (input_held words.direction bytes
      (subst (λ told. Agrees told bytes) i (whole l.input rest bytes c e)))))

  puts : (words : Conversion) (store : List ℕ)
      → OnlyAsks (Sees (Put words store) old) (steps (Put words store)) begin
  puts words store =
      let None_held : List ℕ → Type 0 = λ value. ⊥ in
      let P = IsQuestion None_held in
      configured P words.config (λ rows. and_then (linking_programs words.options rows)
      (λ programs. and_then (input_of Encrypt) (stored_into words store rows programs)))
      begin
      (λ rows l i t. linked P words.options rows (λ programs. and_then (input_of Encrypt)
      (stored_into words store rows programs)) l
      (λ programs. λ bytes rest c e. only_then P (λ (made : Outcome). settle Store store (give made))
      (λ made m. tt)
      (and_then (stored_on Store store) (sealed_into words store rows programs bytes)) _
      (stored_only P Store store (sealed_into words store rows programs bytes)
      (λ held m. only_then P (λ sealed. and_then (adding Store store held
      (new_row held.format words rows sealed.bytes))
      (λ grown. give (silently (revision_line grown))))
      (λ sealed n. adding_only P Store store held (new_row held.format words rows sealed.bytes)
      (λ grown. give (silently (revision_line grown))) (λ grown o. tt) n)
      (bench_steps programs Encrypt words.resource words.path rows bytes) m
      (bench_only None_held programs Encrypt words.resource words.path rows bytes m
      (λ is. absurd cc))) _)))

  gets : (words : Lookup) → OnlyAsks (Sees (Get words) old) (steps (Get words)) begin
  gets words =
      let P = IsQuestion (IsStoredValue words old) in
      configured P words.config (λ rows. and_then (linking_programs words.options rows) (λ programs.
      and_then (read_for words.store (row_on words.store words.path)) (λ row.
      bench_steps programs Decrypt row.resource words.path rows row.stored))) begin
      (λ rows l i t. linked P words.options rows (λ programs.
      and_then (read_for words.store (row_on words.store words.path)) (λ row.
      bench_steps programs Decrypt row.resource words.path rows row.stored)) l
      (λ programs. λ bytes agrees r is. on_store programs rows _ bytes
      (subst (λ tapes. Agrees (tapes words.store) (Some bytes)) t agrees) r is))
    where
      at : (programs : List Program) (rows : List ConfigEntry) (left : StepState) (bytes : List ℕ)
          → Agrees (old.world.tapes.told words.store) (Some bytes) → (held : Stored)
          → IsStored bytes (Ok held) → (found : Option stored.Row)
          → live held.rows words.path ≡ found
          → OnlyAsks (IsQuestion (IsStoredValue words old))
          (and_then (and_then (by_result (row_found words.path found)) (λ made.
          give_back words.store (give made))) (λ row.
          bench_steps programs Decrypt row.resource words.path rows row.stored)) left
      at programs rows left bytes agrees held read None is = tt
      at programs rows left bytes agrees held read (Some row) is =
          bench_only (IsStoredValue words old) programs Decrypt row.resource words.path rows row.stored
          (with_asked (Returned words.store) left) (λ d. record {
            bytes = bytes;
            store = held;
            row = row;
            held = agrees;
            read = read;
            found = is;
            is = refl;
          })

      on_store : (programs : List Program) (rows : List ConfigEntry) (left : StepState) (bytes : List ℕ)
          → Agrees (old.world.tapes.told words.store) (Some bytes) → (r : Result Stored Refusal)
          → IsStored bytes r → OnlyAsks (IsQuestion (IsStoredValue words old))
          (and_then (and_then (and_then (by_result r)
          (λ read. with_memory (by_result (row_found words.path (live read.rows words.path)))))
          (λ made. give_back words.store (give made)))
          (λ row. bench_steps programs Decrypt row.resource words.path rows row.stored)) left
      on_store programs rows left bytes agrees (Err why) is = tt
      on_store programs rows left bytes agrees (Ok held) is = λ u v.
          at programs rows left bytes agrees held is (live held.rows words.path) refl

  -- a row that is found in the store is live there
  found_live : (words : Verification) {bytes : List ℕ} {store : Stored} {found : List stored.Row}
      → Agrees (old.world.tapes.told words.store) (Some bytes) → IsStored bytes (Ok store)
      → IsListing store.rows found → AreLive words old found
  found_live words {bytes} {store} agrees read listed = record {
    bytes = bytes;
    store = store;
    held = agrees;
    read = read;
    listing = listed;
  }

  live_of : (words : Verification) {bytes : List ℕ} {store : Stored} {found : List stored.Row}
      {row : stored.Row} → Agrees (old.world.tapes.told words.store) (Some bytes)
      → IsStored bytes (Ok store) → IsListing store.rows found → Contains found row
      → IsLiveOf words old row.stored
  live_of words {found = found} {row} agrees read listed among = record {
    live = found;
    row = row;
    are = found_live words agrees read listed;
    among = among;
    is = refl;
  }

  verifies : (words : Verification)
      → OnlyAsks (Sees (Verify words) old) (steps (Verify words)) begin
  verifies words =
      let P = IsQuestion (IsLiveOf words old) in
      configured P words.config (λ rows. and_then (linking_programs words.options rows) (λ programs.
      and_then (read_for words.store (live_on words.store)) (verifying_with programs rows)))
      begin
      (λ rows l i t. linked P words.options rows (λ programs.
      and_then (read_for words.store (live_on words.store)) (verifying_with programs rows)) l
      (λ programs. λ bytes agrees r is. on_store programs rows _ bytes
      (subst (λ tapes. Agrees (tapes words.store) (Some bytes)) t agrees) r is))
    where
      on_store : (programs : List Program) (rows : List ConfigEntry) (left : StepState) (bytes : List ℕ)
          → Agrees (old.world.tapes.told words.store) (Some bytes) → (r : Result Stored Refusal)
          → IsStored bytes r → OnlyAsks (IsQuestion (IsLiveOf words old))
          (and_then (and_then (and_then (by_result r)
          (λ read. find (List stored.Row) (IsListing read.rows) give))
          (λ made. give_back words.store (give made)))
          (verifying_with programs rows)) left
      on_store programs rows left bytes agrees (Err why) is = tt
      on_store programs rows left bytes agrees (Ok held) is = λ found listed.
          verified_only (IsLiveOf words old) programs rows found
          (with_asked (Returned words.store) left) (λ row among. live_of words agrees is listed among)

  rewrites : (words : Rewriting)
      → OnlyAsks (Sees (Rewrite words) old) (steps (Rewrite words)) begin
  rewrites words =
      let P = IsQuestion (IsLiveOf (verified_as words) old) in
      configured P words.config (λ rows. and_then (linking_programs words.options rows) (λ programs.
      settled_for Store words.store ToWrite (rewriting_on words.store rows programs))) begin
      (λ rows l i t. linked P words.options rows (λ programs.
      settled_for Store words.store ToWrite (rewriting_on words.store rows programs)) l
      (λ programs. only_then P (λ (made : Outcome). settle Store words.store (give made))
      (λ made m. tt) (rewriting_on words.store rows programs) _
      (λ bytes agrees r is. on_store programs rows _ bytes
      (subst (λ tapes. Agrees (tapes words.store) (Some bytes)) t agrees) r is)))
    where
      on_store : (programs : List Program) (rows : List ConfigEntry) (left : StepState) (bytes : List ℕ)
          → Agrees (old.world.tapes.told words.store) (Some bytes) → (r : Result Stored Refusal)
          → IsStored bytes r → OnlyAsks (IsQuestion (IsLiveOf (verified_as words) old))
          (and_then (by_result r) (λ store.
          find (List stored.Row) (IsListing store.rows)
          (rewriting_live words.store rows programs store))) left
      on_store programs rows left bytes agrees (Err why) is = tt
      on_store programs rows left bytes agrees (Ok held) is = λ found listed.
          rewritten_only (IsLiveOf (verified_as words) old) words.store programs rows held found left
          (λ row among. live_of (verified_as words) agrees is listed among)

  pub command_asks : (command : Command) → OnlyAsks (Sees command old) (steps command) begin
  command_asks (Convert words) = converts words
  command_asks (Put words store) = puts words store
  command_asks (Get words) = gets words
  command_asks (Verify words) = verifies words
  command_asks (Rewrite words) = rewrites words
  command_asks (Migrate words) = migrating_only (Sees (Migrate words) old) words begin
  command_asks command =
      plain_asks (Sees command old) (steps command) begin (plain command tt)

-- ---- a run

-- what closes a command asks nothing
closed_heard : (command : Command) (stop point : Point Outcome) (end last : StepState)
    → Closes command stop end point last → last.heard ≡ end.heard
closed_heard command stop point end last (inl (nothing, e)) = ap (λ (l : StepState). l.heard) e.1
closed_heard command stop point end last (inr (is, (name, reports, inl e))) =
    ap (λ (l : StepState). l.heard) e.1
closed_heard command stop point end last (inr (is, (name, reports, inr e))) =
    ap (λ (l : StepState). l.heard) e.1

module _ (words : List (List ℕ)) (old new : Environment) (exchanges : List Exchange) (command : Command)
    (asks : Asks words command) where
  abbrev silence : Environment
  silence = record old { heard = Some [] }

  abbrev now : Environment
  now = record new { heard = Some exchanges }

  abbrev Seen : Type 0
  Seen = All (Sees command old) exchanges

  reached : (said : List ℕ) (c : Command) (point : Point Outcome) → Asks words c
      → ReachesEnd c (step_state silence) (with_what_is_said said now) point → Seen
  reached said c point also r =
      let goes = subst (λ d. RunTo r.stop r.end (steps d) (step_state silence))
      (one_command also asks) r.goes in
      let end_heard : Some exchanges ≡ r.end.heard =
      r.stays.heard ∙ closed_heard c r.stop point r.end r.last r.closes in
      subst (AllHeard (Sees command old)) (sym end_heard)
      (only_asked (Sees command old) r.stop r.end (steps command) (step_state silence)
      (command_asks old command) (All-nil (Sees command old)) goes)

  ended : (said : List ℕ) (made : Result Outcome Stop) (c : Command) → Asks words c
      → EndsAll c (step_state silence) silence (with_what_is_said said now) made → Seen
  ended said (Ok made) c also r = reached said c (gives made) also r
  ended said (Err (Words why)) c also r = absurd r
  ended said (Err (Refused why)) c also r = reached said c (refuses why) also r
  ended said (Err (Fault object count)) c also (call, r, fault) =
      reached said c (awaits call) also r
  ended said (Err NoMemory) c also (inl (call, may, r)) = reached said c (awaits call) also r
  ended said (Err NoMemory) c also (inr r) = reached said c amid also r

  answered : (output : Receipt) (result : Result Done Stop)
      → Answers words silence now output result → Seen
  answered output result (inl (stops, same)) =
      let e : Some exchanges ≡ Some [] = ap (λ (a : Environment). a.heard) same.0 in
      subst (AllHeard (Sees command old)) (sym e) (All-nil (Sees command old))
  answered output result (inr (said, made, did, writes)) =
      ended said made did.command did.asks did.ends

pub plugins_see : PluginsSee
plugins_see words old new exchanges output errors status ran command asks =
    answered words old new exchanges command asks output ran.result ran.answers
