-- Steps that write no tape leave all tapes, and steps that write one leave every other.
use Rattle.std.proofs.Common.{◌≡◌, ℕ, zero, suc, List, [], ◌∷◌, Bool, false, Option, None, Some, Result, Ok, Err, ◌∙◌, ap, inl, inr, refl}
use Rattle.kr_config.specs.Kept.{ConfigEntry}
use Rattle.kr_config.specs.Lists.{list_of}
use Rattle.kr_store.specs.Rows.{live}
use Rattle.kr_config.specs.declared.who.Who.{Who}
use Rattle.kr_envelope.specs.declared.object.EncryptedObject.{EncryptedObject}
use Rattle.kr_envelope.specs.declared.object.ObjectNo.{ObjectNo}
use Rattle.kr_kms.specs.Cache.{CacheState}
use Rattle.kr_kms.specs.Health.{breach_in}
use Rattle.kr_kms.specs.declared.health.Field.{Field}
use Rattle.kr_kms.specs.declared.plugin.Status.{Status}
use Rattle.kr_kms.specs.declared.plugin.Wrapped.{Wrapped}
use Rattle.kr_kms.specs.declared.seeds.SeedRow.{SeedRow}
use Rattle.kr_provider.specs.Envelopes.{Envelope}
use Rattle.kr_provider.specs.PluginOrder.{plugin_order}
use Rattle.kr_provider.specs.Publication.{Publication}
use Rattle.kr_store.specs.Stores.{IsListing}
use Rattle.kr_store.specs.declared.rows.Row as stored
use Rattle.kr_provider.specs.Reading.{Reading, data_of, refused, unopened, value_reading, is_stale}
use Rattle.kr_provider.specs.Readers.{reader_in, writer_of}
use Rattle.kr_provider.specs.Sealing.{draw_size, sealed_by}
use Rattle.kr_provider.specs.declared.refusal.Opened.{Opened}
use Rattle.kr_provider.specs.declared.refusal.ValueNo.{ValueNo}
use Rattle.std.specs.Prelude.{if◌then◌else◌}
use Rattle.std.specs.Option.{option_map}
use Rattle.kr_kms.specs.Outside.{same_name}
use Rattle.kr_kms.specs.declared.world.Access.{Access}
use Rattle.kr_kms.specs.declared.world.Access.TheVariants.{ToRead, ToWrite, ToMake}
use Rattle.kr_cmd_steps.specs.Afterwards.{OthersStay}
use Rattle.kr_cmd_steps.specs.Phases.{by_result, configuration, input_of, linking_programs, with_memory, read_for}
use Rattle.kr_cmd_steps.specs.StoreSteps.{live_on, row_finding, row_findings, telling_findings, verifying_by, verifying_with, row_found, row_on}
use Rattle.kr_cmd_steps.specs.ValueSteps.{bench_steps, draw_some, reading_given, data_steps, value_read, value_sealed, value_with, value_steps, working, working_by, none_kept}
use Rattle.kr_cmd_steps.specs.Commands.{steps}
use Rattle.kr_cmd_steps.specs.RowFindings.{finding_of}
use Rattle.kr_cmd_steps.specs.Plugins.{borrow_links, make_seed, make_seeds, settings_programs, unless_breach, wrap_seed}
use Rattle.kr_cmd_steps.specs.Steps.{Steps, load, take_input, borrow_dice, borrow_tape, read_tape, write_row, keep_rows, settle, give_back, draw, borrow_link, ask_status, wrap, unwrap, note, find, refuse, give, and_then, Point, StepState, RunTo}
use Rattle.kr_cmd_messages.specs.declared.command.Command.TheVariants.{Verify}
use Rattle.kr_cmd_messages.specs.declared.command.Command.{Command}
use Rattle.kr_cmd_messages.specs.declared.command.Command.TheVariants.{Convert, Put, Get, Migrate, Rewrite}
use Rattle.kr_cmd_messages.specs.declared.command.Direction.{Direction}
use Rattle.kr_cmd_messages.specs.declared.command.Direction.TheVariants.{Encrypt, Decrypt}
use Rattle.kr_cmd_steps.specs.declared.programs.Program.{Program}
use Rattle.kr_cmd_messages.specs.declared.refusal.Refusal.{Refusal}
use Rattle.kr_cmd_laws.proofs.Plain.{IsPlain, IsRead, plain}
use Rattle.kr_cmd_laws.proofs.OpeningSteps.{opens}

-- no tape is asked to be made, and only those of these names to be written
abbrev pub MayAsk : (May : List ℕ → Type 0) → (name : List ℕ) → Access → Type 0
MayAsk May name ToRead = Unit {0}
MayAsk May name ToWrite = May name
MayAsk May name ToMake = ⊥

-- no tape is made, and only tapes of these names are written; the others are asked to be read
-- alone; and all draws are those of seat 0
abbrev pub Writes : {A : Type 0} → (May : List ℕ → Type 0) → Steps A → Type 0
Writes May (load name next) = (bytes : Option (List ℕ)) → Writes May (next bytes)
Writes May (take_input limit long next) = (bytes : List ℕ) → Writes May (next bytes)
Writes May (borrow_dice seat next) = Writes May next
Writes May (borrow_tape name access absent next) = MayAsk May name access × Writes May next
Writes May (read_tape object name next) = (bytes : List ℕ) → Writes May (next bytes)
Writes May (write_row object name store row next) = May name × Writes May next
Writes May (keep_rows name store next) = May name × Writes May next
Writes May (settle object name next) = Writes May next
Writes May (draw seat size next) = (seat ≡ 0) × ((bytes : List ℕ) → Writes May (next bytes))
Writes May (borrow_link seat plugin program next) = Writes May next
Writes May (ask_status seat plugin next) = (status : Status) → Writes May (next status)
Writes May (wrap seat plugin plain next) = (wrapped : Wrapped) → Writes May (next wrapped)
Writes May (unwrap seat key next) = (bytes : List ℕ) → Writes May (next bytes)
Writes May (give_back name next) = Writes May next
Writes May (note text next) = Writes May next
Writes May (find B P next) = (b : B) → Writes May (next b)
Writes May (refuse why) = Unit {0}
Writes May (give x) = Unit {0}

-- no tape is made or written
abbrev pub IsReadOnly : {A : Type 0} → Steps A → Type 0
IsReadOnly next = Writes (λ name. ⊥) next

-- no tape is made, and no other is written
abbrev pub IsOnTape : {A : Type 0} → (tape : List ℕ) → Steps A → Type 0
IsOnTape tape next = Writes (λ name. name ≡ tape) next

-- ---- a tape of another name stays

module _ {A : Type 0} (May : List ℕ → Type 0) (p : Point A) (end : StepState) (other : List ℕ)
    (apart : (name : List ℕ) → May name → same_name name other ≡ false) where
  abbrev Stays : StepState → Type 0
  Stays left = end.tapes other ≡ left.tapes other

  at_end : {left : StepState} {here : Point A} → (p ≡ here) × (end ≡ left) → Stays left
  at_end at = ap (λ l. l.tapes other) at.1

  behind : (name : List ℕ) (told : Option (List ℕ)) (left : StepState) → May name
      → end.tapes other ≡ (if same_name name other then option_map Some told else left.tapes other)
      → Stays left
  behind name told left may s =
      s ∙ ap (λ q. if q then option_map Some told else left.tapes other) (apart name may)

  stays : (next : Steps A) (left : StepState) → Writes May next → RunTo p end next left → Stays left
  stays (load name next) left r (inl at) = at_end at
  stays (load name next) left r (inr (inl at)) = at_end at
  stays (load name next) left r (inr (inr (bytes, agrees, goes))) =
      stays (next bytes) _ (r bytes) goes
  stays (take_input limit long next) left r (bytes, rest, c, inl (short, at)) = at_end at
  stays (take_input limit long next) left r (bytes, rest, c, inr (inl (more, at))) = at_end at
  stays (take_input limit long next) left r (bytes, rest, c, inr (inr (short, e, goes))) =
      stays (next bytes) _ (r bytes) goes
  stays (borrow_dice seat next) left r (inl at) = at_end at
  stays (borrow_dice seat next) left r (inr (inl at)) = at_end at
  stays (borrow_dice seat next) left r (inr (inr goes)) = stays next _ r goes
  stays (borrow_tape name access absent next) left r (inl at) = at_end at
  stays (borrow_tape name access absent next) left r (inr (inl at)) = at_end at
  stays (borrow_tape name access absent next) left r (inr (inr (inl (may, agrees, at)))) = at_end at
  stays (borrow_tape name ToMake absent next) left r (inr (inr (inr (may, goes)))) = absurd r.0
  stays (borrow_tape name ToWrite absent next) left r (inr (inr (inr (may, goes)))) =
      stays next _ r.1 goes
  stays (borrow_tape name ToRead absent next) left r (inr (inr (inr (may, goes)))) =
      stays next _ r.1 goes
  stays (read_tape object name next) left r (inl at) = at_end at
  stays (read_tape object name next) left r (inr (bytes, agrees, goes)) =
      stays (next bytes) left (r bytes) goes
  stays (write_row object name store row next) left r (inl (told, begins, at)) =
      behind name told left r.0 (ap (λ l. l.tapes other) at.1)
  stays (write_row object name store row next) left r (inr (told, holds, goes)) =
      behind name told left r.0 (stays next _ r.1 goes)
  stays (keep_rows name store next) left r (told, holds, goes) =
      behind name told left r.0 (stays next _ r.1 goes)
  stays (settle object name next) left r (inl at) = at_end at
  stays (settle object name next) left r (inr goes) = stays next _ r goes
  stays (draw seat size next) left r (inl at) = at_end at
  stays (draw seat size next) left r (inr (bytes, rest, c, fits, goes)) =
      stays (next bytes) _ (r.1 bytes) goes
  stays (borrow_link seat plugin program next) left r (inl at) = at_end at
  stays (borrow_link seat plugin program next) left r (inr (inl at)) = at_end at
  stays (borrow_link seat plugin program next) left r (inr (inr goes)) = stays next _ r goes
  stays (ask_status seat plugin next) left r (inl at) = at_end at
  stays (ask_status seat plugin next) left r (inr (inl (answer, at))) = at_end at
  stays (ask_status seat plugin next) left r (inr (inr (inl at))) = at_end at
  stays (ask_status seat plugin next) left r (inr (inr (inr (status, agrees, goes)))) =
      stays (next status) _ (r status) goes
  stays (wrap seat plugin plain next) left r (inl at) = at_end at
  stays (wrap seat plugin plain next) left r (inr (inl (answer, at))) = at_end at
  stays (wrap seat plugin plain next) left r (inr (inr (inl at))) = at_end at
  stays (wrap seat plugin plain next) left r (inr (inr (inr (wrapped, within, goes)))) =
      stays (next wrapped) _ (r wrapped) goes
  stays (unwrap seat key next) left r (inl at) = at_end at
  stays (unwrap seat key next) left r (inr (inl (answer, at))) = at_end at
  stays (unwrap seat key next) left r (inr (inr (inl at))) = at_end at
  stays (unwrap seat key next) left r (inr (inr (inr (bytes, goes)))) =
      stays (next bytes) _ (r bytes) goes
  stays (give_back name next) left r goes = stays next _ r goes
  stays (note text next) left r goes = stays next _ r goes
  stays (find B P next) left r (inl at) = at_end at
  stays (find B P next) left r (inr (b, is, goes)) = stays (next b) _ (r b) goes
  stays (refuse why) left r at = at_end at
  stays (give x) left r at = at_end at

module _ {A : Type 0} (p : Point A) (end : StepState) (next : Steps A) (left : StepState) where
  pub leaves_tapes : IsReadOnly next → RunTo p end next left → end.tapes ≡ left.tapes
  leaves_tapes r goes = λ i other.
      stays (λ name. ⊥) p end other (λ name none. absurd none) next left r goes i

  pub others_stay : (tape : List ℕ) → IsOnTape tape next → RunTo p end next left
      → OthersStay tape left.tapes end.tapes
  others_stay tape r goes = λ other f. stays (λ name. name ≡ tape) p end other
      (λ name is. ap (λ n. same_name n other) is ∙ f) next left r goes

-- ---- steps one behind another

-- those behind may write more
module _ (May More : List ℕ → Type 0) (wider : (name : List ℕ) → May name → More name)
    {A B : Type 0} (others : A → Steps B) (o : (x : A) → Writes More (others x)) where
  both_write : (first : Steps A) → Writes May first → Writes More (and_then first others)
  both_write (load name next) r = λ bytes. both_write (next bytes) (r bytes)
  both_write (take_input limit long next) r = λ bytes. both_write (next bytes) (r bytes)
  both_write (borrow_dice seat next) r = both_write next r
  both_write (borrow_tape name ToRead absent next) r = (tt, both_write next r.1)
  both_write (borrow_tape name ToWrite absent next) r = (wider name r.0, both_write next r.1)
  both_write (borrow_tape name ToMake absent next) r = absurd r.0
  both_write (read_tape object name next) r = λ bytes. both_write (next bytes) (r bytes)
  both_write (write_row object name store row next) r = (wider name r.0, both_write next r.1)
  both_write (keep_rows name store next) r = (wider name r.0, both_write next r.1)
  both_write (settle object name next) r = both_write next r
  both_write (draw seat size next) r = (r.0, λ bytes. both_write (next bytes) (r.1 bytes))
  both_write (borrow_link seat plugin program next) r = both_write next r
  both_write (ask_status seat plugin next) r = λ status. both_write (next status) (r status)
  both_write (wrap seat plugin plain next) r = λ wrapped. both_write (next wrapped) (r wrapped)
  both_write (unwrap seat key next) r = λ bytes. both_write (next bytes) (r bytes)
  both_write (give_back name next) r = both_write next r
  both_write (note text next) r = both_write next r
  both_write (find D P next) r = λ d. both_write (next d) (r d)
  both_write (refuse why) r = tt
  both_write (give x) r = o x

pub both_read : {A B : Type 0} (others : A → Steps B) → ((x : A) → IsReadOnly (others x))
    → (first : Steps A) → IsReadOnly first → IsReadOnly (and_then first others)
both_read others o first r = both_write (λ name. ⊥) (λ name. ⊥) (λ name none. none) others o first r

module _ (tape : List ℕ) {A B : Type 0} (others : A → Steps B)
    (o : (x : A) → IsOnTape tape (others x)) (first : Steps A) where
  pub read_then : IsReadOnly first → IsOnTape tape (and_then first others)
  read_then r = both_write (λ name. ⊥) (λ name. name ≡ tape) (λ name none. absurd none) others o
      first r

  pub on_then : IsOnTape tape first → IsOnTape tape (and_then first others)
  on_then r = both_write (λ name. name ≡ tape) (λ name. name ≡ tape) (λ name is. is) others o
      first r

-- ---- phases

pub result_reads : {A : Type 0} (r : Result A Refusal) → IsReadOnly (by_result r)
result_reads (Ok x) = tt
result_reads (Err why) = tt

pub configuration_reads : (name : List ℕ) → IsReadOnly (configuration name)
configuration_reads name = λ bytes read. result_reads read

pub draws_read : {A : Type 0} (size : ℕ) (next : List ℕ → Steps A)
    → ((drawn : List ℕ) → IsReadOnly (next drawn)) → IsReadOnly (draw_some size next)
draws_read zero next r = r []
draws_read (suc more) next r = (refl, r)

pub sealed_reads : (seeds : List SeedRow) (who : Who) (path plain : List ℕ)
    → IsReadOnly (value_sealed seeds who path plain)
sealed_reads seeds who path plain = λ u. draws_read (draw_size who)
    (λ drawn. give (sealed_by seeds who path plain drawn)) (λ drawn. tt)

shown_reads : (value : Option (List ℕ)) → IsReadOnly (value_steps value)
shown_reads None = tt
shown_reads (Some value) = tt

given_reads : (reading : Reading) (stale : Bool) → IsReadOnly (reading_given reading stale)
given_reads (data_of plain) stale = tt
given_reads (refused why) stale = tt
given_reads unopened stale = λ none. absurd none

with_reads : (seeds : List SeedRow) (list : List Who) (path bytes : List ℕ)
    (object : Result EncryptedObject ObjectNo) (source : Option (List ℕ)) (kept : CacheState)
    → IsReadOnly (value_with seeds list path bytes object source kept)
with_reads seeds list path bytes object source kept =
    let envelope : Envelope = record { object = object; source = source } in
    both_read (λ read. give (read, kept)) (λ read. tt)
    (reading_given (value_reading envelope list path bytes) (is_stale envelope seeds list bytes))
    (given_reads (value_reading envelope list path bytes) (is_stale envelope seeds list bytes))

pub value_reads : (seeds : List SeedRow) (list : List Who) (path bytes : List ℕ)
    (kept : CacheState) → IsReadOnly (value_read seeds list path bytes kept)
value_reads seeds list path bytes kept = λ object.
    let on = with_reads seeds list path bytes object in
    opens (λ (s : Steps (Result Opened ValueNo × CacheState)). IsReadOnly s)
    (value_with seeds list path bytes object) on
    (λ before key. λ seed after. on (Some seed) after) seeds (reader_in list bytes) object kept

data_reads : (read : Result Opened ValueNo) → IsReadOnly (data_steps read)
data_reads (Ok opened) = tt
data_reads (Err why) = tt

seed_reads : (plugin : List ℕ) (breach : Option (Field × List ℕ))
    → IsReadOnly (unless_breach plugin breach (wrap_seed plugin))
seed_reads plugin None = (refl, λ seed wrapped. tt)
seed_reads plugin (Some breach) = tt

pub seeds_read : (plugins : List (List ℕ)) → IsReadOnly (make_seeds plugins)
seeds_read [] = tt
seeds_read (plugin ∷ plugins) = both_read
    (λ row. and_then (make_seeds plugins) (λ rows. give (row ∷ rows)))
    (λ row. both_read (λ rows. give (row ∷ rows)) (λ rows. tt) (make_seeds plugins)
    (seeds_read plugins))
    (make_seed plugin) (λ status. seed_reads plugin (breach_in status))

bench_reads : (direction : Direction) (resource path : List ℕ) (rows : List ConfigEntry) (bytes : List ℕ)
    (seeds : List SeedRow) → IsReadOnly (working_by direction resource path rows bytes seeds)
bench_reads Encrypt resource path rows bytes seeds =
    let writer = writer_of (list_of rows resource) in
    both_read value_steps shown_reads (value_sealed seeds writer path bytes)
    (sealed_reads seeds writer path bytes)
bench_reads Decrypt resource path rows bytes seeds =
    let list = list_of rows resource in
    both_read (λ read. data_steps read.0) (λ read. data_reads read.0)
    (value_read seeds list path bytes none_kept) (value_reads seeds list path bytes none_kept)

pub links_write : {A : Type 0} (May : List ℕ → Type 0) (programs : List Program) (next : Steps A)
    → Writes May next → Writes May (borrow_links programs next)
links_write May [] next r = r
links_write May (program ∷ programs) next r = links_write May programs next r

pub work_reads : (programs : List Program) (direction : Direction) (resource path : List ℕ)
    (rows : List ConfigEntry) (bytes : List ℕ)
    → IsReadOnly (bench_steps programs direction resource path rows bytes)
work_reads programs direction resource path rows bytes =
    links_write (λ name. ⊥) programs (working direction resource path rows bytes)
    (λ u. both_read (working_by direction resource path rows bytes)
    (bench_reads direction resource path rows bytes) (make_seeds (plugin_order rows))
    (seeds_read (plugin_order rows)))

-- ---- the values of a store

rows_read : (p : Publication) (live : List stored.Row) (kept : CacheState)
    → IsReadOnly (row_findings p live kept)
rows_read p [] kept = tt
rows_read p (row ∷ live) kept =
    let list = list_of p.rows row.resource in
    both_read (λ found. with_memory (and_then (row_findings p live found.1)
    (λ findings. give (found.0 ∷ findings))))
    (λ found u. both_read (λ findings. give (found.0 ∷ findings)) (λ findings. tt)
    (row_findings p live found.1) (rows_read p live found.1))
    (row_finding p row kept)
    (both_read (λ read. give (finding_of read.0, read.1)) (λ read. tt)
    (value_read p.seeds list row.path row.stored kept)
    (value_reads p.seeds list row.path row.stored kept))

findings_read : (programs : List Program) (rows : List ConfigEntry) (live : List stored.Row)
    → IsReadOnly (verifying_with programs rows live)
findings_read programs rows live =
    links_write (λ name. ⊥) programs (verifying_by rows live)
    (λ u. both_read (λ seeds. and_then
    (row_findings (record { rows = rows; seeds = seeds }) live none_kept) (telling_findings live))
    (λ seeds. both_read (telling_findings live) (λ findings u. tt)
    (row_findings (record { rows = rows; seeds = seeds }) live none_kept)
    (rows_read (record { rows = rows; seeds = seeds }) live none_kept))
    (make_seeds (plugin_order rows)) (seeds_read (plugin_order rows)))

-- ---- steps that read alone

module _ (name : List ℕ) where
  none_asked : (access : Access) → IsRead access → MayAsk (λ other. ⊥) name access
  none_asked ToRead r = tt
  none_asked other r = absurd (r tt)

pub plain_reads : {A : Type 0} (s : Steps A) → IsPlain s → IsReadOnly s
plain_reads (load name next) p = λ bytes. plain_reads (next bytes) (p bytes)
plain_reads (take_input limit long next) p = λ bytes. plain_reads (next bytes) (p bytes)
plain_reads (borrow_tape name access absent next) p =
    (none_asked name access p.0, plain_reads next p.1)
plain_reads (read_tape object name next) p = λ bytes. plain_reads (next bytes) (p bytes)
plain_reads (give_back name next) p = plain_reads next p
plain_reads (find B P next) p = λ b. plain_reads (next b) (p.1 b)
plain_reads (refuse why) p = tt
plain_reads (give x) p = tt
plain_reads next p = absurd (p tt)

-- ---- commands

-- each command but `put`, `migrate` and `rewrite`
abbrev pub IsReader : Command → Type 0
IsReader (Put words store) = ⊥
IsReader (Migrate words) = ⊥
IsReader (Rewrite words) = ⊥
IsReader command = Unit {0}

programs_read : (options : List (List ℕ × List ℕ)) (rows : List ConfigEntry)
    → IsReadOnly (linking_programs options rows)
programs_read options rows = λ u. result_reads (settings_programs options (plugin_order rows))

row_reads : (store path : List ℕ) → IsReadOnly (row_on store path)
row_reads store path = λ bytes read. both_read
    (λ held. with_memory (by_result (row_found path (live held.rows path))))
    (λ held. λ u. result_reads (row_found path (live held.rows path))) (by_result read)
    (result_reads read)

pub command_reads : (command : Command) → IsReader command → IsReadOnly (steps command)
command_reads (Convert words) r = both_read
    (λ rows. and_then (linking_programs words.options rows) (λ programs.
    and_then (input_of words.direction) (λ bytes.
    bench_steps programs words.direction words.resource words.path rows bytes)))
    (λ rows. both_read (λ programs. and_then (input_of words.direction) (λ bytes.
    bench_steps programs words.direction words.resource words.path rows bytes))
    (λ programs. λ bytes. work_reads programs words.direction words.resource words.path rows bytes)
    (linking_programs words.options rows) (programs_read words.options rows))
    (configuration words.config) (configuration_reads words.config)
command_reads (Put words store) r = absurd r
command_reads (Migrate words) r = absurd r
command_reads (Rewrite words) r = absurd r
command_reads (Get words) r = both_read
    (λ rows. and_then (linking_programs words.options rows) (λ programs.
    and_then (read_for words.store (row_on words.store words.path)) (λ row.
    bench_steps programs Decrypt row.resource words.path rows row.stored)))
    (λ rows. both_read (λ programs.
    and_then (read_for words.store (row_on words.store words.path)) (λ row.
    bench_steps programs Decrypt row.resource words.path rows row.stored))
    (λ programs. both_read (λ row.
    bench_steps programs Decrypt row.resource words.path rows row.stored)
    (λ row. work_reads programs Decrypt row.resource words.path rows row.stored)
    (read_for words.store (row_on words.store words.path)) (
      tt,
      both_read (λ made. give_back words.store (give made)) (λ made. tt)
          (row_on words.store words.path) (row_reads words.store words.path),
    ))
    (linking_programs words.options rows) (programs_read words.options rows))
    (configuration words.config) (configuration_reads words.config)
command_reads (Verify words) r = both_read
    (λ rows. and_then (linking_programs words.options rows) (λ programs.
    and_then (read_for words.store (live_on words.store)) (verifying_with programs rows)))
    (λ rows. both_read (λ programs.
    and_then (read_for words.store (live_on words.store)) (verifying_with programs rows))
    (λ programs. both_read (verifying_with programs rows) (findings_read programs rows)
    (read_for words.store (live_on words.store)) (
      tt,
      both_read (λ made. give_back words.store (give made)) (λ made. tt) (live_on words.store)
          (λ bytes read. both_read (λ held. find (List stored.Row) (IsListing held.rows) give)
          (λ held live. tt) (by_result read) (result_reads read)),
    ))
    (linking_programs words.options rows) (programs_read words.options rows))
    (configuration words.config) (configuration_reads words.config)
command_reads command r = plain_reads (steps command) (plain command tt)
