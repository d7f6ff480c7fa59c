-- Where all is told around a call, all that it touches is told.
use Rattle.std.proofs.Common.{◌≡◌, ℕ, zero, suc, List, [], ◌∷◌, length, map, Bool, true, false, Option, None, Some, Result, Ok, Err, refl, subst, sym}
use Rattle.std.specs.Prelude.{◌==◌, IsSome, if◌then◌else◌, nat_lt}
use Rattle.kr_base.specs.Limits.{data_limit}
use Rattle.kr_config.specs.Kept.{ConfigEntry}
use Rattle.kr_config.specs.Lists.{list_of}
use Rattle.kr_config.specs.declared.who.Who.{Who}
use Rattle.kr_envelope.specs.declared.object.EncryptedObject.{EncryptedObject}
use Rattle.kr_envelope.specs.declared.object.ObjectNo.{ObjectNo}
use Rattle.kr_kms.specs.Cache.{CacheState}
use Rattle.kr_kms.specs.declared.plugin.Status.{Status}
use Rattle.kr_kms.specs.declared.plugin.Wrapped.{Wrapped}
use Rattle.kr_kms.specs.declared.seeds.SeedRow.{SeedRow}
use Rattle.kr_kms.specs.declared.world.Access.{Access}
use Rattle.kr_kms.specs.declared.world.Access.TheVariants.{ToMake, ToRead, ToWrite}
use Rattle.kr_provider.specs.Envelopes.{Envelope}
use Rattle.kr_provider.specs.PluginOrder.{plugin_order}
use Rattle.kr_provider.specs.Publication.{Publication}
use Rattle.kr_provider.specs.Readers.{reader_in, writer_of}
use Rattle.kr_provider.specs.Reading.{Reading, data_of, refused, unopened, is_stale, value_reading}
use Rattle.kr_provider.specs.Sealing.{draw_size, sealed_by}
use Rattle.kr_provider.specs.declared.refusal.Opened.{Opened}
use Rattle.kr_provider.specs.declared.refusal.ValueNo.{ValueNo}
use Rattle.kr_store.specs.Rows.{live}
use Rattle.kr_store.specs.Stores.{IsListing}
use Rattle.kr_store.specs.declared.rows.LogRow.{LogRow}
use Rattle.kr_store.specs.declared.rows.Row as stored
use Rattle.kr_cmd_messages.specs.declared.command.Command.{Command}
use Rattle.kr_cmd_messages.specs.declared.command.Command.TheVariants.{Migrate, Put, Rewrite}
use Rattle.kr_cmd_messages.specs.declared.command.Direction.TheVariants.{Encrypt}
use Rattle.kr_cmd_messages.specs.declared.refusal.Object.{Object}
use Rattle.kr_cmd_messages.specs.declared.refusal.Object.TheVariants.{Store, Target}
use Rattle.kr_cmd_messages.specs.declared.refusal.Refusal.{Refusal}
use Rattle.kr_cmd_steps.specs.Commands.{steps}
use Rattle.kr_cmd_steps.specs.Phases.{adding, by_result, configuration, input_of, linking_programs, settled_for, silently, stored_on, tape_for, within_limit}
use Rattle.kr_cmd_steps.specs.Plugins.{borrow_links, make_seeds, settings_programs}
use Rattle.kr_cmd_steps.specs.RewriteSteps.{Progress, driving, nothing_done, one_rewritten, replacing, resealing, rewriting_by, rewriting_live, rewriting_on, row_anew, row_by, row_data, row_steps, starting, within_journal}
use Rattle.kr_cmd_steps.specs.Steps.{StepState, or_empty, with_dice, with_input, with_tape, with_told, Steps, load, take_input, borrow_dice, borrow_tape, read_tape, write_row, keep_rows, settle, give_back, draw, borrow_link, ask_status, wrap, unwrap, note, find, refuse, give, and_then}
use Rattle.kr_cmd_steps.specs.StoreFiles.{Stored, none_there, with_row}
use Rattle.kr_cmd_steps.specs.StoreSteps.{copied_into, copying, migrated_line, migrated_row, migrating_into, new_row, revision_line, sealed_into, source_on, stored_into, target_on, target_read}
use Rattle.kr_cmd_steps.specs.ValueSteps.{bench_steps, draw_some, reading_given, value_read, value_sealed, value_with, none_kept}
use Rattle.kr_cmd_steps.specs.declared.programs.Program.{Program}
use Rattle.kr_kms.specs.Exchanges.{Exchange}
use Rattle.kr_kms.specs.Outside.{makes, same_name}
use Rattle.kr_cmd_messages.specs.declared.command.Conversion.{Conversion}
use Rattle.kr_cmd_steps.specs.Environment.{step_state}
use Rattle.kr_cmd_steps.specs.Telling.{IsTold}
use Rattle.kr_cmd_laws.specs.Results.{AllIsTold}
use Rattle.kr_cmd_laws.proofs.ReadOnly.{IsReadOnly, command_reads, seeds_read, work_reads}
use Rattle.kr_cmd_laws.proofs.Settled.{told_or_empty}
use Rattle.kr_cmd_laws.proofs.OpeningSteps.{opens}

-- steps borrow and read tapes only where the first holds, and never behind a write; they write only
-- where the second does; and they draw at seat 0 alone
abbrev Uses : {A : Type 0} → (Reads Writes : Type 0) → Steps A → Type 0
Uses R W (load name next) = (bytes : Option (List ℕ)) → Uses R W (next bytes)
Uses R W (take_input limit long next) = (bytes : List ℕ) → Uses R W (next bytes)
Uses R W (borrow_dice seat next) = Uses R W next
Uses R W (borrow_tape name access absent next) = R × Uses R W next
Uses R W (read_tape object name next) = R × ((bytes : List ℕ) → Uses R W (next bytes))
Uses R W (write_row object name store row next) = W × Uses ⊥ W next
Uses R W (keep_rows name store next) = W × Uses ⊥ W next
Uses R W (settle object name next) = Uses R W next
Uses R W (draw seat size next) = (seat ≡ 0) × ((bytes : List ℕ) → Uses R W (next bytes))
Uses R W (borrow_link seat plugin program next) = Uses R W next
Uses R W (ask_status seat plugin next) = (status : Status) → Uses R W (next status)
Uses R W (wrap seat plugin plain next) = (wrapped : Wrapped) → Uses R W (next wrapped)
Uses R W (unwrap seat key next) = (bytes : List ℕ) → Uses R W (next bytes)
Uses R W (give_back name next) = Uses R W next
Uses R W (note text next) = Uses R W next
Uses R W (find B P next) = (b : B) → P b → Uses R W (next b)
Uses R W (refuse why) = Unit {0}
Uses R W (give x) = Unit {0}

-- no tape
abbrev Quiet : {A : Type 0} → Steps A → Type 0
Quiet s = Uses ⊥ ⊥ s

-- they read tapes alone; they write them alone; they read, and then write
abbrev Reads : {A : Type 0} → Steps A → Type 0
Reads s = Uses (Unit {0}) ⊥ s

abbrev Writes : {A : Type 0} → Steps A → Type 0
Writes s = Uses ⊥ (Unit {0}) s

abbrev Both : {A : Type 0} → Steps A → Type 0
Both s = Uses (Unit {0}) (Unit {0}) s

wider : {A : Type 0} (R S W V : Type 0) → (R → S) → (W → V) → (s : Steps A) → Uses R W s
    → Uses S V s
wider R S W V f g (load name next) u = λ bytes. wider R S W V f g (next bytes) (u bytes)
wider R S W V f g (take_input limit long next) u =
    λ bytes. wider R S W V f g (next bytes) (u bytes)
wider R S W V f g (borrow_dice seat next) u = wider R S W V f g next u
wider R S W V f g (borrow_tape name access absent next) u =
    (f u.0, wider R S W V f g next u.1)
wider R S W V f g (read_tape object name next) u =
    (f u.0, λ bytes. wider R S W V f g (next bytes) (u.1 bytes))
wider R S W V f g (write_row object name store row next) u =
    (g u.0, wider ⊥ ⊥ W V (λ e. e) g next u.1)
wider R S W V f g (keep_rows name store next) u = (g u.0, wider ⊥ ⊥ W V (λ e. e) g next u.1)
wider R S W V f g (settle object name next) u = wider R S W V f g next u
wider R S W V f g (draw seat size next) u =
    (u.0, λ bytes. wider R S W V f g (next bytes) (u.1 bytes))
wider R S W V f g (borrow_link seat plugin program next) u = wider R S W V f g next u
wider R S W V f g (ask_status seat plugin next) u =
    λ status. wider R S W V f g (next status) (u status)
wider R S W V f g (wrap seat plugin plain next) u =
    λ wrapped. wider R S W V f g (next wrapped) (u wrapped)
wider R S W V f g (unwrap seat key next) u = λ bytes. wider R S W V f g (next bytes) (u bytes)
wider R S W V f g (give_back name next) u = wider R S W V f g next u
wider R S W V f g (note text next) u = wider R S W V f g next u
wider R S W V f g (find B P next) u = λ b is. wider R S W V f g (next b) (u b is)
wider R S W V f g (refuse why) u = tt
wider R S W V f g (give x) u = tt

-- behind steps that write nothing all may come that may come at first
behind : {A B : Type 0} (R W : Type 0) (others : A → Steps B) → ((x : A) → Uses R W (others x))
    → (first : Steps A) → Uses R ⊥ first → Uses R W (and_then first others)
behind R W others on (load name next) u = λ bytes. behind R W others on (next bytes) (u bytes)
behind R W others on (take_input limit long next) u =
    λ bytes. behind R W others on (next bytes) (u bytes)
behind R W others on (borrow_dice seat next) u = behind R W others on next u
behind R W others on (borrow_tape name access absent next) u =
    (u.0, behind R W others on next u.1)
behind R W others on (read_tape object name next) u =
    (u.0, λ bytes. behind R W others on (next bytes) (u.1 bytes))
behind R W others on (settle object name next) u = behind R W others on next u
behind R W others on (draw seat size next) u =
    (u.0, λ bytes. behind R W others on (next bytes) (u.1 bytes))
behind R W others on (borrow_link seat plugin program next) u = behind R W others on next u
behind R W others on (ask_status seat plugin next) u =
    λ status. behind R W others on (next status) (u status)
behind R W others on (wrap seat plugin plain next) u =
    λ wrapped. behind R W others on (next wrapped) (u wrapped)
behind R W others on (unwrap seat key next) u =
    λ bytes. behind R W others on (next bytes) (u bytes)
behind R W others on (give_back name next) u = behind R W others on next u
behind R W others on (note text next) u = behind R W others on next u
behind R W others on (find D P next) u = λ b is. behind R W others on (next b) (u b is)
behind R W others on (refuse why) u = tt
behind R W others on (give x) u = on x
behind R W others on other u = absurd u.0

-- behind steps that may write nothing reads
last : {A B : Type 0} (R W : Type 0) (others : A → Steps B) → ((x : A) → Uses ⊥ W (others x))
    → (first : Steps A) → Uses R W first → Uses R W (and_then first others)
last R W others on (load name next) u = λ bytes. last R W others on (next bytes) (u bytes)
last R W others on (take_input limit long next) u =
    λ bytes. last R W others on (next bytes) (u bytes)
last R W others on (borrow_dice seat next) u = last R W others on next u
last R W others on (borrow_tape name access absent next) u = (u.0, last R W others on next u.1)
last R W others on (read_tape object name next) u =
    (u.0, λ bytes. last R W others on (next bytes) (u.1 bytes))
last R W others on (write_row object name store row next) u =
    (u.0, last ⊥ W others on next u.1)
last R W others on (keep_rows name store next) u = (u.0, last ⊥ W others on next u.1)
last R W others on (settle object name next) u = last R W others on next u
last R W others on (draw seat size next) u =
    (u.0, λ bytes. last R W others on (next bytes) (u.1 bytes))
last R W others on (borrow_link seat plugin program next) u = last R W others on next u
last R W others on (ask_status seat plugin next) u =
    λ status. last R W others on (next status) (u status)
last R W others on (wrap seat plugin plain next) u =
    λ wrapped. last R W others on (next wrapped) (u wrapped)
last R W others on (unwrap seat key next) u = λ bytes. last R W others on (next bytes) (u bytes)
last R W others on (give_back name next) u = last R W others on next u
last R W others on (note text next) u = last R W others on next u
last R W others on (find D P next) u = λ b is. last R W others on (next b) (u b is)
last R W others on (refuse why) u = tt
last R W others on (give x) u = wider ⊥ R W W (λ e. absurd e) (λ w. w) (others x) (on x)

-- steps that make and write no tape read alone
read_alone : {A : Type 0} (s : Steps A) → IsReadOnly s → Reads s
read_alone (load name next) r = λ bytes. read_alone (next bytes) (r bytes)
read_alone (take_input limit long next) r = λ bytes. read_alone (next bytes) (r bytes)
read_alone (borrow_dice seat next) r = read_alone next r
read_alone (borrow_tape name access absent next) r = (tt, read_alone next r.1)
read_alone (read_tape object name next) r = (tt, λ bytes. read_alone (next bytes) (r bytes))
read_alone (settle object name next) r = read_alone next r
read_alone (draw seat size next) r = (r.0, λ bytes. read_alone (next bytes) (r.1 bytes))
read_alone (borrow_link seat plugin program next) r = read_alone next r
read_alone (ask_status seat plugin next) r = λ status. read_alone (next status) (r status)
read_alone (wrap seat plugin plain next) r = λ wrapped. read_alone (next wrapped) (r wrapped)
read_alone (unwrap seat key next) r = λ bytes. read_alone (next bytes) (r bytes)
read_alone (give_back name next) r = read_alone next r
read_alone (note text next) r = read_alone next r
read_alone (find B P next) r = λ b is. read_alone (next b) (r b)
read_alone (refuse why) r = tt
read_alone (give x) r = tt
read_alone other r = absurd r.0

-- ---- what is told stays told, but for a tape that was written

some_if : {T : Type 0} (q : Bool) (a b : Option T) → IsSome a → IsSome b
    → IsSome (if q then a else b)
some_if true a b x y = x
some_if false a b x y = y

-- files, input, the draws of seat 0, and the tapes where any may be read still
abbrev AllTold : (Reads : Type 0) → StepState → Type 0
AllTold R told = ((name : List ℕ) → IsSome (told.file name)) × IsSome told.input
    × IsSome (told.dice 0) × (R → (name : List ℕ) → IsSome (told.tapes name))

lent : (R : Type 0) (make : Bool) (name : List ℕ) (told : StepState) → AllTold R told
    → AllTold R (with_tape make name told)
lent R false name told t = t
lent R true name told t = (
  t.0,
  t.1,
  t.2,
  λ r other. some_if (same_name name other) (or_empty (told.tapes name)) (told.tapes other)
      (told_or_empty (told.tapes name) (t.3 r name)) (t.3 r other),
)

module _ (exchanges : List Exchange) where
  told_all : {A : Type 0} (R W : Type 0) (s : Steps A) (told : StepState) → Uses R W s
      → AllTold R told → IsTold (Some exchanges) s told
  told_all R W (load name next) told u t =
      (t.0 name, λ file is. told_all R W (next file) told (u file) t)
  told_all R W (take_input limit long next) told u t = (
    t.1,
    λ bytes is short. told_all R W (next bytes) (with_input (Some []) told) (u bytes)
        (t.0, refl, t.2, t.3),
  )
  told_all R W (borrow_dice seat next) told u t = told_all R W next told u t
  told_all R W (borrow_tape name access absent next) told u t = (
    t.3 u.0 name,
    λ may. told_all R W next (with_tape (makes access) name told) u.1
        (lent R (makes access) name told t),
  )
  told_all R W (read_tape object name next) told u t =
      (t.3 u.0 name, λ bytes is. told_all R W (next bytes) told (u.1 bytes) t)
  told_all R W (write_row object name store row next) told u t =
      told_all ⊥ W next (with_told name None told) u.1 (t.0, t.1, t.2, λ none. absurd none)
  told_all R W (keep_rows name store next) told u t =
      told_all ⊥ W next (with_told name None told) u.1 (t.0, t.1, t.2, λ none. absurd none)
  told_all R W (settle object name next) told u t = told_all R W next told u t
  told_all R W (draw seat size next) told u t = (
    subst (λ n. IsSome (told.dice n)) (sym u.0) t.2,
    λ bytes rest is fits. told_all R W (next bytes) (with_dice seat (Some rest) told) (u.1 bytes) (
      t.0,
      t.1,
      some_if (seat == 0) (Some rest) (told.dice 0) refl t.2,
      t.3,
    ),
  )
  told_all R W (borrow_link seat plugin program next) told u t = told_all R W next told u t
  told_all R W (ask_status seat plugin next) told u t =
      (refl, λ status among. told_all R W (next status) told (u status) t)
  told_all R W (wrap seat plugin plain next) told u t =
      (refl, λ wrapped among. told_all R W (next wrapped) told (u wrapped) t)
  told_all R W (unwrap seat key next) told u t =
      (refl, λ bytes among. told_all R W (next bytes) told (u bytes) t)
  told_all R W (give_back name next) told u t = told_all R W next told u t
  told_all R W (note text next) told u t = told_all R W next told u t
  told_all R W (find B P next) told u t = λ b is. told_all R W (next b) told (u b is) t
  told_all R W (refuse why) told u t = tt
  told_all R W (give x) told u t = tt

-- ---- phases

-- any steps behind quiet ones
after : {A B : Type 0} (R W : Type 0) (others : A → Steps B) → ((x : A) → Uses R W (others x))
    → (first : Steps A) → Quiet first → Uses R W (and_then first others)
after R W others on first u =
    behind R W others on first (wider ⊥ R ⊥ ⊥ (λ e. absurd e) (λ e. e) first u)

-- quiet steps are any
any : {A : Type 0} (R W : Type 0) (s : Steps A) → Quiet s → Uses R W s
any R W s u = wider ⊥ R ⊥ W (λ e. absurd e) (λ e. absurd e) s u

result : {A : Type 0} (r : Result A Refusal) → Quiet (by_result r)
result (Ok x) = tt
result (Err why) = tt

configured : (name : List ℕ) → Quiet (configuration name)
configured name = λ bytes. λ r is. result r

linking : (options : List (List ℕ × List ℕ)) (rows : List ConfigEntry)
    → Quiet (linking_programs options rows)
linking options rows = λ u v. result (settings_programs options (plugin_order rows))

read_stored : (object : Object) (name : List ℕ) → Reads (stored_on object name)
read_stored object name =
    (tt, λ bytes. λ r is. any (Unit {0}) ⊥ (by_result r) (result r))

added : (object : Object) (name : List ℕ) (store : Stored) (row : LogRow)
    → Writes (adding object name store row)
added object name store row = λ u v.
    after ⊥ (Unit {0}) (λ grown. write_row object name store row (give grown))
    (λ grown. (tt, tt)) (by_result (within_limit (with_row row store)))
    (result (within_limit (with_row row store)))

-- a tape for these steps, settled behind them
closed : {A : Type 0} (object : Object) (name : List ℕ) (access : Access) (next : Steps A)
    → Both next → Both (settled_for object name access next)
closed object name access next u = (
  tt,
  last (Unit {0}) (Unit {0}) (λ made. settle object name (give made)) (λ made. tt) next u,
)

linked : {A : Type 0} (R W : Type 0) (programs : List Program) (next : Steps A) → Uses R W next
    → Uses R W (borrow_links programs next)
linked R W [] next u = u
linked R W (program ∷ programs) next u = linked R W programs next u

drawn : {A : Type 0} (size : ℕ) (next : List ℕ → Steps A) → ((bytes : List ℕ) → Quiet (next bytes))
    → Quiet (draw_some size next)
drawn zero next u = u []
drawn (suc more) next u = (refl, u)

sealed : (seeds : List SeedRow) (who : Who) (path plain : List ℕ)
    → Quiet (value_sealed seeds who path plain)
sealed seeds who path plain = λ u v.
    drawn (draw_size who) (λ bytes. give (sealed_by seeds who path plain bytes)) (λ bytes. tt)

given : (reading : Reading) (stale : Bool) → Quiet (reading_given reading stale)
given (data_of plain) stale = tt
given (refused why) stale = tt
given unopened stale = λ none u. absurd none

read_with : (seeds : List SeedRow) (list : List Who) (path bytes : List ℕ)
    (object : Result EncryptedObject ObjectNo) (source : Option (List ℕ)) (kept : CacheState)
    → Quiet (value_with seeds list path bytes object source kept)
read_with seeds list path bytes object source kept =
    let envelope : Envelope = record { object = object; source = source } in
    after ⊥ ⊥ (λ read. give (read, kept)) (λ read. tt)
    (reading_given (value_reading envelope list path bytes) (is_stale envelope seeds list bytes))
    (given (value_reading envelope list path bytes) (is_stale envelope seeds list bytes))

read : (seeds : List SeedRow) (list : List Who) (path bytes : List ℕ) (kept : CacheState)
    → Quiet (value_read seeds list path bytes kept)
read seeds list path bytes kept = λ object is.
    let on = read_with seeds list path bytes object in
    opens (λ (s : Steps (Result Opened ValueNo × CacheState)). Quiet s)
    (value_with seeds list path bytes object) on
    (λ before key. λ source after keeps. on (Some source) after) seeds (reader_in list bytes) object
    kept

-- steps over the programs of a configuration in a file
over : {A : Type 0} (config : List ℕ) (options : List (List ℕ × List ℕ))
    (next : List ConfigEntry → List Program → Steps A)
    → ((rows : List ConfigEntry) (programs : List Program) → Both (next rows programs))
    → Both (and_then (configuration config) (λ rows.
    and_then (linking_programs options rows) (next rows)))
over config options next on =
    after (Unit {0}) (Unit {0}) (λ rows. and_then (linking_programs options rows) (next rows))
    (λ rows. after (Unit {0}) (Unit {0}) (next rows) (on rows) (linking_programs options rows)
    (linking options rows)) (configuration config) (configured config)

copied : (name : List ℕ) (rows : List LogRow) (store : Stored) → Writes (copying name store rows)
copied name [] store = tt
copied name (row ∷ rows) store = last ⊥ (Unit {0}) (λ grown. copying name grown rows)
    (λ grown. copied name rows grown) (adding Target name store row) (added Target name store row)

-- ---- a rewrite

module _ (name : List ℕ) (p : Publication) where
  replaced : (row : stored.Row) (at : Progress) (value : Option (List ℕ))
      → Writes (replacing name p row at value)
  replaced row at None = tt
  replaced row at (Some value) = last ⊥ (Unit {0})
      (λ grown. give (one_rewritten (row_anew at.store.format p row value) at)) (λ grown. tt)
      (adding Store name at.store (row_anew at.store.format p row value))
      (added Store name at.store (row_anew at.store.format p row value))

  resealed : (long : Bool) (row : stored.Row) (plain : List ℕ) (at : Progress)
      → Writes (resealing long name p row plain at)
  resealed true row plain at = tt
  resealed false row plain at = after ⊥ (Unit {0}) (replacing name p row at) (replaced row at)
      (value_sealed p.seeds (writer_of (list_of p.rows row.resource)) row.path plain)
      (sealed p.seeds (writer_of (list_of p.rows row.resource)) row.path plain)

  renewed : (row : stored.Row) (at : Progress) (plain : List ℕ) (stale : Bool)
      → Writes (row_data name p row at plain stale)
  renewed row at plain false = tt
  renewed row at plain true = λ u v. resealed (nat_lt data_limit (length plain)) row plain at

  by_reading : (row : stored.Row) (at : Progress) (read : Result Opened ValueNo)
      → Writes (row_by name p row at read)
  by_reading row at (Ok opened) = renewed row at opened.plain opened.stale
  by_reading row at (Err why) = tt

  driven : (live : List stored.Row) (kept : CacheState) (at : Progress)
      → Writes (driving name p live kept at)
  driven [] kept at = (tt, λ u v. tt)
  driven (row ∷ live) kept at = (
    tt,
    last ⊥ (Unit {0}) (λ done. driving name p live done.1 done.0)
        (λ done. driven live done.1 done.0) (row_steps name p row kept at)
        (after ⊥ (Unit {0})
        (λ read. and_then (row_by name p row at read.0) (λ done. give (done, read.1)))
        (λ read. last ⊥ (Unit {0}) (λ done. give (done, read.1)) (λ done. tt)
        (row_by name p row at read.0) (by_reading row at read.0))
        (value_read p.seeds (list_of p.rows row.resource) row.path row.stored kept)
        (read p.seeds (list_of p.rows row.resource) row.path row.stored kept)),
  )

-- steps that only write may read at first
to_write : {A : Type 0} (s : Steps A) → Writes s → Both s
to_write s u = wider ⊥ (Unit {0}) (Unit {0}) (Unit {0}) (λ e. absurd e) (λ w. w) s u

rewritten : (name : List ℕ) (rows : List ConfigEntry) (store : Stored) (live : List stored.Row)
    → Both (rewriting_by name rows store live)
rewritten name rows store live = λ u v. behind (Unit {0}) (Unit {0})
    (λ seeds. and_then (starting store.rows rows) (λ w.
    driving name (record { rows = rows; seeds = seeds }) live none_kept (nothing_done store)))
    (λ seeds. after (Unit {0}) (Unit {0})
    (λ w. driving name (record { rows = rows; seeds = seeds }) live none_kept (nothing_done store))
    (λ w. to_write (driving name (record { rows = rows; seeds = seeds }) live none_kept (nothing_done store))
    (driven name (record { rows = rows; seeds = seeds }) live none_kept (nothing_done store)))
    (starting store.rows rows) (λ r is. result r))
    (make_seeds (plugin_order rows))
    (read_alone (make_seeds (plugin_order rows)) (seeds_read (plugin_order rows)))

-- ---- commands

-- steps behind a store that was read
stored_then : {A : Type 0} (object : Object) (name : List ℕ) (others : Stored → Steps A)
    → ((held : Stored) → Both (others held)) → Both (and_then (stored_on object name) others)
stored_then object name others on =
    behind (Unit {0}) (Unit {0}) others on (stored_on object name) (read_stored object name)

put_in : (words : Conversion) (store : List ℕ) (rows : List ConfigEntry)
    (programs : List Program) (bytes : List ℕ) (held : Stored)
    → Both (sealed_into words store rows programs bytes held)
put_in words store rows programs bytes held = behind (Unit {0}) (Unit {0})
    (λ made. and_then (adding Store store held (new_row held.format words rows made.bytes))
    (λ grown. give (silently (revision_line grown))))
    (λ made. to_write
    (and_then (adding Store store held (new_row held.format words rows made.bytes))
    (λ grown. give (silently (revision_line grown))))
    (last ⊥ (Unit {0}) (λ grown. give (silently (revision_line grown))) (λ grown. tt)
    (adding Store store held (new_row held.format words rows made.bytes))
    (added Store store held (new_row held.format words rows made.bytes))))
    (bench_steps programs Encrypt words.resource words.path rows bytes)
    (read_alone (bench_steps programs Encrypt words.resource words.path rows bytes)
    (work_reads programs Encrypt words.resource words.path rows bytes))

copied_in : (to : List ℕ) (rows : List ConfigEntry) (source target : Stored)
    → Writes (copied_into to rows source target)
copied_in to rows source target = λ u v. last ⊥ (Unit {0})
    (λ made. give (silently (migrated_line source.rows))) (λ made. tt)
    (copying to target (map (migrated_row rows) source.rows))
    (copied to (map (migrated_row rows) source.rows) target)

each : (command : Command) → Both (steps command)
each (Put words store) = over words.config words.options
    (λ rows programs. and_then (input_of Encrypt) (stored_into words store rows programs))
    (λ rows programs. λ bytes. closed Store store ToMake
    (and_then (stored_on Store store) (sealed_into words store rows programs bytes))
    (stored_then Store store (sealed_into words store rows programs bytes)
    (put_in words store rows programs bytes)))
each (Migrate words) = after (Unit {0}) (Unit {0})
    (λ rows. tape_for words.store ToRead
    (and_then (source_on words.store) (migrating_into words.to rows)))
    (λ rows. (
      tt,
      behind (Unit {0}) (Unit {0}) (migrating_into words.to rows)
          (λ source. closed Target words.to ToMake
          (and_then (target_on words.to) (copied_into words.to rows source))
          (behind (Unit {0}) (Unit {0}) (copied_into words.to rows source)
          (λ target. to_write (copied_into words.to rows source target)
          (copied_in words.to rows source target))
          (target_on words.to) (
            tt,
            λ bytes. after (Unit {0}) ⊥ (λ u. target_read words.to)
                (λ u. (tt, λ again. λ r is. any (Unit {0}) ⊥ (by_result r) (result r)))
                (by_result (none_there bytes)) (result (none_there bytes)),
          )))
          (source_on words.store)
          (tt, λ bytes. λ r is. any (Unit {0}) ⊥ (by_result r) (result r)),
    ))
    (configuration words.config) (configured words.config)
each (Rewrite words) = over words.config words.options
    (λ rows programs. settled_for Store words.store ToWrite
    (rewriting_on words.store rows programs))
    (λ rows programs. closed Store words.store ToWrite (rewriting_on words.store rows programs)
    (stored_then Store words.store (λ store. find (List stored.Row) (IsListing store.rows)
    (rewriting_live words.store rows programs store))
    (λ store. λ live is. after (Unit {0}) (Unit {0})
    (λ u. borrow_dice 0 (borrow_links programs (rewriting_by words.store rows store live)))
    (λ u. linked (Unit {0}) (Unit {0}) programs (rewriting_by words.store rows store live)
    (rewritten words.store rows store live)) (by_result (within_journal live))
    (result (within_journal live)))))
each command = wider (Unit {0}) (Unit {0}) ⊥ (Unit {0}) (λ r. r) (λ e. absurd e) (steps command)
    (read_alone (steps command) (command_reads command tt))

pub all_is_told : AllIsTold
all_is_told command old exchanges tells =
    told_all exchanges (Unit {0}) (Unit {0}) (steps command) (step_state old) (each command)
    (tells.file, tells.input, tells.dice, λ u. tells.tapes)
