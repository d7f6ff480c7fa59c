-- The steps that seal data and read a value, with the random source and the links that these want.
use Rattle.std.specs.Prelude.{ℕ, zero, suc, Bool, List, [], Option, Some, None, Result, Ok, Err, if◌then◌else◌}
use Rattle.kr_config.specs.Kept.{ConfigEntry}
use Rattle.kr_config.specs.Lists.{list_of}
use Rattle.kr_config.specs.declared.who.Who.{Who}
use Rattle.kr_config.specs.declared.who.Who.TheVariants.{Kms}
use Rattle.kr_envelope.specs.declared.object.EncryptedObject.{EncryptedObject}
use Rattle.kr_envelope.specs.declared.object.ObjectNo.{ObjectNo}
use Rattle.kr_kms.specs.Cache.{CacheState, KeepsAnswer, key_eq, seed_at, with_used}
use Rattle.kr_kms.specs.Opens.{key_of}
use Rattle.kr_kms.specs.declared.seeds.SeedKey.{SeedKey}
use Rattle.kr_kms.specs.declared.seeds.SeedRow.{SeedRow}
use Rattle.kr_provider.specs.Envelopes.{Envelope, HasObject, seed_key}
use Rattle.kr_provider.specs.PluginOrder.{plugin_order}
use Rattle.kr_provider.specs.Publication.{seed_of}
use Rattle.kr_provider.specs.Reading.{Reading, data_of, refused, unopened, value_reading, is_stale}
use Rattle.kr_provider.specs.Readers.{reader_in, writer_of}
use Rattle.kr_provider.specs.Sealing.{draw_size, sealed_by}
use Rattle.kr_provider.specs.declared.refusal.Opened.{Opened}
use Rattle.kr_provider.specs.declared.refusal.ValueNo.{ValueNo}
use Rattle.kr_provider.specs.declared.refusal.ValueNo.TheVariants.{LooksEncrypted}
use Rattle.kr_cmd_steps.specs.Steps.{Steps, borrow_dice, draw, find, refuse, give, and_then, unwrap}
use Rattle.kr_cmd_steps.specs.Plugins.{borrow_links, make_seeds}
use Rattle.kr_cmd_messages.specs.declared.command.Direction.{Direction}
use Rattle.kr_cmd_messages.specs.declared.command.Direction.TheVariants.{Encrypt, Decrypt}
use Rattle.kr_cmd_steps.specs.declared.programs.Program.{Program}
use Rattle.kr_cmd_messages.specs.declared.refusal.Refusal.TheVariants.{Value}
use Rattle.kr_cmd_messages.specs.declared.refusal.Done.{Done}
use Rattle.kr_cmd_messages.specs.declared.refusal.Done.TheVariants.{Fresh, Stale}
use Rattle.kr_cmd_messages.specs.declared.refusal.Outcome.{Outcome}
use Rattle.kr_cmd_steps.specs.Phases.{never, with_memory, silently}

-- so many bytes of the random source of seat 0; none are no draw
abbrev pub draw_some : {A : Type 0} → ℕ → (List ℕ → Steps A) → Steps A
draw_some zero next = next []
draw_some (suc more) next = draw 0 (suc more) next

-- the value of the data, where the writer seals them
abbrev pub value_sealed : List SeedRow → Who → (path plain : List ℕ) → Steps (Option (List ℕ))
value_sealed seeds who path plain = with_memory
    (draw_some (draw_size who) (λ drawn. give (sealed_by seeds who path plain drawn)))

-- identity gives no value for data that look like another provider's: refusal 13
abbrev pub value_steps : Option (List ℕ) → Steps Outcome
value_steps (Some value) = give (silently value)
value_steps None = refuse (Value LooksEncrypted)

abbrev pub sealing : List SeedRow → Who → (path plain : List ℕ) → Steps Outcome
sealing seeds who path plain = and_then (value_sealed seeds who path plain) value_steps

-- ---- decrypt: the data, and whether the value is stale

-- what a value reads as: data, and whether it is stale; or why it isn't read. A value whose source
-- was unwrapped, or that has none, doesn't stay unopened
abbrev pub reading_given : Reading → Bool → Steps (Result Opened ValueNo)
reading_given (data_of plain) stale = give (Ok (record { plain = plain; stale = stale }))
reading_given (refused why) stale = give (Err why)
reading_given unopened stale = never

-- the published seed, where the source is its own
abbrev pub published_source : Option SeedRow → SeedKey → Option (List ℕ)
published_source None key = None
published_source (Some row) key = if key_eq (key_of row) key then Some row.seed else None

-- nothing was unwrapped yet; the seeds of 64 sources are kept, those that were used last
abbrev pub none_kept : CacheState
none_kept = record { rows = []; size = 64 }

-- a seed that is kept is used, and its plugin isn't asked; else the plugin unwraps the source, and
-- what it gives is kept as far as there is memory for it
abbrev pub fetching : {A : Type 0} → Option (List ℕ) → CacheState → SeedKey
    → (Option (List ℕ) → CacheState → Steps A) → Steps A
fetching (Some seed) kept key next = next (Some seed) (with_used kept key)
fetching None kept key next =
    unwrap 0 key (λ seed. find CacheState (KeepsAnswer kept key (Ok seed)) (next (Some seed)))

-- where the published seed isn't the source's own, it is fetched
abbrev pub source_steps : {A : Type 0} → Option (List ℕ) → CacheState → SeedKey
    → (Option (List ℕ) → CacheState → Steps A) → Steps A
source_steps (Some seed) kept key next = next (Some seed) kept
source_steps None kept key next = fetching (seed_at kept.rows key) kept key next

-- only the object of a plugin's value has a source
abbrev pub opening : {A : Type 0} → List SeedRow → Option Who → Result EncryptedObject ObjectNo
    → CacheState → (Option (List ℕ) → CacheState → Steps A) → Steps A
opening seeds (Some (Kms name)) (Ok object) kept next =
    source_steps (published_source (seed_of name seeds) (seed_key name object)) kept
    (seed_key name object) next
opening seeds reader object kept next = next None kept

-- the value with this object, once its source is there; and what is kept then
abbrev pub value_with : List SeedRow → List Who → (path bytes : List ℕ)
    → Result EncryptedObject ObjectNo → Option (List ℕ) → CacheState
    → Steps (Result Opened ValueNo × CacheState)
value_with seeds list path bytes object source kept =
    let envelope : Envelope = record { object = object; source = source } in
    and_then (reading_given (value_reading envelope list path bytes)
    (is_stale envelope seeds list bytes)) (λ read. give (read, kept))

abbrev pub value_read : List SeedRow → List Who → (path bytes : List ℕ) → CacheState
    → Steps (Result Opened ValueNo × CacheState)
value_read seeds list path bytes kept =
    find (Result EncryptedObject ObjectNo) (HasObject (reader_in list bytes) bytes)
    (λ object. opening seeds (reader_in list bytes) object kept
    (value_with seeds list path bytes object))

abbrev pub freshness : Bool → Done
freshness stale = if stale then Stale else Fresh

abbrev pub data_steps : Result Opened ValueNo → Steps Outcome
data_steps (Ok opened) = give (record { bytes = opened.plain; done = freshness opened.stale })
data_steps (Err why) = refuse (Value why)

abbrev pub unsealing : List SeedRow → List Who → (path bytes : List ℕ) → Steps Outcome
unsealing seeds list path bytes =
    and_then (value_read seeds list path bytes none_kept) (λ read. data_steps read.0)

-- ---- both of these go one way

abbrev pub working_by : Direction → (resource path : List ℕ) → List ConfigEntry → List ℕ
    → List SeedRow
    → Steps Outcome
working_by Encrypt resource path rows bytes seeds =
    sealing seeds (writer_of (list_of rows resource)) path bytes
working_by Decrypt resource path rows bytes seeds =
    unsealing seeds (list_of rows resource) path bytes

-- each plugin's seed is made before
abbrev pub working : Direction → (resource path : List ℕ) → List ConfigEntry → List ℕ
    → Steps Outcome
working direction resource path rows bytes = with_memory
    (and_then (make_seeds (plugin_order rows)) (working_by direction resource path rows bytes))

-- with the random source and the links that this wants
abbrev pub bench_steps : List Program → Direction → (resource path : List ℕ) → List ConfigEntry
    → List ℕ
    → Steps Outcome
bench_steps programs direction resource path rows bytes =
    borrow_dice 0 (borrow_links programs (working direction resource path rows bytes))
