-- What each command's steps find is one thing, or they go on alike from whatever they find.
use Rattle.std.specs.Prelude.{⊤, ◌||◌, cond, nat_lt, not, find as first_of}
use Rattle.kr_kms.specs.Cache.{CacheState, KeepsAnswer, seed_at, with_used}
use Rattle.kr_kms.specs.Exchanges.{Exchange, UnwrapCall}
use Rattle.kr_base.specs.Visible.{visible}
use Rattle.kr_cmd_messages.specs.Reports.{report_text, report_outcome}
use Rattle.kr_cmd_messages.specs.declared.refusal.Refusal.TheVariants.{Absent}
use Rattle.kr_cmd_steps.specs.Phases.{read_for, input_limit, long_input, adding, by_result, configuration, input_of, linking_programs, settled_for, silently, stored_on, tape_for, with_memory, within_limit}
use Rattle.kr_cmd_steps.specs.ValueSteps.{fetching, none_kept, sealing, bench_steps, data_steps, draw_some, opening, published_source, reading_given, source_steps, value_read, value_sealed, value_steps, value_with, working, working_by}
use Rattle.kr_cmd_steps.specs.Telling.{AnswersOnce, IsAmong}
use Rattle.kr_cmd_laws.proofs.GoAlike.{GoAlike, IsOne, plain_finds, Same, alike_then, borrows_dice, borrows_link, borrows_tape, first_finds, first_unwraps, give_both, itself, keeps_rows, notes, second_finds, second_unwraps, takes}
use Rattle.kr_cmd_laws.proofs.Kept.{AreHeld, answer_held, none_held, seed_held, used_held}
use Rattle.kr_cmd_laws.proofs.Once.{one_configuration, one_source, one_started, one_target}
use Rattle.std.proofs.Common.{◌≡◌, ℕ, zero, suc, List, [], ◌∷◌, length, map, Bool, true, false, Option, None, Some, Result, Ok, Err, refl, sym, ap, subst}
use Rattle.kr_base.specs.Limits.{data_limit}
use Rattle.kr_config.specs.Kept.{ConfigEntry}
use Rattle.kr_config.specs.Lists.{list_of}
use Rattle.kr_config.specs.declared.who.Who.{Who}
use Rattle.kr_config.specs.declared.who.Who.TheVariants.{Aescbc, Aesgcm, Identity, Kms}
use Rattle.kr_envelope.proofs.OneReading.{one_reading}
use Rattle.kr_envelope.specs.declared.object.EncryptedObject.{EncryptedObject}
use Rattle.kr_envelope.specs.declared.object.ObjectNo.{ObjectNo}
use Rattle.kr_kms.specs.Health.{breach_in}
use Rattle.kr_kms.specs.declared.health.Field.{Field}
use Rattle.kr_kms.specs.declared.seeds.SeedKey.{SeedKey}
use Rattle.kr_kms.specs.declared.seeds.SeedRow.{SeedRow}
use Rattle.kr_kms.specs.declared.world.Access.{Access}
use Rattle.kr_kms.specs.declared.world.Access.TheVariants.{ToMake, ToRead, ToWrite}
use Rattle.kr_provider.proofs.OneReading.{IsNoPlugin, any_envelope, both_answered}
use Rattle.kr_provider.specs.Envelopes.{Envelope, HasObject, seed_key}
use Rattle.kr_provider.specs.PluginOrder.{plugin_order}
use Rattle.kr_provider.specs.Publication.{Publication, seed_of}
use Rattle.kr_provider.specs.Readers.{body_by, is_reader, reader_in, writer_of}
use Rattle.kr_provider.specs.Reading.{Reading, data_of, refused, unopened, is_rotated, is_stale, value_reading}
use Rattle.kr_provider.specs.Sealing.{draw_size, sealed_by}
use Rattle.kr_provider.specs.declared.refusal.Opened.{Opened}
use Rattle.kr_provider.specs.declared.refusal.ValueNo.{ValueNo}
use Rattle.kr_store.proofs.Listings.{listing_once}
use Rattle.kr_store.specs.Rows.{live}
use Rattle.kr_store.specs.Stores.{IsListing}
use Rattle.kr_store.specs.declared.rows.LogRow.{LogRow}
use Rattle.kr_store.specs.declared.rows.Row as stored
use Rattle.kr_cmd_messages.specs.declared.command.Command.{Command}
use Rattle.kr_cmd_messages.specs.declared.command.Command.TheVariants.{Convert, Get, Migrate, Put, Rewrite, Verify}
use Rattle.kr_cmd_messages.specs.declared.command.Direction.{Direction}
use Rattle.kr_cmd_messages.specs.declared.command.Direction.TheVariants.{Decrypt, Encrypt}
use Rattle.kr_cmd_messages.specs.declared.command.Migration.{Migration}
use Rattle.kr_cmd_messages.specs.declared.refusal.Object.{Object}
use Rattle.kr_cmd_messages.specs.declared.refusal.Object.TheVariants.{Store, Target}
use Rattle.kr_cmd_messages.specs.declared.refusal.Refusal.{Refusal}
use Rattle.kr_cmd_steps.specs.Commands.{steps}
use Rattle.kr_cmd_steps.specs.Configuration.{IsConfiguration}
use Rattle.kr_cmd_steps.specs.Plugins.{borrow_links, make_seed, make_seeds, settings_programs, unless_breach, wrap_seed}
use Rattle.kr_cmd_steps.specs.RewriteSteps.{IsStarted, Progress, driving, nothing_done, one_rewritten, replacing, resealing, rewriting_by, rewriting_live, rewriting_on, row_anew, row_by, row_data, row_steps, starting, within_journal}
use Rattle.kr_cmd_steps.specs.RowFindings.{finding_of}
use Rattle.kr_cmd_steps.specs.Steps.{Steps, load, take_input, borrow_dice, borrow_tape, read_tape, write_row, keep_rows, settle, give_back, draw, borrow_link, ask_status, wrap, unwrap, note, find, refuse, give, and_then}
use Rattle.kr_cmd_steps.specs.StoreFiles.{IsSource, IsStored, IsTarget, Stored, none_there, with_row}
use Rattle.kr_cmd_steps.specs.StoreSteps.{copied_into, copying, live_on, migrated_line, migrated_row, migrating_into, new_row, revision_line, row_finding, row_findings, row_found, row_on, sealed_into, source_on, stored_into, target_on, target_read, telling_findings, verifying_by, verifying_with}
use Rattle.kr_cmd_steps.specs.declared.programs.Program.{Program}
use Rattle.kr_cmd_laws.proofs.Listed.{one_stored}
use Rattle.kr_cmd_laws.proofs.Plain.{plain}

one_then : {A B : Type 0} (others : A → Steps B) → ((x : A) → IsOne (others x))
    → (first : Steps A) → IsOne first → IsOne (and_then first others)
one_then others on (load name next) one = λ bytes. one_then others on (next bytes) (one bytes)
one_then others on (take_input limit long next) one =
    λ bytes. one_then others on (next bytes) (one bytes)
one_then others on (borrow_dice seat next) one = one_then others on next one
one_then others on (borrow_tape name access absent next) one = one_then others on next one
one_then others on (read_tape object name next) one =
    λ bytes. one_then others on (next bytes) (one bytes)
one_then others on (write_row object name store row next) one = one_then others on next one
one_then others on (keep_rows name store next) one = one_then others on next one
one_then others on (settle object name next) one = one_then others on next one
one_then others on (draw seat size next) one =
    λ bytes. one_then others on (next bytes) (one bytes)
one_then others on (borrow_link seat plugin program next) one = one_then others on next one
one_then others on (ask_status seat plugin next) one =
    λ status. one_then others on (next status) (one status)
one_then others on (wrap seat plugin plain next) one =
    λ wrapped. one_then others on (next wrapped) (one wrapped)
one_then others on (unwrap seat key next) one =
    λ bytes. one_then others on (next bytes) (one bytes)
one_then others on (give_back name next) one = one_then others on next one
one_then others on (note text next) one = one_then others on next one
one_then others on (find D P next) one = (
  λ b c x y. ap (λ s. and_then s others) (one.0 b c x y),
  λ b x. one_then others on (next b) (one.1 b x),
)
one_then others on (refuse why) one = tt
one_then others on (give x) one = on x

-- ---- phases

found : {A B : Type 0} (Is : B → Type 0) (next : B → Steps A)
    → ((a b : B) → Is a → Is b → a ≡ b) → ((b : B) → IsOne (next b)) → IsOne (find B Is next)
found Is next once on = (λ a b x y. ap next (once a b x y), λ b x. on b)

result : {A : Type 0} (r : Result A Refusal) → IsOne (by_result r)
result (Ok x) = tt
result (Err why) = tt

remembered : {A : Type 0} (next : Steps A) → IsOne next → IsOne (with_memory next)
remembered next one = (λ a b x y. refl, λ b x. one)

configured : (name : List ℕ) → IsOne (configuration name)
configured name = λ bytes. found (IsConfiguration name bytes) by_result
    (one_configuration name bytes) result

read_stored : (object : Object) (name : List ℕ) → IsOne (stored_on object name)
read_stored object name = λ bytes. found (IsStored bytes) by_result (one_stored bytes) result

linking : (options : List (List ℕ × List ℕ)) (rows : List ConfigEntry)
    → IsOne (linking_programs options rows)
linking options rows = remembered (by_result (settings_programs options (plugin_order rows)))
    (result (settings_programs options (plugin_order rows)))

added : (object : Object) (name : List ℕ) (store : Stored) (row : LogRow)
    → IsOne (adding object name store row)
added object name store row =
    remembered (and_then (by_result (within_limit (with_row row store)))
    (λ grown. write_row object name store row (give grown)))
    (one_then (λ grown. write_row object name store row (give grown)) (λ grown. tt)
    (by_result (within_limit (with_row row store))) (result (within_limit (with_row row store))))

-- ---- seeds

healthy : {A : Type 0} (plugin : List ℕ) (breach : Option (Field × List ℕ)) (next : Steps A)
    → IsOne next → IsOne (unless_breach plugin breach next)
healthy plugin None next one = one
healthy plugin (Some breach) next one = tt

seeded : (plugins : List (List ℕ)) → IsOne (make_seeds plugins)
seeded [] = tt
seeded (plugin ∷ plugins) =
    one_then (λ row. and_then (make_seeds plugins) (λ rows. give (row ∷ rows)))
    (λ row. one_then (λ rows. give (row ∷ rows)) (λ rows. tt) (make_seeds plugins)
    (seeded plugins)) (make_seed plugin)
    (λ status. healthy plugin (breach_in status) (wrap_seed plugin) (λ seed. λ wrapped. tt))

-- ---- values

drawn : {A : Type 0} (size : ℕ) (next : List ℕ → Steps A) → ((bytes : List ℕ) → IsOne (next bytes))
    → IsOne (draw_some size next)
drawn zero next one = one []
drawn (suc more) next one = one

sealed : (seeds : List SeedRow) (who : Who) (path plain : List ℕ)
    → IsOne (value_sealed seeds who path plain)
sealed seeds who path plain =
    remembered (draw_some (draw_size who) (λ bytes. give (sealed_by seeds who path plain bytes)))
    (drawn (draw_size who) (λ bytes. give (sealed_by seeds who path plain bytes)) (λ bytes. tt))

valued : (value : Option (List ℕ)) → IsOne (value_steps value)
valued (Some value) = tt
valued None = tt

given : (reading : Reading) (stale : Bool) → IsOne (reading_given reading stale)
given (data_of plain) stale = tt
given (refused why) stale = tt
given unopened stale = (λ a b x y. absurd a, λ a x. absurd a)

-- a value that no plugin reads is as stale, whatever is taken for its envelope
stale_alike : (list : List Who) (bytes : List ℕ) (seeds : List SeedRow) (a b : Envelope)
    → IsNoPlugin (reader_in list bytes) → is_stale a seeds list bytes ≡ is_stale b seeds list bytes
stale_alike (Kms name ∷ rest) bytes seeds a b without =
    by_first (is_reader bytes (Kms name)) (first_of (is_reader bytes) rest)
    (is_rotated a seeds (Kms name)) (is_rotated b seeds (Kms name)) without
  where
    by_first : (q : Bool) (others : Option Who) (x y : Bool)
        → IsNoPlugin (cond q (Some (Kms name)) others) → (not q || x) ≡ (not q || y)
    by_first true others x y without = absurd (cc)
    by_first false others x y without = refl
stale_alike other bytes seeds a b without = refl

answered : (read : Result Opened ValueNo) → IsOne (data_steps read)
answered (Ok opened) = tt
answered (Err why) = tt

copied : (name : List ℕ) (rows : List LogRow) (store : Stored) → IsOne (copying name store rows)
copied name [] store = tt
copied name (row ∷ rows) store = one_then (λ grown. copying name grown rows)
    (λ grown. copied name rows grown) (adding Target name store row) (added Target name store row)

-- ---- a rewrite

module _ (name : List ℕ) (p : Publication) where
  replaced : (row : stored.Row) (at : Progress) (value : Option (List ℕ))
      → IsOne (replacing name p row at value)
  replaced row at None = tt
  replaced row at (Some value) = one_then
      (λ grown. give (one_rewritten (row_anew at.store.format p row value) at))
      (λ grown. tt) (adding Store name at.store (row_anew at.store.format p row value))
      (added Store name at.store (row_anew at.store.format p row value))

  resealed : (long : Bool) (row : stored.Row) (plain : List ℕ) (at : Progress)
      → IsOne (resealing long name p row plain at)
  resealed true row plain at = tt
  resealed false row plain at = one_then (replacing name p row at) (replaced row at)
      (value_sealed p.seeds (writer_of (list_of p.rows row.resource)) row.path plain)
      (sealed p.seeds (writer_of (list_of p.rows row.resource)) row.path plain)

  renewed : (row : stored.Row) (at : Progress) (plain : List ℕ) (stale : Bool)
      → IsOne (row_data name p row at plain stale)
  renewed row at plain false = tt
  renewed row at plain true =
      remembered (resealing (nat_lt data_limit (length plain)) name p row plain at)
      (resealed (nat_lt data_limit (length plain)) row plain at)

  by_reading : (row : stored.Row) (at : Progress) (read : Result Opened ValueNo)
      → IsOne (row_by name p row at read)
  by_reading row at (Ok opened) = renewed row at opened.plain opened.stale
  by_reading row at (Err why) = tt

-- ---- commands that ask no plugin

-- a tape for these steps, settled behind them
closed_one : {A : Type 0} (object : Object) (name : List ℕ) (access : Access) (next : Steps A)
    → IsOne next → IsOne (settled_for object name access next)
closed_one object name access next one =
    one_then (λ made. settle object name (give made)) (λ made. tt) next one

migrated : (words : Migration) → IsOne (steps (Migrate words))
migrated words = one_then
    (λ rows. tape_for words.store ToRead
    (and_then (source_on words.store) (migrating_into words.to rows)))
    (λ rows. one_then (migrating_into words.to rows)
    (λ source. closed_one Target words.to ToMake
    (and_then (target_on words.to) (copied_into words.to rows source))
    (one_then (copied_into words.to rows source)
    (λ target. remembered
    (and_then (copying words.to target (map (migrated_row rows) source.rows))
    (λ made. give (silently (migrated_line source.rows))))
    (one_then (λ made. give (silently (migrated_line source.rows))) (λ made. tt)
    (copying words.to target (map (migrated_row rows) source.rows))
    (copied words.to (map (migrated_row rows) source.rows) target)))
    (target_on words.to)
    (λ bytes. one_then (λ u. target_read words.to)
    (λ u. λ again. found (IsTarget again) by_result (one_target again) result)
    (by_result (none_there bytes)) (result (none_there bytes)))))
    (source_on words.store)
    (λ bytes. found (IsSource bytes) by_result (one_source bytes) result))
    (configuration words.config) (configured words.config)

-- ---- values that are read, by what plugins answered

module _ (exchanges : Option (List Exchange)) (once : AnswersOnce exchanges) where
  abbrev Alike : {A : Type 0} → Steps A → Type 1
  Alike s = GoAlike exchanges Same s s

  alone : {A : Type 0} (s : Steps A) → IsOne s → Alike s
  alone s one = itself exchanges once s one

  -- such steps, and what follows them
  behind : {A B : Type 0} (others : A → Steps B) → ((x : A) → Alike (others x))
      → (first : Steps A) → Alike first → Alike (and_then first others)
  behind others on first a = alike_then exchanges Same Same others others
      (λ x y e. subst (λ z. GoAlike exchanges Same (others x) (others z)) e (on x)) first first a

  -- where there is memory for them
  memory : {A B : Type 0} (R : A → B → Type 0) (s : Steps A) (t : Steps B)
      → GoAlike exchanges R s t → GoAlike exchanges R (with_memory s) (with_memory t)
  memory R s t a = first_finds ⊤ (λ u. ⊤) (λ u. s) (with_memory t)
      (λ u v. second_finds ⊤ (λ w. ⊤) s (λ w. t) (λ w z. a))

  closed : {A : Type 0} (object : Object) (name : List ℕ) (access : Access) (next : Steps A)
      → Alike next → Alike (settled_for object name access next)
  closed object name access next a = borrows_tape name access (Absent (visible name)) _ _
      (behind (λ made. settle object name (give made))
      (λ made. alone (settle object name (give made)) tt) next a)

  back : {A : Type 0} (name : List ℕ) (next : Steps A) → Alike next → Alike (read_for name next)
  back name next a = borrows_tape name ToRead (Absent (visible name)) _ _
      (behind (λ made. give_back name (give made))
      (λ made. alone (give_back name (give made)) tt) next a)

  linked : {A : Type 0} (programs : List Program) (next : Steps A) → Alike next
      → Alike (borrow_links programs next)
  linked [] next a = a
  linked (program ∷ programs) next a =
      borrows_link 0 program.plugin program.file _ _ (linked programs next a)

  -- ---- what is kept was answered

  abbrev Answered : SeedKey → List ℕ → Type 0
  Answered key seed = IsAmong exchanges (UnwrapCall key (Ok seed))

  abbrev AreAnswered : CacheState → Type 0
  AreAnswered kept = AreHeld Answered kept

  -- the same, and all that is kept behind either was answered
  abbrev KeptAlike : {T : Type 0} → T × CacheState → T × CacheState → Type 0
  KeptAlike x y = (x.0 ≡ y.0) × AreAnswered x.1 × AreAnswered y.1

  -- a source that both go on with
  module _ {T : Type 0} (key : SeedKey) (kept other : CacheState)
      (held : AreAnswered kept) (also : AreAnswered other)
      (next more : Option (List ℕ) → CacheState → Steps (T × CacheState))
      (each : (source : Option (List ℕ)) (k l : CacheState) → AreAnswered k → AreAnswered l
      → GoAlike exchanges KeptAlike (next source k) (more source l)) where
    two : (s r : List ℕ) (k l : CacheState) → Answered key s → Answered key r → AreAnswered k
        → AreAnswered l → GoAlike exchanges KeptAlike (next (Some s) k) (more (Some r) l)
    two s r k l is so h m = subst
        (λ v. GoAlike exchanges KeptAlike (next (Some s) k) (more (Some v) l)) (once key r s so is)
        (each (Some s) k l h m)

    -- the second has it
    had : (s r : List ℕ) (k : CacheState) → Answered key s → AreAnswered k
        → seed_at other.rows key ≡ Some r
        → GoAlike exchanges KeptAlike (next (Some s) k) (fetching (Some r) other key more)
    had s r k is h there = two s r k (with_used other key) is
        (seed_held Answered other key r there also) h (used_held Answered other key r there also)

    -- the second unwraps it
    got : (s : List ℕ) (k : CacheState) → Answered key s → AreAnswered k
        → seed_at other.rows key ≡ None
        → GoAlike exchanges KeptAlike (next (Some s) k) (fetching None other key more)
    got s k is h none = second_unwraps 0 key _ _ (λ r so. second_finds CacheState
        (KeepsAnswer other key (Ok r)) _ _ (λ l keeps. two s r k l is so h
        (answer_held Answered other l key r none keeps so also)))

    second : (y : Option (List ℕ)) → seed_at other.rows key ≡ y → (s : List ℕ) (k : CacheState)
        → Answered key s → AreAnswered k
        → GoAlike exchanges KeptAlike (next (Some s) k) (fetching y other key more)
    second (Some r) there s k is h = had s r k is h there
    second None none s k is h = got s k is h none

    fetched : (x : Option (List ℕ)) → seed_at kept.rows key ≡ x → GoAlike exchanges KeptAlike
        (fetching x kept key next) (fetching (seed_at other.rows key) other key more)
    fetched (Some s) there = second (seed_at other.rows key) refl s (with_used kept key)
        (seed_held Answered kept key s there held) (used_held Answered kept key s there held)
    fetched None none = first_unwraps 0 key _ _ (λ s is. first_finds CacheState
        (KeepsAnswer kept key (Ok s)) _ _ (λ k keeps. second (seed_at other.rows key) refl s k is
        (answer_held Answered kept k key s none keeps is held)))

    sourced : (known : Option (List ℕ)) → GoAlike exchanges KeptAlike
        (source_steps known kept key next) (source_steps known other key more)
    sourced (Some seed) = each (Some seed) kept other held also
    sourced None = fetched (seed_at kept.rows key) refl

  opened : {T : Type 0} (seeds : List SeedRow) (reader : Option Who)
      (object : Result EncryptedObject ObjectNo) (kept other : CacheState)
      (held : AreAnswered kept) (also : AreAnswered other)
      (next more : Option (List ℕ) → CacheState → Steps (T × CacheState))
      → ((source : Option (List ℕ)) (k l : CacheState) → AreAnswered k → AreAnswered l
      → GoAlike exchanges KeptAlike (next source k) (more source l))
      → GoAlike exchanges KeptAlike (opening seeds reader object kept next)
      (opening seeds reader object other more)
  opened seeds (Some (Kms name)) (Ok object) kept other held also next more each =
      sourced (seed_key name object) kept other held also next more each
      (published_source (seed_of name seeds) (seed_key name object))
  opened seeds another object kept other held also next more each = each None kept other held also

  -- ---- a value, with any object that it has

  module _ (seeds : List SeedRow) (list : List Who) (path bytes : List ℕ) where
    abbrev Opening : Result EncryptedObject ObjectNo → CacheState
        → Steps (Result Opened ValueNo × CacheState)
    Opening object kept = opening seeds (reader_in list bytes) object kept
        (value_with seeds list path bytes object)

    abbrev OpensAlike : Option Who → CacheState → Type 1
    OpensAlike reader kept = (a b : Result EncryptedObject ObjectNo) → HasObject reader bytes a
        → HasObject reader bytes b → reader_in list bytes ≡ reader
        → opening seeds reader a kept (value_with seeds list path bytes a)
        ≡ opening seeds reader b kept (value_with seeds list path bytes b)

    plainly : (reader : Option Who) → IsNoPlugin reader → (a b : Result EncryptedObject ObjectNo)
        (kept : CacheState) → reader_in list bytes ≡ reader
        → value_with seeds list path bytes a None kept ≡ value_with seeds list path bytes b None kept
    plainly reader without a b kept is =
        let x : Envelope = record { object = a; source = None } in
        let y : Envelope = record { object = b; source = None } in
        let none : IsNoPlugin (reader_in list bytes) = subst IsNoPlugin (sym is) without in
        λ i. and_then (reading_given (any_envelope (reader_in list bytes) path bytes x y none i)
        (stale_alike list bytes seeds x y none i)) (λ read. give (read, kept))

    opens_alike : (reader : Option Who) (kept : CacheState) → OpensAlike reader kept
    opens_alike None kept a b h k is = plainly None tt a b kept is
    opens_alike (Some Identity) kept a b h k is = plainly (Some Identity) refl a b kept is
    opens_alike (Some (Aescbc name secret)) kept a b h k is =
        plainly (Some (Aescbc name secret)) refl a b kept is
    opens_alike (Some (Aesgcm name secret)) kept a b h k is =
        plainly (Some (Aesgcm name secret)) refl a b kept is
    opens_alike (Some (Kms name)) kept a b h k is =
        ap (λ o. opening seeds (Some (Kms name)) o kept (value_with seeds list path bytes o))
        (both_answered a b h.1 k.1 (one_reading (body_by (Kms name) bytes) a b h.0 k.0))

    read_with : (object : Result EncryptedObject ObjectNo) (source : Option (List ℕ))
        (k l : CacheState) → AreAnswered k → AreAnswered l
        → GoAlike exchanges KeptAlike (value_with seeds list path bytes object source k)
        (value_with seeds list path bytes object source l)
    read_with object source k l h m =
        let envelope : Envelope = record { object = object; source = source } in
        let reading : Reading = value_reading envelope list path bytes in
        let stale : Bool = is_stale envelope seeds list bytes in
        alike_then exchanges Same KeptAlike (λ read. give (read, k)) (λ read. give (read, l))
        (λ x y e. give_both (x, k) (y, l) (e, h, m)) (reading_given reading stale)
        (reading_given reading stale) (alone (reading_given reading stale) (given reading stale))

    read : (kept other : CacheState) → AreAnswered kept → AreAnswered other
        → GoAlike exchanges KeptAlike (value_read seeds list path bytes kept)
        (value_read seeds list path bytes other)
    read kept other held also = first_finds (Result EncryptedObject ObjectNo)
        (HasObject (reader_in list bytes) bytes) _ _ (λ a h.
        second_finds (Result EncryptedObject ObjectNo)
        (HasObject (reader_in list bytes) bytes) _ _ (λ b k.
        subst (λ (v : Steps (Result Opened ValueNo × CacheState)).
        GoAlike exchanges KeptAlike (Opening a kept) v)
        (opens_alike (reader_in list bytes) other a b h k refl)
        (opened seeds (reader_in list bytes) a kept other held also
        (value_with seeds list path bytes a) (value_with seeds list path bytes a)
        (read_with a))))

  -- what follows a reading goes on alike, whatever is kept
  read_then : {T : Type 0} (next : Result Opened ValueNo → Steps T)
      → ((read : Result Opened ValueNo) → Alike (next read)) → (seeds : List SeedRow)
      (list : List Who) (path bytes : List ℕ)
      → Alike (and_then (value_read seeds list path bytes none_kept) (λ read. next read.0))
  read_then next on seeds list path bytes = alike_then exchanges KeptAlike Same
      (λ read. next read.0) (λ read. next read.0)
      (λ x y r. subst (λ z. GoAlike exchanges Same (next x.0) (next z)) r.0 (on x.0))
      (value_read seeds list path bytes none_kept) (value_read seeds list path bytes none_kept)
      (read seeds list path bytes none_kept none_kept (none_held Answered) (none_held Answered))

  worked : (direction : Direction) (resource path : List ℕ) (rows : List ConfigEntry)
      (bytes : List ℕ) (seeds : List SeedRow)
      → Alike (working_by direction resource path rows bytes seeds)
  worked Encrypt resource path rows bytes seeds = alone
      (sealing seeds (writer_of (list_of rows resource)) path bytes)
      (one_then value_steps valued
      (value_sealed seeds (writer_of (list_of rows resource)) path bytes)
      (sealed seeds (writer_of (list_of rows resource)) path bytes))
  worked Decrypt resource path rows bytes seeds =
      read_then data_steps (λ read. alone (data_steps read) (answered read)) seeds
      (list_of rows resource) path bytes

  -- what stands behind the seeds of these entries' plugins
  with_seeds : {A : Type 0} (rows : List ConfigEntry) (next : List SeedRow → Steps A)
      → ((seeds : List SeedRow) → Alike (next seeds))
      → Alike (with_memory (and_then (make_seeds (plugin_order rows)) next))
  with_seeds rows next on = memory Same (and_then (make_seeds (plugin_order rows)) next)
      (and_then (make_seeds (plugin_order rows)) next)
      (behind next on (make_seeds (plugin_order rows))
      (alone (make_seeds (plugin_order rows)) (seeded (plugin_order rows))))

  benched : (programs : List Program) (direction : Direction) (resource path : List ℕ)
      (rows : List ConfigEntry) (bytes : List ℕ)
      → Alike (bench_steps programs direction resource path rows bytes)
  benched programs direction resource path rows bytes = borrows_dice 0 _ _
      (linked programs (working direction resource path rows bytes)
      (with_seeds rows (working_by direction resource path rows bytes)
      (worked direction resource path rows bytes)))

  -- ---- rows

  -- steps over the programs of a configuration in a file
  over : {A : Type 0} (config : List ℕ) (options : List (List ℕ × List ℕ))
      (next : List ConfigEntry → List Program → Steps A)
      → ((rows : List ConfigEntry) (programs : List Program) → Alike (next rows programs))
      → Alike (and_then (configuration config) (λ rows.
      and_then (linking_programs options rows) (next rows)))
  over config options next on =
      behind (λ rows. and_then (linking_programs options rows) (next rows))
      (λ rows. behind (next rows) (on rows) (linking_programs options rows)
      (alone (linking_programs options rows) (linking options rows)))
      (configuration config) (alone (configuration config) (configured config))

  found_alike : (p : Publication) (row : stored.Row) (kept other : CacheState)
      → AreAnswered kept → AreAnswered other
      → GoAlike exchanges KeptAlike (row_finding p row kept) (row_finding p row other)
  found_alike p row kept other held also = alike_then exchanges KeptAlike KeptAlike
      (λ read. give (finding_of read.0, read.1)) (λ read. give (finding_of read.0, read.1))
      (λ x y r. give_both (finding_of x.0, x.1) (finding_of y.0, y.1)
      (ap finding_of r.0, r.1, r.2))
      (value_read p.seeds (list_of p.rows row.resource) row.path row.stored kept)
      (value_read p.seeds (list_of p.rows row.resource) row.path row.stored other)
      (read p.seeds (list_of p.rows row.resource) row.path row.stored kept other held also)

  findings : (p : Publication) (live : List stored.Row) (kept other : CacheState)
      → AreAnswered kept → AreAnswered other
      → GoAlike exchanges Same (row_findings p live kept) (row_findings p live other)
  findings p [] kept other held also = give_both [] [] refl
  findings p (row ∷ live) kept other held also = alike_then exchanges KeptAlike Same
      (λ found. with_memory (and_then (row_findings p live found.1)
      (λ findings. give (found.0 ∷ findings))))
      (λ found. with_memory (and_then (row_findings p live found.1)
      (λ findings. give (found.0 ∷ findings))))
      (λ x y r. memory Same
      (and_then (row_findings p live x.1) (λ findings. give (x.0 ∷ findings)))
      (and_then (row_findings p live y.1) (λ findings. give (y.0 ∷ findings)))
      (alike_then exchanges Same Same (λ findings. give (x.0 ∷ findings))
      (λ findings. give (y.0 ∷ findings))
      (λ a b e. give_both (x.0 ∷ a) (y.0 ∷ b) (λ i. r.0 i ∷ e i))
      (row_findings p live x.1) (row_findings p live y.1) (findings p live x.1 y.1 r.1 r.2)))
      (row_finding p row kept) (row_finding p row other)
      (found_alike p row kept other held also)

  -- ---- a rewrite

  row_alike : (name : List ℕ) (p : Publication) (row : stored.Row) (kept other : CacheState)
      (at : Progress) → AreAnswered kept → AreAnswered other
      → GoAlike exchanges KeptAlike (row_steps name p row kept at) (row_steps name p row other at)
  row_alike name p row kept other at held also = alike_then exchanges KeptAlike KeptAlike
      (λ read. and_then (row_by name p row at read.0) (λ done. give (done, read.1)))
      (λ read. and_then (row_by name p row at read.0) (λ done. give (done, read.1)))
      (λ x y r. alike_then exchanges Same KeptAlike (λ done. give (done, x.1))
      (λ done. give (done, y.1)) (λ d f e. give_both (d, x.1) (f, y.1) (e, r.1, r.2))
      (row_by name p row at x.0) (row_by name p row at y.0)
      (subst (λ z. GoAlike exchanges Same (row_by name p row at x.0) (row_by name p row at z)) r.0
      (alone (row_by name p row at x.0) (by_reading name p row at x.0))))
      (value_read p.seeds (list_of p.rows row.resource) row.path row.stored kept)
      (value_read p.seeds (list_of p.rows row.resource) row.path row.stored other)
      (read p.seeds (list_of p.rows row.resource) row.path row.stored kept other held also)

  driven : (name : List ℕ) (p : Publication) (live : List stored.Row) (kept other : CacheState)
      (at : Progress) → AreAnswered kept → AreAnswered other
      → GoAlike exchanges Same (driving name p live kept at) (driving name p live other at)
  driven name p [] kept other at held also = keeps_rows name at.store _ _
      (notes (report_text at.counts) _ _ (alone (with_memory (give (report_outcome at.counts)))
      (remembered (give (report_outcome at.counts)) tt)))
  driven name p (row ∷ live) kept other at held also = keeps_rows name at.store _ _
      (notes (report_text at.counts) _ _ (alike_then exchanges KeptAlike Same
      (λ done. driving name p live done.1 done.0) (λ done. driving name p live done.1 done.0)
      (λ x y r. subst
      (λ z. GoAlike exchanges Same (driving name p live x.1 x.0) (driving name p live y.1 z)) r.0
      (driven name p live x.1 y.1 x.0 r.1 r.2)) (row_steps name p row kept at)
      (row_steps name p row other at) (row_alike name p row kept other at held also)))

  rewritten : (name : List ℕ) (rows : List ConfigEntry) (store : Stored) (live : List stored.Row)
      → Alike (rewriting_by name rows store live)
  rewritten name rows store live = with_seeds rows
      (λ seeds. and_then (starting store.rows rows) (λ u.
      driving name (record { rows = rows; seeds = seeds }) live none_kept (nothing_done store)))
      (λ seeds. behind
      (λ u. driving name (record { rows = rows; seeds = seeds }) live none_kept
      (nothing_done store))
      (λ u. driven name (record { rows = rows; seeds = seeds }) live none_kept none_kept
      (nothing_done store) (none_held Answered) (none_held Answered))
      (starting store.rows rows) (alone (starting store.rows rows)
      (found (IsStarted store.rows rows) by_result (one_started store.rows rows) result)))

  -- ---- commands

  pub each : (command : Command) → Alike (steps command)
  each (Convert words) = over words.config words.options
      (λ rows programs. and_then (input_of words.direction) (λ bytes.
      bench_steps programs words.direction words.resource words.path rows bytes))
      (λ rows programs. takes (input_limit words.direction) (long_input words.direction) _ _
      (λ bytes. benched programs words.direction words.resource words.path rows bytes))
  each (Put words store) = over words.config words.options
      (λ rows programs. and_then (input_of Encrypt) (stored_into words store rows programs))
      (λ rows programs. takes (input_limit Encrypt) (long_input Encrypt) _ _ (λ bytes.
      closed Store store ToMake
      (and_then (stored_on Store store) (sealed_into words store rows programs bytes))
      (behind (sealed_into words store rows programs bytes)
      (λ held. behind (λ made. and_then
      (adding Store store held (new_row held.format words rows made.bytes))
      (λ grown. give (silently (revision_line grown))))
      (λ made. alone (and_then (adding Store store held (new_row held.format words rows made.bytes))
      (λ grown. give (silently (revision_line grown))))
      (one_then (λ grown. give (silently (revision_line grown))) (λ grown. tt)
      (adding Store store held (new_row held.format words rows made.bytes))
      (added Store store held (new_row held.format words rows made.bytes))))
      (bench_steps programs Encrypt words.resource words.path rows bytes)
      (benched programs Encrypt words.resource words.path rows bytes))
      (stored_on Store store) (alone (stored_on Store store) (read_stored Store store)))))
  each (Get words) = over words.config words.options
      (λ rows programs. and_then (read_for words.store (row_on words.store words.path))
      (λ row. bench_steps programs Decrypt row.resource words.path rows row.stored))
      (λ rows programs. behind
      (λ row. bench_steps programs Decrypt row.resource words.path rows row.stored)
      (λ row. benched programs Decrypt row.resource words.path rows row.stored)
      (read_for words.store (row_on words.store words.path))
      (back words.store (row_on words.store words.path)
      (alone (row_on words.store words.path)
      (one_then (λ held. with_memory (by_result (row_found words.path (live held.rows words.path))))
      (λ held. remembered (by_result (row_found words.path (live held.rows words.path)))
      (result (row_found words.path (live held.rows words.path))))
      (stored_on Store words.store) (read_stored Store words.store)))))
  each (Verify words) = over words.config words.options
      (λ rows programs. and_then (read_for words.store (live_on words.store))
      (verifying_with programs rows))
      (λ rows programs. behind (verifying_with programs rows)
      (λ live. borrows_dice 0 _ _ (linked programs (verifying_by rows live) (with_seeds rows
      (λ seeds. and_then (row_findings (record { rows = rows; seeds = seeds }) live none_kept)
      (telling_findings live))
      (λ seeds. behind (telling_findings live)
      (λ those. alone (telling_findings live those) (remembered _ tt))
      (row_findings (record { rows = rows; seeds = seeds }) live none_kept)
      (findings (record { rows = rows; seeds = seeds }) live none_kept none_kept
      (none_held Answered) (none_held Answered))))))
      (read_for words.store (live_on words.store))
      (back words.store (live_on words.store) (alone (live_on words.store)
      (one_then (λ held. find (List stored.Row) (IsListing held.rows) give)
      (λ held. found (IsListing held.rows) give (listing_once held.rows) (λ live. tt))
      (stored_on Store words.store) (read_stored Store words.store)))))
  each (Migrate words) = alone (steps (Migrate words)) (migrated words)
  each (Rewrite words) = over words.config words.options
      (λ rows programs. settled_for Store words.store ToWrite
      (rewriting_on words.store rows programs))
      (λ rows programs. closed Store words.store ToWrite (rewriting_on words.store rows programs)
      (behind (λ store. find (List stored.Row) (IsListing store.rows)
      (rewriting_live words.store rows programs store))
      (λ store. first_finds (List stored.Row) (IsListing store.rows) _ _ (λ a h.
      second_finds (List stored.Row) (IsListing store.rows) _ _ (λ b k. subst (λ v.
      GoAlike exchanges Same (rewriting_live words.store rows programs store a)
      (rewriting_live words.store rows programs store v)) (listing_once store.rows a b h k)
      (behind (λ u. borrow_dice 0 (borrow_links programs (rewriting_by words.store rows store a)))
      (λ u. borrows_dice 0 _ _ (linked programs (rewriting_by words.store rows store a)
      (rewritten words.store rows store a))) (by_result (within_journal a))
      (alone (by_result (within_journal a)) (result (within_journal a)))))))
      (stored_on Store words.store) (alone (stored_on Store words.store)
      (read_stored Store words.store))))
  each command = alone (steps command) (plain_finds (steps command) (plain command tt))
