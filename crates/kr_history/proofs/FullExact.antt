-- All rows that an event might write make files of one size, so an answer tells of each whether it
-- has room.
use Rattle.std.proofs.Common.{◌≡◌, ◌≢◌, ℕ, ◌+◌, ◌-◌, ◌<◌, ◌≤◌, Bool, true, false, List, [], ◌∷◌, ◌++◌, length, take, drop, Option, None, Some, IsSome, Result, Ok, Err, inl, inr, suc, refl, sym, ap, subst, ◌∙◌, length-append}
use Rattle.std.specs.Prelude.{◌==◌, ⊤, if◌then◌else◌, nat_lt, bytes_eq, ok_or}
use Rattle.std.specs.Int.{w32, w64, to_be_bytes}
use Rattle.std.proofs.lemmas.Option.{same_Some}
use Rattle.kr_aes.specs.KeyExpansion.{padded_schedule}
use Rattle.kr_aes.proofs.Blocks.{length-cipher}
use Rattle.kr_modes.specs.declared.ModeNo.TheVariants.{Short, BadTag}
use Rattle.kr_modes.specs.Gcm.{gcm_opened, gcm_tag, gctr, ungcm}
use Rattle.kr_modes.proofs.Streams.{length-gctr}
use Rattle.kr_envelope.specs.declared.object.EncryptedObject.{EncryptedObject}
use Rattle.kr_envelope.specs.declared.object.ObjectNo.{ObjectNo}
use Rattle.kr_envelope.specs.declared.object.ObjectNo.TheVariants as object
use Rattle.kr_envelope.specs.declared.object.SourceKind.{SourceKind}
use Rattle.kr_envelope.specs.declared.object.SourceKind.TheVariants.{Key, Seed}
use Rattle.kr_envelope.specs.Limits.{AreOne}
use Rattle.kr_envelope.proofs.OneReading as objects
use Rattle.kr_store.specs.declared.format.Check.{Check}
use Rattle.kr_store.specs.declared.format.Format.{Format}
use Rattle.kr_store.specs.declared.rows.LogRow.{LogRow}
use Rattle.kr_store.specs.declared.rows.Row.{Row}
use Rattle.kr_store.specs.Rows.{live, put_of}
use Rattle.kr_store.specs.File.{magic, text_bytes, check_bytes, value_bytes, row_bytes, rows_bytes}
use Rattle.kr_config.specs.declared.who.Who.{Who}
use Rattle.kr_config.specs.declared.who.Who.TheVariants.{Identity, Aescbc, Aesgcm, Kms}
use Rattle.kr_provider.specs.Ciphers.{cipher_under, rounds_under}
use Rattle.kr_provider.specs.Envelopes.{Envelope, HasObject, value_key}
use Rattle.kr_provider.specs.Publication.{Publication, list_at, writer_at}
use Rattle.kr_provider.specs.Readers.{body_by, reader_in}
use Rattle.kr_provider.specs.Reading.{Reading, data_of, HasSomeReading, body_reading, body_under, gcm_reading, kind_reading, object_reading, object_refusal, reader_reading, seed_length}
use Rattle.kr_provider.specs.Sealing.{value_size}
use Rattle.kr_provider.proofs.SealedSizes.{sealing_is_sized}
use Rattle.kr_rollout.specs.declared.line.Did.{Did}
use Rattle.kr_rollout.specs.declared.line.Did.TheVariants as did
use Rattle.kr_rollout.specs.declared.line.Gave.{Gave}
use Rattle.kr_rollout.specs.declared.line.Gave.TheVariants.{Absent, Written, Changed, StoreFailed, StoreFull, Nothing}
use Rattle.kr_rollout.specs.declared.opening.Entry.{Entry}
use Rattle.kr_rollout.specs.declared.opening.Opening.{Opening}
use Rattle.kr_opening.specs.Checks.{written_check}
use Rattle.kr_rollout.specs.States.{State}
use Rattle.kr_rollout.specs.Answers.{IsAnswer}
use Rattle.kr_rollout.specs.Writes.{IsSealedAnew, IsSealedPut, WouldWrite, Writes, file_size}
use Rattle.kr_history.specs.SizeLaws.{TellsSize, FullIsExact}
use Rattle.kr_rollout.specs.Histories.{state_of}
use Rattle.kr_history.proofs.Judging.{next_step}

-- ---- rows of one size

abbrev AreLong : LogRow → LogRow → Type 0
AreLong a b = (k : ℕ) → length (row_bytes k a) ≡ length (row_bytes k b)

longer : (xs a b : List ℕ) → length a ≡ length b → length (xs ++ a) ≡ length (xs ++ b)
longer xs a b e = length-append xs a ∙ ap (λ n. length xs + n) e ∙ sym (length-append xs b)

values_long : (a b : List ℕ) → length a ≡ length b
    → length (value_bytes a) ≡ length (value_bytes b)
values_long a b e =
    length-append (to_be_bytes w32 (length a)) a
    ∙ (λ i. length (to_be_bytes w32 (e i)) + e i)
    ∙ sym (length-append (to_be_bytes w32 (length b)) b)

puts_long : (path resource a b : List ℕ) (check : Option Check) → length a ≡ length b
    → AreLong (put_of path resource a check) (put_of path resource b check)
puts_long path resource a b check e k =
    let values = longer (check_bytes check) (value_bytes a) (value_bytes b) (values_long a b e) in
    let parts = longer (text_bytes resource) (check_bytes check ++ value_bytes a)
    (check_bytes check ++ value_bytes b) values in
    let paths = longer (text_bytes path) (text_bytes resource ++ (check_bytes check ++ value_bytes a))
    (text_bytes resource ++ (check_bytes check ++ value_bytes b)) parts in
    ap suc (longer (to_be_bytes w64 k)
    (text_bytes path ++ (text_bytes resource ++ (check_bytes check ++ value_bytes a)))
    (text_bytes path ++ (text_bytes resource ++ (check_bytes check ++ value_bytes b))) paths)

rows_long : (k : ℕ) (rows : List LogRow) (a b : LogRow) → AreLong a b
    → length (rows_bytes k (rows ++ a ∷ [])) ≡ length (rows_bytes k (rows ++ b ∷ []))
rows_long k [] a b e =
    length-append (row_bytes k a) [] ∙ ap (λ n. n + 0) (e k) ∙ sym (length-append (row_bytes k b) [])
rows_long k (row ∷ rows) a b e = longer (row_bytes k row) (rows_bytes (k + 1) (rows ++ a ∷ []))
    (rows_bytes (k + 1) (rows ++ b ∷ [])) (rows_long (k + 1) rows a b e)

files_long : (format : Format) (rows : List LogRow) (a b : LogRow) → AreLong a b
    → file_size format rows a ≡ file_size format rows b
files_long format rows a b e = longer (magic format) (rows_bytes 1 (rows ++ a ∷ []))
    (rows_bytes 1 (rows ++ b ∷ [])) (rows_long 1 rows a b e)

-- ---- data of one size: as how many a body reads doesn't depend on the key

abbrev gcm_size : List ℕ → ℕ
gcm_size body = length (take (length (drop 12 body) - 16) (drop 12 body))

opened_is : (b c : Bool) (opened plain : List ℕ)
    → body_reading (if b then Err Short else ok_or (if c then Some opened else None) BadTag)
    ≡ data_of plain → opened ≡ plain
opened_is false true opened plain e = cc
opened_is other c opened plain e = absurd (cc)

gcm_data : (key path body plain : List ℕ) → gcm_reading key path body ≡ data_of plain
    → length plain ≡ gcm_size body
unfolding gcm_opened ungcm
gcm_data key path body plain e =
    let sealed = drop 12 body in
    let front = take (length sealed - 16) sealed in
    let tag = gcm_tag (cipher_under key) (take 12 body) path front in
    ap length (sym (opened_is (nat_lt (length sealed) 16)
    (bytes_eq (drop (length sealed - 16) sealed) tag)
    (gctr (cipher_under key) (take 12 body) front) plain e))
    ∙ length-gctr (cipher_under key) (take 12 body) front
    (length-cipher (padded_schedule key) (rounds_under key))

abbrev size_under : SourceKind → List ℕ → ℕ
size_under Key encrypted = gcm_size encrypted
size_under Seed encrypted = gcm_size (drop 32 encrypted)

body_data : (kind : SourceKind) (source path encrypted plain : List ℕ)
    → body_under kind source path encrypted ≡ data_of plain
    → length plain ≡ size_under kind encrypted
body_data Key key path encrypted plain e = gcm_data key path encrypted plain e
body_data Seed seed path encrypted plain e =
    gcm_data (value_key seed (take 32 encrypted)) path (drop 32 encrypted) plain e

source_data : (b : Bool) (kind : SourceKind) (source path encrypted plain : List ℕ)
    → (if b then body_under kind source path encrypted else seed_length) ≡ data_of plain
    → length plain ≡ size_under kind encrypted
source_data true kind source path encrypted plain e = body_data kind source path encrypted plain e
source_data false kind source path encrypted plain e = absurd (cc)

kind_data : (kind : SourceKind) (source : Option (List ℕ)) (path encrypted plain : List ℕ)
    → kind_reading kind source path encrypted ≡ data_of plain
    → length plain ≡ size_under kind encrypted
kind_data kind None path encrypted plain e = absurd (cc)
kind_data kind (Some source) path encrypted plain e =
    source_data (length source == 32) kind source path encrypted plain e

no_data : (why : ObjectNo) (plain : List ℕ) → object_refusal why ≡ data_of plain → ⊥
no_data (object.Wire at) plain e = cc
no_data other plain e = cc

objects_alike : (read : Result EncryptedObject ObjectNo) (s t : Option (List ℕ))
    (path x y : List ℕ) → object_reading read s path ≡ data_of x
    → object_reading read t path ≡ data_of y → length x ≡ length y
objects_alike (Ok own) s t path x y e f = kind_data own.kind s path own.encrypted x e
    ∙ sym (kind_data own.kind t path own.encrypted y f)
objects_alike (Err why) s t path x y e f = absurd (no_data why x e)

both_answered : (a b : Result EncryptedObject ObjectNo) → a ≢ Err object.NoMemory
    → b ≢ Err object.NoMemory → AreOne a b → a ≡ b
both_answered a b n m one = elim one [
  | inl e ↦ absurd (n e)
  | inr more ↦ elim more [ inl e ↦ absurd (m e) | inr e ↦ e ]
]

same_data : (reading : Reading) (x y : List ℕ) → reading ≡ data_of x → reading ≡ data_of y
    → length x ≡ length y
same_data reading x y e f = let same : x ≡ y = cc in ap length same

readers_alike : (reader : Option Who) (path bytes : List ℕ) (a b : Envelope) (x y : List ℕ)
    → HasObject reader bytes a.object → HasObject reader bytes b.object
    → reader_reading a reader path bytes ≡ data_of x
    → reader_reading b reader path bytes ≡ data_of y → length x ≡ length y
readers_alike None path bytes a b x y h k e f =
    same_data (reader_reading a None path bytes) x y e f
readers_alike (Some Identity) path bytes a b x y h k e f =
    same_data (reader_reading a (Some Identity) path bytes) x y e f
readers_alike (Some (Aescbc name secret)) path bytes a b x y h k e f =
    same_data (reader_reading a (Some (Aescbc name secret)) path bytes) x y e f
readers_alike (Some (Aesgcm name secret)) path bytes a b x y h k e f =
    same_data (reader_reading a (Some (Aesgcm name secret)) path bytes) x y e f
readers_alike (Some (Kms name)) path bytes a b x y h k e f =
    let one : a.object ≡ b.object = both_answered a.object b.object h.1 k.1
    (objects.one_reading (body_by (Kms name) bytes) a.object b.object h.0 k.0) in
    objects_alike a.object a.source b.source path x y e
    (ap (λ o. object_reading o b.source path) one ∙ f)

data_alike : (list : List Who) (path bytes x y : List ℕ)
    → HasSomeReading list path bytes (data_of x) → HasSomeReading list path bytes (data_of y)
    → length x ≡ length y
data_alike list path bytes x y r s =
    readers_alike (reader_in list bytes) path bytes r.0 s.0 x y r.1 s.1 r.2 s.2

-- ---- what an event might write

sealed_long : (format : Format) (p : Publication) (resource path x y : List ℕ) (a b : LogRow)
    → length x ≡ length y → IsSealedPut format p resource path x a
    → IsSealedPut format p resource path y b → AreLong a b
sealed_long format p resource path x y a b e s t k =
    let size = sealing_is_sized.size in
    let who = writer_at p resource in
    let one = size p.seeds who path x s.sealing.drawn s.stored s.sealing.fits s.sealing.is in
    let other = size p.seeds who path y t.sealing.drawn t.stored t.sealing.fits t.sealing.is in
    ap (λ r. length (row_bytes k r)) s.row_is
    ∙ puts_long path resource s.stored t.stored (written_check format p resource)
    (one ∙ ap (value_size p.seeds who) e ∙ sym other) k
    ∙ sym (ap (λ r. length (row_bytes k r)) t.row_is)

module _ (format : Format) (rows : List LogRow) (held : Option Publication) (a b : LogRow) where
  puts_alike : (path resource plain : List ℕ)
      → WouldWrite format (did.Put path resource plain) rows held a
      → WouldWrite format (did.Put path resource plain) rows held b → AreLong a b
  puts_alike path resource plain (p, p_is, s) (q, q_is, t) =
      sealed_long format p resource path plain plain a b refl s
      (subst (λ (x : Publication). IsSealedPut format x resource path plain b)
      (same_Some q p (sym q_is ∙ p_is)) t)

  replaces_alike : (path : List ℕ) (revision : ℕ)
      → WouldWrite format (did.Replace path revision) rows held a
      → WouldWrite format (did.Replace path revision) rows held b → AreLong a b
  replaces_alike path revision (p, old, p_is, old_is, at, s) (q, own, q_is, own_is, on, t) =
      let t = subst (λ (r : Row). IsSealedAnew format p path r b)
      (same_Some own old (sym own_is ∙ old_is))
      (subst (λ (x : Publication). IsSealedAnew format x path own b)
      (same_Some q p (sym q_is ∙ p_is)) t) in
      sealed_long format p old.resource path s.plain t.plain a b
      (data_alike (list_at p old.resource) path old.stored s.plain t.plain s.reads t.reads)
      s.sealed t.sealed

  alike : (asked : Did) → WouldWrite format asked rows held a → WouldWrite format asked rows held b
      → AreLong a b
  alike (did.Put path resource plain) v w = puts_alike path resource plain v w
  alike (did.Delete path) v w = λ k. ap (λ r. length (row_bytes k r)) (v.1 ∙ sym w.1)
  alike (did.Replace path revision) v w = replaces_alike path revision v w
  alike other v w = absurd v

-- ---- the answers

-- an answer that may be given where there is a row to write
abbrev IsOfWrite : Gave → Type 0
IsOfWrite (Written revision) = ⊤
IsOfWrite StoreFailed = ⊤
IsOfWrite (StoreFull needed) = ⊤
IsOfWrite Nothing = ⊤
IsOfWrite gave = ⊥

module _ (format : Format) (st : State) (held : Option ℕ) (published : Option Publication)
    (row : LogRow) where
  put_answer : (path resource plain : List ℕ) (gave : Gave)
      → IsAnswer (did.Put path resource plain) gave st held → IsOfWrite gave
  put_answer path resource plain (Written revision) a = tt
  put_answer path resource plain StoreFailed a = tt
  put_answer path resource plain (StoreFull needed) a = tt
  put_answer path resource plain Nothing a = tt
  put_answer path resource plain other a = absurd a

  delete_answer : (path : List ℕ) (gave : Gave) → IsAnswer (did.Delete path) gave st held
      → IsSome (live st.rows path) → IsOfWrite gave
  delete_answer path Absent a some = absurd (cc)
  delete_answer path (Written revision) a some = tt
  delete_answer path StoreFailed a some = tt
  delete_answer path (StoreFull needed) a some = tt
  delete_answer path Nothing a some = tt
  delete_answer path other a some = absurd a

  replace_answer : (path : List ℕ) (revision : ℕ) (gave : Gave) (old : Row)
      → IsAnswer (did.Replace path revision) gave st held → live st.rows path ≡ Some old
      → old.revision ≡ revision → IsOfWrite gave
  replace_answer path revision (Written last) old a is at = tt
  replace_answer path revision (Changed last) old a is at = absurd (a.1 (old, record { is = is; revision_is = at }))
  replace_answer path revision StoreFailed old a is at = tt
  replace_answer path revision (StoreFull needed) old a is at = tt
  replace_answer path revision Nothing old a is at = tt
  replace_answer path revision other old a is at = absurd a

  write_answer : (asked : Did) (gave : Gave) → IsAnswer asked gave st held
      → WouldWrite format asked st.rows published row → IsOfWrite gave
  write_answer (did.Put path resource plain) gave a w = put_answer path resource plain gave a
  write_answer (did.Delete path) gave a w = delete_answer path gave a w.0
  write_answer (did.Replace path revision) gave a w =
      replace_answer path revision gave w.1 a w.3 w.4
  write_answer other gave a w = absurd w

tells : (o : Opening) (st : State) (e : Entry) (row : LogRow) (gave : Gave)
    → WouldWrite o.format e.line.did st.rows e.published row → IsOfWrite gave
    → Writes gave o st e → TellsSize gave o.limit (file_size o.format st.rows row)
tells o st e row (Written revision) w is s =
    subst (λ n. n ≤ o.limit) (files_long o.format st.rows s.0 row
    (alike o.format st.rows e.published s.0 row e.line.did s.1 w)) s.2
tells o st e row StoreFailed w is s =
    subst (λ n. n ≤ o.limit) (files_long o.format st.rows s.0 row
    (alike o.format st.rows e.published s.0 row e.line.did s.1 w)) s.2
tells o st e row (StoreFull needed) w is s =
    let same = files_long o.format st.rows s.0 row
    (alike o.format st.rows e.published s.0 row e.line.did s.1 w) in
    (s.2 ∙ same, subst (λ n. o.limit < n) (s.2 ∙ same) s.3)
tells o st e row Nothing w is s = tt
tells o st e row other w is s = absurd is

pub full_is_exact : FullIsExact
full_is_exact o history e row l w =
    let s = (next_step o history e l).step in
    let st = state_of o history in
    tells o st e row e.line.gave w
    (write_answer o.format st e.line.held e.published row e.line.did e.line.gave s.answer w) s.writes
