-- How the steps of unsealing end, by what a bench read.
use Rattle.std.proofs.Common.{◌≡◌, ℕ, List, [], ◌∷◌, Bool, true, false, Option, None, Some, Result, Ok, Err, refl, sym, ◌∙◌, ap, subst}
use Rattle.std.specs.Prelude.{◌||◌, not, if◌then◌else◌}
use Rattle.kr_config.specs.declared.who.Who.{Who}
use Rattle.kr_config.specs.declared.who.Who.TheVariants.{Identity, Aescbc, Aesgcm, Kms}
use Rattle.kr_envelope.specs.declared.object.EncryptedObject.{EncryptedObject}
use Rattle.kr_envelope.specs.declared.object.ObjectNo.{ObjectNo}
use Rattle.kr_kms.specs.Cache.{CacheState, key_eq, seed_at}
use Rattle.kr_kms.specs.Calls.{Link}
use Rattle.kr_kms.specs.Opens.{key_of}
use Rattle.kr_kms.specs.declared.seeds.SeedKey.{SeedKey}
use Rattle.kr_kms.specs.declared.seeds.SeedRow.{SeedRow}
use Rattle.kr_kms.proofs.Keys.{same_key}
use Rattle.kr_provider.specs.AskedLinks.{AskedOnly}
use Rattle.kr_provider.specs.Envelopes.{Envelope, seed_key}
use Rattle.kr_provider.specs.Publication.{seed_of}
use Rattle.kr_provider.specs.Readers.{is_reader, reader_in, writer_of}
use Rattle.kr_provider.specs.Reading.{Reading, is_rotated, is_stale, reader_reading}
use Rattle.kr_provider.specs.Unsealing.{IsSeedOf, MayAskPlugin, MayAskFor, TakesSeed, UnsealsBy, plugin_reading}
use Rattle.kr_provider.specs.declared.refusal.Opened.{Opened}
use Rattle.kr_provider.specs.declared.refusal.UnsealNo.{UnsealNo}
use Rattle.kr_provider.specs.declared.refusal.UnsealNo.TheVariants as unseal
use Rattle.kr_cmd_steps.specs.ValueSteps.{fetching, opening, published_source, source_steps}
use Rattle.kr_cmd_steps.specs.Steps.{RunTo, StepState, Point, Steps}

pub one_key : (a b : SeedKey) → key_eq a b ≡ true → a ≡ b
one_key a b t = (same_key a b).0 t

-- ---- a source

abbrev pub envelope_of : Result EncryptedObject ObjectNo → Option (List ℕ) → Envelope
envelope_of object source = record { object = object; source = source }

module _ {A : Type 0} (read_so : Reading → Bool → CacheState → Steps A) (seeds : List SeedRow)
    (path bytes : List ℕ) (stale : Option (List ℕ) → Bool) (kept : CacheState) (point : Point A)
    (l : StepState) where
  -- the value, once its source is there
  abbrev With : Option Who → Result EncryptedObject ObjectNo → Option (List ℕ) → CacheState
      → Steps A
  With reader object source now = read_so
      (reader_reading (envelope_of object source) reader path bytes) (stale source) now

  -- the steps come to the point, whatever the source is
  passes : (reader : Option Who) (object : Result EncryptedObject ObjectNo)
      (source : Option (List ℕ)) → stale None ≡ stale source
      → reader_reading (envelope_of object source) reader path bytes
      ≡ reader_reading (envelope_of object None) reader path bytes
      → RunTo point l (With reader object source kept) l
      → RunTo point l (With reader object None kept) l
  passes reader object source same reads goes = subst (λ b. RunTo point l
      (read_so (reader_reading (envelope_of object None) reader path bytes) b kept) l) (sym same)
      (subst (λ r. RunTo point l (read_so r (stale source) kept) l) reads goes)

  module _ (name : List ℕ) (object : EncryptedObject) (source : Option (List ℕ))
      (goes : RunTo point l (With (Some (Kms name)) (Ok object) source kept) l) where
    abbrev key : SeedKey
    key = seed_key name object

    at_source : (s : Option (List ℕ)) → source ≡ s
        → RunTo point l (With (Some (Kms name)) (Ok object) s kept) l
    at_source s e =
        subst (λ t. RunTo point l (With (Some (Kms name)) (Ok object) t kept) l) e goes

    by_seed : (row : SeedRow) (q : Bool) → key_eq (key_of row) key ≡ q
        → (IsSeedOf row name object → source ≡ Some row.seed)
        → ((IsSeedOf row name object → ⊥) → ⊥)
        → RunTo point l (source_steps (if q then Some row.seed else None) kept key
        (With (Some (Kms name)) (Ok object))) l
    by_seed row true e takes own =
        at_source (Some row.seed) (takes (one_key (key_of row) key e))
    by_seed row false e takes own = absurd (own (λ same.
        let yes = (same_key (key_of row) key).1 same in
        let both : true ≡ false = sym yes ∙ e in cc))

    by_row : (row : Option SeedRow)
        → ((seed : SeedRow) → row ≡ Some seed → IsSeedOf seed name object
        → source ≡ Some seed.seed)
        → (((seed : SeedRow) → row ≡ Some seed → IsSeedOf seed name object → ⊥) → ⊥)
        → RunTo point l (source_steps (published_source row key) kept key
        (With (Some (Kms name)) (Ok object))) l
    by_row None takes own =
        absurd (own (λ seed is same. let none : None ≡ Some seed = is in cc))
    by_row (Some row) takes own = by_seed row (key_eq (key_of row) key) refl
        (λ same. takes row refl same)
        (λ other. own (λ seed is same. other (subst (λ r. IsSeedOf r name object)
        (let one : seed ≡ row = cc in one) same)))

  -- no plugin may be asked: the source is the published seed, or there is none
  pub opens_unasked : (reader : Option Who) (object : Result EncryptedObject ObjectNo)
      (source : Option (List ℕ)) → TakesSeed seeds reader (envelope_of object source)
      → (MayAskPlugin seeds reader object → ⊥)
      → ((s : Option (List ℕ)) → stale s ≡ stale source)
      → RunTo point l (With reader object source kept) l
      → RunTo point l (opening seeds reader object kept (With reader object)) l
  opens_unasked None object source takes own fresh goes =
      passes None object source (fresh None) refl goes
  opens_unasked (Some Identity) object source takes own fresh goes =
      passes (Some Identity) object source (fresh None) refl goes
  opens_unasked (Some (Aescbc name secret)) object source takes own fresh goes =
      passes (Some (Aescbc name secret)) object source (fresh None) refl goes
  opens_unasked (Some (Aesgcm name secret)) object source takes own fresh goes =
      passes (Some (Aesgcm name secret)) object source (fresh None) refl goes
  opens_unasked (Some (Kms name)) (Err why) source takes own fresh goes =
      passes (Some (Kms name)) (Err why) source (fresh None) refl goes
  opens_unasked (Some (Kms name)) (Ok object) source takes own fresh goes =
      by_row name object source goes (seed_of name seeds)
      (λ seed is same. takes object seed refl is same) own

-- a value is as stale with any source
one_staleness : (seeds : List SeedRow) (who : Who) (object : Result EncryptedObject ObjectNo)
    (s t : Option (List ℕ))
    → is_rotated (envelope_of object s) seeds who ≡ is_rotated (envelope_of object t) seeds who
one_staleness seeds Identity object s t = refl
one_staleness seeds other object s t = refl

pub as_stale : (seeds : List SeedRow) (list : List Who) (bytes : List ℕ)
    (object : Result EncryptedObject ObjectNo) (s t : Option (List ℕ))
    → is_stale (envelope_of object s) seeds list bytes
    ≡ is_stale (envelope_of object t) seeds list bytes
as_stale seeds list bytes object s t =
    ap (λ b. not (is_reader bytes (writer_of list)) || b)
    (one_staleness seeds (writer_of list) object s t)

-- ---- a value

-- the source is fetched where the published seed is another
pub asks_plugin : {A : Type 0} (seeds : List SeedRow) (name : List ℕ) (object : EncryptedObject)
    (kept : CacheState) (next : Option (List ℕ) → CacheState → Steps A) (point : Point A)
    (end l : StepState) → MayAskFor seeds name object
    → RunTo point end (fetching (seed_at kept.rows (seed_key name object)) kept
    (seed_key name object) next) l
    → RunTo point end (opening seeds (Some (Kms name)) (Ok object) kept next) l
asks_plugin {A} seeds name object kept next point end l asked goes = at (seed_of name seeds) asked
  where
    key : SeedKey
    key = seed_key name object

    by_test : (row : SeedRow) (q : Bool) → key_eq (key_of row) key ≡ q
        → (IsSeedOf row name object → ⊥)
        → RunTo point end (source_steps (if q then Some row.seed else None) kept key next) l
    by_test row true e other = absurd (other (one_key (key_of row) key e))
    by_test row false e other = goes

    at : (row : Option SeedRow)
        → ((seed : SeedRow) → row ≡ Some seed → IsSeedOf seed name object → ⊥)
        → RunTo point end (source_steps (published_source row key) kept key next) l
    at None other = goes
    at (Some row) other = by_test row (key_eq (key_of row) key) refl (λ same. other row refl same)

-- links that a value's reading asks
pub asks_reader : {L : Type 0} (link : L → Link) (seeds : List SeedRow)
    (list : List Who) (path bytes : List ℕ) (olds news : List L) (result : Result Opened UnsealNo)
    → UnsealsBy link seeds list path bytes olds result news
    → AskedOnly link (plugin_reading (reader_in list bytes)) olds news
asks_reader link seeds list path bytes olds news (Err (unseal.PluginFailed name)) u =
    subst (λ r. AskedOnly link (plugin_reading r) olds news) (sym u.reader) u.others
asks_reader link seeds list path bytes olds news other u = u.asked
