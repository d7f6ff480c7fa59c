-- The source of an object: the published seed, or what the plugin unwraps.
use Rattle.std.proofs.Common.{◌≡◌, ℕ, ◌+◌, ◌≤◌, Bool, false, List, [], ◌∷◌, Result, Ok, Err, length, refl, ◌∙◌, ap, subst, arith, inl, inr, length-append}
use Rattle.std.specs.List.{filter_map}
use Rattle.kr_envelope.specs.declared.object.EncryptedObject.{EncryptedObject}
use Rattle.kr_envelope.specs.Limits.{ReadsMessage}
use Rattle.kr_envelope.specs.Messages.{WireItem, IsItem, encrypted, key_id, source, kind, encrypted_in, last_or, of_bytes}
use Rattle.kr_envelope.specs.Wire.{IsField, Spells}
use Rattle.kr_kms.specs.Cache.{CacheState, Fetches, key_eq}
use Rattle.kr_kms.specs.Calls.{Link, asked_key}
use Rattle.kr_kms.specs.Opens.{key_of}
use Rattle.kr_kms.specs.declared.plugin.KmsNo.{KmsNo}
use Rattle.kr_kms.specs.declared.plugin.KmsNo.TheVariants as kms
use Rattle.kr_kms.specs.declared.seeds.SeedRow.{SeedRow}
use Rattle.kr_kms.proofs.Keys.{same_key}
use Rattle.kr_provider.specs.AskedLinks.{AskedOnly, AsksOne}
use Rattle.kr_provider.specs.Envelopes.{seed_key}
use Rattle.kr_provider.specs.Reading.{source_reading}
use Rattle.kr_provider.specs.Unsealing.{IsSeedOf}
use Rattle.kr_provider.specs.declared.refusal.UnsealNo.{UnsealNo}
use Rattle.kr_provider.specs.declared.refusal.UnsealNo.TheVariants.{Refused, PluginFailed, NoMemory}
use Rattle.kr_provider.specs.inner.Sources.{Gives, OpensSource, UnsealsObject}
use Rattle.kr_provider.proofs.AskedLists.{asked_alone, asked_none, rose_at}

-- ---- an object's data are no longer than its bytes

last_fits : (items : List WireItem) (text x : List ℕ) (n : ℕ) → Spells IsItem text items
    → length text ≤ n → length x ≤ n → length (last_or x (filter_map encrypted_in items)) ≤ n
last_fits [] text x n s l k = k
last_fits (encrypted content ∷ items) text x n (front, rest, is, more, parts) l k =
    let whole : length text ≡ length front + length rest =
    ap (λ (t : List ℕ). length t) parts ∙ length-append front rest in
    last_fits items rest content n more (omega (arith, whole, l))
    (omega (arith, whole, l, content_fits front content is))
  where
    content_fits : (front content : List ℕ) → IsItem front (encrypted content)
        → length content ≤ length front
    content_fits front content (field, f, means) =
        by (subst (λ g. IsField front g) means f)
      where
        by : IsField front (of_bytes 1 content) → length content ≤ length front
        by f = omega (
          arith,
          ap (λ (t : List ℕ). length t) f.parts,
          length-append f.key f.content,
          ap (λ (t : List ℕ). length t) f.content_is.2,
          length-append f.content_is.0 content,
        )
last_fits (item ∷ items) text x n (front, rest, is, more, parts) l k =
    last_fits items rest x n more
    (omega (arith, ap (λ (t : List ℕ). length t) parts, length-append front rest, l)) k

pub data_within : (text : List ℕ) (found : EncryptedObject) → ReadsMessage text (Ok found)
    → length found.encrypted ≤ length text
data_within text found (items, message, judged) =
    let same : last_or [] (filter_map encrypted_in items) ≡ found.encrypted =
    ap (λ raw. raw.encrypted) judged.1 in
    subst (λ (l : List ℕ). length l ≤ length text) same
    (last_fits items text [] (length text) message.0 (omega arith) (omega arith))

-- ---- sources

pub another_seed : (row : SeedRow) (name : List ℕ) (found : EncryptedObject) (b : Bool)
    → b ≡ key_eq (key_of row) (seed_key name found) → b ≡ false → IsSeedOf row name found → ⊥
another_seed row name found b e f s =
    let t = (same_key (key_of row) (seed_key name found)).1 s in cc

module _ {L : Type 0} (link : L → Link) (row : SeedRow) (name : List ℕ)
    (found : EncryptedObject) (path : List ℕ) where
  pub seed_taken : (links : List L) (result : Result (List ℕ) UnsealNo) → IsSeedOf row name found
      → Gives (source_reading found.kind row.seed path found.encrypted) result
      → UnsealsObject link row name found path links result links
  seed_taken links (Ok plain) is g = record {
    source = row.seed;
    is = λ s. refl;
    gives = g;
    asked = asked_none link (name ∷ []) links;
    unasked = inl refl;
  }
  seed_taken links (Err (Refused why)) is g = record {
    source = row.seed;
    is = λ s. refl;
    gives = g;
    asked = asked_none link (name ∷ []) links;
    unasked = inl refl;
  }
  seed_taken links (Err (PluginFailed failed)) is g = absurd g
  seed_taken links (Err NoMemory) is g = (asked_none link (name ∷ []) links, inl refl)

  pub source_opened : (olds news : List L) (opened : List ℕ) (result : Result (List ℕ) UnsealNo)
      → (IsSeedOf row name found → ⊥) → OpensSource link name found olds (Ok opened) news
      → Gives (source_reading found.kind opened path found.encrypted) result
      → UnsealsObject link row name found path olds result news
  source_opened olds news opened (Ok plain) n o g = record {
    source = opened;
    is = λ s. absurd (n s);
    gives = g;
    asked = o;
    unasked = inr n;
  }
  source_opened olds news opened (Err (Refused why)) n o g = record {
    source = opened;
    is = λ s. absurd (n s);
    gives = g;
    asked = o;
    unasked = inr n;
  }
  source_opened olds news opened (Err (PluginFailed failed)) n o g = absurd g
  source_opened olds news opened (Err NoMemory) n o g = (o, inr n)

  pub source_fails : (olds news : List L) (why : UnsealNo) → (IsSeedOf row name found → ⊥)
      → OpensSource link name found olds (Err why) news
      → UnsealsObject link row name found path olds (Err why) news
  source_fails olds news (Refused why) n o = absurd o
  source_fails olds news (PluginFailed failed) n o =
      record { name_is = o.0; other = n; rose = o.1; asked = o.2 }
  source_fails olds news NoMemory n o = (o, inr n)

-- ---- what a fetch through the cache tells

module _ {L : Type 0} (link : L → Link) (name : List ℕ) (found : EncryptedObject)
    (olds news : List L) (cache after : CacheState) where
  abbrev pub IsFetched : Result (List ℕ) KmsNo → Type 0
  IsFetched result = AsksOne link name (λ old new. Fetches link old cache
      (asked_key name found.key_id found.annotations found.source) result new after) olds news

  pub fetched_asks : (result : Result (List ℕ) KmsNo) → IsFetched result
      → AskedOnly link (name ∷ []) olds news
  fetched_asks result a = asked_alone link name (λ old new. Fetches link old cache
      (asked_key name found.key_id found.annotations found.source) result new after) olds news a

  pub fetched_fails : (failed : List ℕ) → failed ≡ name → IsFetched (Err kms.Failed)
      → OpensSource link name found olds (Err (PluginFailed failed)) news
  fetched_fails failed e a = (
    e,
    rose_at link name (λ old new. Fetches link old cache
        (asked_key name found.key_id found.annotations found.source) (Err kms.Failed) new after)
        olds news a (a.asks.asks.failed refl),
    fetched_asks (Err kms.Failed) a,
  )
