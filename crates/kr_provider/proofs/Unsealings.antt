-- How an answer stands to the value's reading, by the provider that reads the value.
use Rattle.std.proofs.Common.{◌≡◌, ◌≢◌, ℕ, Bool, false, List, [], ◌∷◌, Option, Some, None, Result, Ok, Err, refl, sym, ◌∙◌, ap, subst, inl, inr}
use Rattle.std.specs.Prelude.{◌&&◌, not}
use Rattle.kr_config.specs.declared.who.Who.{Who}
use Rattle.kr_config.specs.declared.who.Who.TheVariants.{Kms}
use Rattle.kr_config.specs.Providers.{is_kms}
use Rattle.kr_envelope.specs.declared.object.EncryptedObject.{EncryptedObject}
use Rattle.kr_envelope.specs.declared.object.ObjectNo.{ObjectNo}
use Rattle.kr_envelope.specs.declared.object.ObjectNo.TheVariants as object
use Rattle.kr_envelope.specs.Limits.{ReadsMessage}
use Rattle.kr_kms.specs.Calls.{Link}
use Rattle.kr_kms.specs.declared.seeds.SeedRow.{SeedRow}
use Rattle.kr_provider.specs.AskedLinks.{AskedOnly}
use Rattle.kr_provider.specs.Envelopes.{Envelope, HasObject, IsObjectOf, unknown}
use Rattle.kr_provider.specs.Publication.{seed_of}
use Rattle.kr_provider.specs.Readers.{reader_in}
use Rattle.kr_provider.specs.Reading.{Unseals, is_current, provider_reading, reader_reading}
use Rattle.kr_provider.specs.Unsealing.{IsReading, IsSeedOf, MayAskPlugin, MayAskFor, TakesSeed, UnsealsBy, plugin_reading}
use Rattle.kr_provider.specs.declared.refusal.Opened.{Opened}
use Rattle.kr_provider.specs.declared.refusal.UnsealNo.{UnsealNo}
use Rattle.kr_provider.specs.declared.refusal.UnsealNo.TheVariants.{Refused, PluginFailed, NoMemory}
use Rattle.kr_provider.specs.declared.refusal.ValueNo.TheVariants as value
use Rattle.kr_provider.specs.inner.Sources.{Gives, IsObjectIn, IsReadBy, ReadsObject, UnsealsObject}
use Rattle.kr_provider.proofs.AskedLists.{asked_none}
use Rattle.kr_provider.proofs.OneReading.{IsNoPlugin}
use Rattle.kr_provider.proofs.Places.{stale_by_first, stale_by_plugin}

-- an object that was read
abbrev is_ok_of : EncryptedObject → Result EncryptedObject ObjectNo
is_ok_of found = Ok found

no_object : (reader : Option Who) (bytes : List ℕ) → IsNoPlugin reader
    → HasObject reader bytes unknown.object
no_object (Some (Kms name)) bytes n = absurd (cc)
no_object other bytes n = tt

no_seed : (seeds : List SeedRow) (reader : Option Who) → IsNoPlugin reader
    → TakesSeed seeds reader unknown
no_seed seeds (Some (Kms name)) n = absurd (cc)
no_seed seeds other n = tt

module _ {L : Type 0} (link : L → Link) (seeds : List SeedRow) (list : List Who)
    (path bytes : List ℕ) where
  -- where no plugin reads the value no link is asked, and any envelope serves
  unasked_reading : (links : List L) (result : Result Opened UnsealNo)
      → IsNoPlugin (reader_in list bytes) → Unseals unknown seeds list path bytes result
      → IsReading link seeds list path bytes links result links
  unasked_reading links result n u = record {
    envelope = unknown;
    object = no_object (reader_in list bytes) bytes n;
    published = no_seed seeds (reader_in list bytes) n;
    unsourced = λ why is. refl;
    is = u;
    asked = asked_none link (plugin_reading (reader_in list bytes)) links;
    unasked = λ m. refl;
  }

  pub no_reader : (links : List L) → reader_in list bytes ≡ None
      → UnsealsBy link seeds list path bytes links (Err (Refused value.NoProvider)) links
  no_reader links e = unasked_reading links (Err (Refused value.NoProvider))
      (subst IsNoPlugin (sym e) tt) (ap (λ o. reader_reading unknown o path bytes) e)

  module _ (links : List L) (who : Who) (body : List ℕ) (first : Bool) where
    by_reader : (envelope : Envelope) → IsReadBy list bytes who body first
        → reader_reading envelope (reader_in list bytes) path bytes
        ≡ provider_reading envelope who path body
    by_reader envelope r = ap (λ o. reader_reading envelope o path bytes) r.reader
        ∙ ap (provider_reading envelope who path) (sym r.body_is)

    pub key_opens : (plain : List ℕ) → is_kms who ≡ false → IsReadBy list bytes who body first
        → Gives (provider_reading unknown who path body) (Ok plain)
        → UnsealsBy link seeds list path bytes links
        (Ok (record { plain = plain; stale = not first })) links
    key_opens plain k r g = unasked_reading links (Ok (record { plain = plain; stale = not first }))
        (subst IsNoPlugin (sym r.reader) k)
        (by_reader unknown r ∙ g, sym (stale_by_first unknown seeds list bytes body who first k r))

    pub key_refuses : (why : UnsealNo) → is_kms who ≡ false → IsReadBy list bytes who body first
        → Gives (provider_reading unknown who path body) (Err why)
        → UnsealsBy link seeds list path bytes links (Err why) links
    key_refuses (Refused why) k r g = unasked_reading links (Err (Refused why))
        (subst IsNoPlugin (sym r.reader) k) (by_reader unknown r ∙ g)
    key_refuses (PluginFailed name) k r g = absurd g
    key_refuses NoMemory k r g = record {
      asked = asked_none link (plugin_reading (reader_in list bytes)) links;
      unasked = inl refl;
    }

  module _ (name body : List ℕ) (first : Bool) where
    spelled : (answer : Result EncryptedObject ObjectNo) → IsReadBy list bytes (Kms name) body first
        → ReadsMessage body answer → answer ≢ Err object.NoMemory → IsObjectOf name bytes answer
    spelled answer r s n = (subst (λ b. ReadsMessage b answer) r.body_is s, n)

    asked_by : (olds news : List L) → IsReadBy list bytes (Kms name) body first
        → AskedOnly link (name ∷ []) olds news
        → AskedOnly link (plugin_reading (reader_in list bytes)) olds news
    asked_by olds news r a =
        subst (λ o. AskedOnly link (plugin_reading o) olds news) (sym r.reader) a

    pub object_refuses : (links : List L) (why : UnsealNo)
        → IsReadBy list bytes (Kms name) body first → IsObjectIn body (Err why)
        → UnsealsBy link seeds list path bytes links (Err why) links
    object_refuses links (Refused why) r (breach, s, (is, n)) =
        let envelope : Envelope = record { object = Err breach; source = None } in
        let there = spelled (Err breach) r s (λ e. n (cc)) in record {
          envelope = envelope;
          object = subst (λ o. HasObject o bytes (Err breach)) (sym r.reader) there;
          published = subst (λ o. TakesSeed seeds o envelope) (sym r.reader)
              (λ found row e. absurd (cc));
          unsourced = λ why is. refl;
          is = by_reader links (Kms name) body first envelope r ∙ is;
          asked = asked_none link (plugin_reading (reader_in list bytes)) links;
          unasked = λ m. refl;
        }
    object_refuses links (PluginFailed failed) r i = absurd i
    object_refuses links NoMemory r i = record {
      asked = asked_none link (plugin_reading (reader_in list bytes)) links;
      unasked = inl refl;
    }

    module _ (row : SeedRow) (is_row : seed_of name seeds ≡ Some row)
        (found_object : EncryptedObject)
        (r : IsReadBy list bytes (Kms name) body first) (s : ReadsMessage body (Ok found_object)) where
      -- a seed that is found is that of the plugin
      one_row : (other : SeedRow) → seed_of name seeds ≡ Some other → other ≡ row
      one_row other e = let same : Some other ≡ Some row = sym e ∙ is_row in cc

      may_ask : (IsSeedOf row name found_object → ⊥) → MayAskFor seeds name found_object
      may_ask n = λ other e is. n (subst (λ o. IsSeedOf o name found_object) (one_row other e) is)

      object_is : IsObjectOf name bytes (Ok found_object)
      object_is = spelled (Ok found_object) r s (λ e. cc)

      reading_by : (olds news : List L) (gave : Result (List ℕ) UnsealNo)
          (result : Result Opened UnsealNo)
          → (o : ReadsObject link row name found_object path olds gave news)
          → Unseals (record { object = Ok found_object; source = Some o.source }) seeds list path
          bytes result
          → IsReading link seeds list path bytes olds result news
      reading_by olds news gave result o u =
          let envelope : Envelope = record { object = Ok found_object; source = Some o.source } in record {
            envelope = envelope;
            object = subst (λ w. HasObject w bytes (Ok found_object)) (sym r.reader) object_is;
            published = subst (λ w. TakesSeed seeds w envelope) (sym r.reader)
                (λ other q e f is. ap (λ x. Some x)
                (o.is (same_seed other q e f is)
                ∙ ap (λ p. p.seed) (sym (one_row q f))));
            unsourced = λ why is. absurd (cc);
            is = u;
            asked = asked_by olds news r o.asked;
            unasked = λ m. elim o.unasked [
              | inl e ↦ e
              | inr n ↦ absurd (m (subst (λ w. MayAskPlugin seeds w (Ok found_object)) (sym r.reader)
                  (may_ask n)))
            ];
          }
        where
          same_seed : (other : EncryptedObject) (q : SeedRow)
              → is_ok_of found_object ≡ is_ok_of other → seed_of name seeds ≡ Some q
              → IsSeedOf q name other
              → IsSeedOf row name found_object
          same_seed other q e f is =
              let one : other ≡ found_object = cc in
              subst (λ p. IsSeedOf p name found_object) (one_row q f)
              (subst (λ p. IsSeedOf q name p) one is)

      pub object_opens : (olds news : List L) (plain : List ℕ)
          → UnsealsObject link row name found_object path olds (Ok plain) news
          → UnsealsBy link seeds list path bytes olds (Ok (record {
            plain = plain;
            stale = not (first && is_current (Some row) (Ok found_object));
          })) news
      object_opens olds news plain o = reading_by olds news (Ok plain) (Ok (record {
        plain = plain;
        stale = not (first && is_current (Some row) (Ok found_object));
      })) o (
        by_reader olds (Kms name) body first
            (record { object = Ok found_object; source = Some o.source }) r ∙ o.gives,
        sym (stale_by_plugin found_object (Some o.source) seeds row list bytes body name first
            is_row r),
      )

      pub object_fails : (olds news : List L) (why : UnsealNo)
          → UnsealsObject link row name found_object path olds (Err why) news
          → UnsealsBy link seeds list path bytes olds (Err why) news
      object_fails olds news (Refused why) o =
          reading_by olds news (Err (Refused why)) (Err (Refused why)) o
          (by_reader olds (Kms name) body first
          (record { object = Ok found_object; source = Some o.source }) r ∙ o.gives)
      object_fails olds news (PluginFailed failed) o =
          subst (λ n. UnsealsBy link seeds list path bytes olds (Err (PluginFailed n)) news)
          (sym o.name_is) (record {
            object = found_object;
            reader = r.reader;
            reads = object_is;
            asked = may_ask o.other;
            rose = o.rose;
            others = o.asked;
          })
      object_fails olds news NoMemory o = record {
        asked = asked_by olds news r o.0;
        unasked = elim o.1 [
          | inl e ↦ inl e
          | inr n ↦ inr (
            Ok found_object,
            subst (λ w. HasObject w bytes (Ok found_object)) (sym r.reader) object_is,
            subst (λ w. MayAskPlugin seeds w (Ok found_object)) (sym r.reader) (may_ask n),
          )
        ];
      }
