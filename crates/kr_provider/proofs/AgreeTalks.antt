-- By what agrees with each exchange, values read as they should, and published seeds open.
use Rattle.std.proofs.Common.{◌≡◌, ℕ, Bool, true, false, List, Option, Some, None, Result, Ok, Err, IfOk, refl, sym, ◌∙◌, ap, subst}
use Rattle.std.specs.Str.{bytes_eq}
use Rattle.std.proofs.lemmas.List.Elements.{All-nil, All-cons}
use Rattle.kr_config.specs.declared.who.Who.{Who}
use Rattle.kr_config.specs.declared.who.Who.TheVariants.{Kms}
use Rattle.kr_envelope.specs.declared.object.EncryptedObject.{EncryptedObject}
use Rattle.kr_envelope.specs.declared.object.ObjectNo.{ObjectNo}
use Rattle.kr_kms.specs.Cache.{AreOpenBy, CacheState, key_eq}
use Rattle.kr_kms.specs.Exchanges.{AgreeAll, Exchange}
use Rattle.kr_kms.specs.Opens.{OpenAll, Opens, key_of}
use Rattle.kr_kms.specs.declared.plugin.KmsNo.{KmsNo}
use Rattle.kr_kms.specs.declared.plugin.KmsNo.TheVariants as kms
use Rattle.kr_kms.specs.declared.seeds.SeedRow.{SeedRow}
use Rattle.kr_kms.proofs.Keys.{same_key}
use Rattle.kr_kms.proofs.Opening.{agree_parts, fetch_open, seed_opens}
use Rattle.kr_provider.specs.Envelopes.{Envelope, HasEnvelope, HasObject, IsEnvelopeOf, IsObjectOf, seed_key, source_by}
use Rattle.kr_provider.specs.ExchangeLaws.{IsAnswerBy}
use Rattle.kr_provider.specs.Exchanges.{AnswersByFetch, LacksSource, MakesSeedsBy, ReadsBy, all_made, fetched, no_memory, no_name, no_room, refused, unasked, went_on, with_seed_first}
use Rattle.kr_provider.specs.Publication.{seed_of}
use Rattle.kr_provider.specs.Readers.{reader_in}
use Rattle.kr_provider.specs.Reading.{Unseals}
use Rattle.kr_provider.specs.Unsealing.{HasNoSource, IsSeedOf, MayAskPlugin, TakesSeed}
use Rattle.kr_provider.specs.declared.refusal.Opened.{Opened}
use Rattle.kr_provider.specs.declared.refusal.PublishNo.{PublishNo}
use Rattle.kr_provider.specs.declared.refusal.UnsealNo.{UnsealNo}
use Rattle.kr_provider.specs.declared.refusal.UnsealNo.TheVariants.{Refused, PluginFailed, NoMemory}
use Rattle.kr_provider.proofs.SealedSizes.{found, of_all}

module _ (opens : Opens) where
  -- ---- seeds

  more_open : (row : SeedRow) (result : Result (List SeedRow) PublishNo) → opens (key_of row) ≡ Some row.seed
      → IfOk result (OpenAll opens) → IfOk (with_seed_first row result) (OpenAll opens)
  more_open row (Ok rows) one rest = All-cons (λ (r : SeedRow). opens (key_of r) ≡ Some r.seed) row rows one rest
  more_open row (Err why) one rest = tt

  pub seeds_open : {D : Type 0} (left : D → Option (List ℕ)) (count : D → ℕ) (names : List (List ℕ)) (passed : List ℕ) (dice : D)
      (result : Result (List SeedRow) PublishNo) (after : D) (es : List Exchange) → MakesSeedsBy left count names passed dice result after es
      → AgreeAll opens es → IfOk result (OpenAll opens)
  seeds_open left count names passed dice _ _ _ (all_made none) agree = All-nil (λ (r : SeedRow). opens (key_of r) ≡ Some r.seed)
  seeds_open left count names passed dice _ _ _ (refused name why refusal next makes told) agree = tt
  seeds_open left count names passed dice _ _ _ (no_name name next) agree = tt
  seeds_open left count names passed dice _ _ _ (no_room name row next makes) agree = tt
  seeds_open left count names passed dice _ _ _ (went_on {between = between} {after = after} {exchanges = es} {others = fs} {result = result} name row next makes rest) agree =
      let parts = agree_parts opens es fs agree in
      more_open row result (seed_opens opens left count name dice (Ok row) between es makes parts.0)
      (seeds_open left count names name between result after fs rest parts.1)

  -- ---- values

  module _ (seeds : List SeedRow) (list : List Who) (path bytes : List ℕ) where
    answered : (envelope : Envelope) (result : Result Opened UnsealNo) → IsEnvelopeOf opens list bytes envelope
        → Unseals envelope seeds list path bytes result → IsAnswerBy opens seeds list path bytes result
    answered envelope (Ok opened) is u = (envelope, is, u)
    answered envelope (Err (Refused why)) is u = (envelope, is, u)
    answered envelope (Err (PluginFailed name)) is u = tt
    answered envelope (Err NoMemory) is u = tt

    module _ (all : OpenAll opens seeds) (name : List ℕ) (envelope : Envelope) (object : EncryptedObject)
        (is : envelope.object ≡ Ok object) (takes : TakesSeed seeds (Some (Kms name)) envelope) where
      -- a published seed is the object's, or the plugin may be asked
      published : (row : SeedRow) → seed_of name seeds ≡ Some row → IsSeedOf row name object → envelope.source ≡ opens (seed_key name object)
      published row at own =
          let there = (found (λ o. bytes_eq o.name name) seeds row at).1 in
          takes object row is at own
          ∙ sym (of_all (λ (r : SeedRow). opens (key_of r) ≡ Some r.seed) seeds row all there)
          ∙ ap opens own

      by_row : (row : SeedRow) → seed_of name seeds ≡ Some row → (b : Bool) → key_eq (key_of row) (seed_key name object) ≡ b
          → (((other : SeedRow) → seed_of name seeds ≡ Some other → IsSeedOf other name object → ⊥) → ⊥) → envelope.source ≡ opens (seed_key name object)
      by_row row at true e n = published row at ((same_key (key_of row) (seed_key name object)).0 e)
      by_row row at false e n = absurd (n (λ other there own.
          let one : other ≡ row = let both : Some other ≡ Some row = sym there ∙ at in cc in
          let yes = (same_key (key_of row) (seed_key name object)).1 (subst (λ r. IsSeedOf r name object) one own) in
          let both : true ≡ false = sym yes ∙ e in cc))

      by_seed : (o : Option SeedRow) → seed_of name seeds ≡ o
          → (((other : SeedRow) → seed_of name seeds ≡ Some other → IsSeedOf other name object → ⊥) → ⊥) → envelope.source ≡ opens (seed_key name object)
      by_seed None at n = absurd (n (λ other there own. let both : None ≡ Some other = sym at ∙ there in cc))
      by_seed (Some row) at n = by_row row at (key_eq (key_of row) (seed_key name object)) refl n

    source_is : OpenAll opens seeds → (name : List ℕ) (envelope : Envelope) (object : Result EncryptedObject ObjectNo) → envelope.object ≡ object
        → TakesSeed seeds (Some (Kms name)) envelope → HasNoSource envelope → (MayAskPlugin seeds (Some (Kms name)) object → ⊥)
        → envelope.source ≡ source_by opens name object
    source_is all name envelope (Ok object) is takes none n = by_seed all name envelope object is takes (seed_of name seeds) refl n
    source_is all name envelope (Err why) is takes none n = none why is

    unasked_envelope : OpenAll opens seeds → (reader : Option Who) (envelope : Envelope) → HasObject reader bytes envelope.object
        → TakesSeed seeds reader envelope → HasNoSource envelope → (MayAskPlugin seeds reader envelope.object → ⊥) → HasEnvelope opens reader bytes envelope
    unasked_envelope all (Some (Kms name)) envelope has takes none n =
        (has, source_is all name envelope envelope.object refl takes none n)
    unasked_envelope all other envelope has takes none n = tt

    lacking : (name : List ℕ) (why : KmsNo) (result : Result Opened UnsealNo) → LacksSource name why result → IsAnswerBy opens seeds list path bytes result
    lacking name kms.Failed result e = subst (IsAnswerBy opens seeds list path bytes) (sym e) tt
    lacking name kms.NoMemory result e = subst (IsAnswerBy opens seeds list path bytes) (sym e) tt

    fetched_answer : (name : List ℕ) (object : EncryptedObject) (source : Result (List ℕ) KmsNo) (result : Result Opened UnsealNo)
        → reader_in list bytes ≡ Some (Kms name) → IsObjectOf name bytes (Ok object) → IfOk source (λ seed. opens (seed_key name object) ≡ Some seed)
        → AnswersByFetch seeds list path bytes name object source result → IsAnswerBy opens seeds list path bytes result
    fetched_answer name object (Ok source) result reader has is u =
        let envelope : Envelope = record { object = Ok object; source = Some source } in
        answered envelope result (subst (λ o. HasEnvelope opens o bytes envelope) (sym reader) (has, sym is)) u
    fetched_answer name object (Err why) result reader has is u = lacking name why result u

    pub reading_agrees : (cache : CacheState) (result : Result Opened UnsealNo) (after : CacheState) (es : List Exchange)
        → ReadsBy seeds list path bytes cache result after es → AgreeAll opens es → OpenAll opens seeds → AreOpenBy opens cache.rows
        → AreOpenBy opens after.rows × IsAnswerBy opens seeds list path bytes result
    reading_agrees cache result after _ (no_memory is same) agree all kept_open =
        (subst (λ (c : CacheState). AreOpenBy opens c.rows) (sym same) kept_open, subst (IsAnswerBy opens seeds list path bytes) (sym is) tt)
    reading_agrees cache result after _ (unasked envelope has takes none n u same) agree all kept_open = (
      subst (λ (c : CacheState). AreOpenBy opens c.rows) (sym same) kept_open,
      answered envelope result (unasked_envelope all (reader_in list bytes) envelope has takes none n) u,
    )
    reading_agrees cache result after es (fetched name object source reader has may fetches u) agree all kept_open =
        let got = fetch_open opens (seed_key name object) cache source after es fetches agree kept_open in
        (got.0, fetched_answer name object source result reader has got.1 u)
