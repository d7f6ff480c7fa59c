-- A sealing by a published configuration whose seeds open reads as its data, and as nothing else.
use Rattle.std.proofs.Common.{◌≡◌, ◌≢◌, ℕ, ◌≤◌, ◌⊎◌, inl, inr, List, ◌++◌, length, Some, None, Ok, Err, Option, Result, refl, sym, ◌∙◌, ap, subst}
use Rattle.std.specs.Prelude.{All}
use Rattle.std.specs.Option.{option_map}
use Rattle.std.specs.Str.{bytes_eq}
use Rattle.std.proofs.lemmas.Slice.Eq.{bytes_eq-Decides}
use Rattle.kr_envelope.specs.declared.object.EncryptedObject.{EncryptedObject}
use Rattle.kr_envelope.specs.declared.object.ObjectNo.{ObjectNo}
use Rattle.kr_envelope.specs.declared.object.ObjectNo.TheVariants.{NoMemory}
use Rattle.kr_envelope.specs.declared.prefix.Kind.TheVariants as kind
use Rattle.kr_envelope.specs.Canonical.{canonical}
use Rattle.kr_envelope.specs.Limits.{ReadsMessage}
use Rattle.kr_envelope.specs.Prefixes.{prefix}
use Rattle.kr_config.specs.declared.who.Who.{Who}
use Rattle.kr_config.specs.declared.who.Who.TheVariants.{Kms}
use Rattle.kr_kms.specs.Seeds.{IsSeedRow}
use Rattle.kr_kms.specs.declared.seeds.SeedRow.{SeedRow}
use Rattle.kr_kms.specs.Opens.{Opens, key_of}
use Rattle.kr_provider.specs.Envelopes.{Envelope, HasEnvelope, sealed_object, seed_key, source_by, unknown}
use Rattle.kr_provider.specs.Laws.{IsSealedEnvelope, SealingReads}
use Rattle.kr_provider.specs.Publication.{SeedOpens, seed_of, writer_at}
use Rattle.kr_provider.specs.Sealing.{IsBytes, draw_size, value_by}
use Rattle.kr_provider.proofs.Rivals.{one_reader}
use Rattle.kr_provider.proofs.SealedReads.{behind, is_read, sealed_reads, value_is}
use Rattle.kr_provider.proofs.SealedSizes.{data_fits, found, of_all, written}

answered : (answer : Result EncryptedObject ObjectNo) (object : EncryptedObject)
    → answer ≢ Err NoMemory → (answer ≡ Ok object) ⊎ (answer ≡ Err NoMemory) → answer ≡ Ok object
answered answer object n (inl e) = e
answered answer object n (inr e) = absurd (n e)

-- the row that a test finds for a name, and what its wrapped source opens to
found_opens : (opens : Opens) (seeds : List SeedRow) (name path plain drawn : List ℕ)
    (row : SeedRow) → SeedOpens opens seeds (Kms name) → seed_of name seeds ≡ Some row
    → source_by opens name (Ok (sealed_object row path plain drawn)) ≡ Some row.seed
found_opens opens seeds name path plain drawn row o f =
    let there = found (λ r. bytes_eq r.name name) seeds row f in
    let named : row.name ≡ name = (bytes_eq-Decides row.name name).0 there.0 in
    let key : seed_key name (sealed_object row path plain drawn) ≡ key_of row =
    ap (λ n. seed_key n (sealed_object row path plain drawn)) (sym named) in
    ap opens key ∙ o row f

row_envelope : (opens : Opens) (seeds : List SeedRow) (name path plain drawn value : List ℕ)
    (envelope : Envelope) (row : SeedRow)
    → SeedOpens opens seeds (Kms name) → All IsSeedRow seeds → length plain ≤ 2097152
    → IsBytes 44 drawn
    → seed_of name seeds ≡ Some row
    → Some (prefix kind.Kms name ++ canonical (sealed_object row path plain drawn)) ≡ Some value
    → HasEnvelope opens (Some (Kms name)) value envelope
    → IsSealedEnvelope seeds (Kms name) path plain drawn envelope
row_envelope opens seeds name path plain drawn value envelope row o a fits b f e h =
    let there = (found (λ r. bytes_eq r.name name) seeds row f).1 in
    let object = sealed_object row path plain drawn in
    let spelled : ReadsMessage (canonical object) envelope.object =
    subst (λ bytes. ReadsMessage bytes envelope.object)
    (behind kind.Kms name (canonical object) value e) h.0.0 in
    let is : envelope.object ≡ Ok object = answered envelope.object object h.0.1
    ((written row path plain drawn (of_all IsSeedRow seeds row a there) fits b).1
    envelope.object spelled) in (
      row,
      f,
      (of_all IsSeedRow seeds row a there).seed,
      is,
      h.1 ∙ ap (source_by opens name) is
          ∙ found_opens opens seeds name path plain drawn row o f,
    )

-- what the value of a provider holds, if it is to be read
Held : Opens → List SeedRow → Who → (path plain drawn value : List ℕ) → Type 0
Held opens seeds who path plain drawn value = (envelope : Envelope)
    × HasEnvelope opens (Some who) value envelope
    × IsSealedEnvelope seeds who path plain drawn envelope

row_held : (opens : Opens) (seeds : List SeedRow) (name path plain drawn value : List ℕ)
    (row : SeedRow)
    → SeedOpens opens seeds (Kms name) → All IsSeedRow seeds → length plain ≤ 2097152
    → IsBytes 44 drawn
    → seed_of name seeds ≡ Some row
    → Some (prefix kind.Kms name ++ canonical (sealed_object row path plain drawn)) ≡ Some value
    → Held opens seeds (Kms name) path plain drawn value
unfolding Held
row_held opens seeds name path plain drawn value row o a fits b f e =
    let there = (found (λ r. bytes_eq r.name name) seeds row f).1 in
    let object = sealed_object row path plain drawn in
    let body = behind kind.Kms name (canonical object) value e in (
      record { object = Ok object; source = Some row.seed },
      (
        (
          subst (λ bytes. ReadsMessage bytes (Ok object)) (sym body)
              (written row path plain drawn (of_all IsSeedRow seeds row a there) fits b).0,
          (λ same. cc),
        ),
        sym (found_opens opens seeds name path plain drawn row o f),
      ),
      (row, f, (of_all IsSeedRow seeds row a there).seed, refl, refl),
    )

envelope_of : (opens : Opens) (seeds : List SeedRow) (who : Who) (path plain drawn value : List ℕ)
    (envelope : Envelope)
    → SeedOpens opens seeds who → All IsSeedRow seeds → length plain ≤ 2097152
    → IsBytes (draw_size who) drawn → value_by seeds who path plain drawn ≡ Some value
    → HasEnvelope opens (Some who) value envelope
    → IsSealedEnvelope seeds who path plain drawn envelope
envelope_of opens seeds (Kms name) path plain drawn value envelope o a fits b e h =
    by_row (seed_of name seeds) refl e
  where
    by_row : (found : Option SeedRow) → seed_of name seeds ≡ found
        → option_map (λ row. prefix kind.Kms name ++ canonical (sealed_object row path plain drawn))
        found ≡ Some value → IsSealedEnvelope seeds (Kms name) path plain drawn envelope
    by_row None f e = absurd (cc)
    by_row (Some row) f e = row_envelope opens seeds name path plain drawn value envelope row o a
        fits b f e h
envelope_of opens seeds other path plain drawn value envelope o a fits b e h = tt

held_of : (opens : Opens) (seeds : List SeedRow) (who : Who) (path plain drawn value : List ℕ)
    → SeedOpens opens seeds who → All IsSeedRow seeds → length plain ≤ 2097152
    → IsBytes (draw_size who) drawn → value_by seeds who path plain drawn ≡ Some value
    → Held opens seeds who path plain drawn value
unfolding Held
held_of opens seeds (Kms name) path plain drawn value o a fits b e =
    by_row (seed_of name seeds) refl e
  where
    by_row : (found : Option SeedRow) → seed_of name seeds ≡ found
        → option_map (λ row. prefix kind.Kms name ++ canonical (sealed_object row path plain drawn))
        found ≡ Some value → Held opens seeds (Kms name) path plain drawn value
    by_row None f e = absurd (cc)
    by_row (Some row) f e = row_held opens seeds name path plain drawn value row o a fits b f e
held_of opens seeds other path plain drawn value o a fits b e = (unknown, tt, tt)

pub sealing_reads : SealingReads
unfolding Held
sealing_reads opens p list resource path plain value reading published o k c s =
    let who = writer_at p resource in
    let h = s.plain_is in
    let fits = data_fits p.seeds who path plain s.drawn value s.is in
    let v = value_is p.seeds who path plain s.drawn value s.is in
    let reader = one_reader value list who k (is_read p.seeds who path plain s.drawn value v) c in
    let held =
    held_of opens p.seeds who path plain s.drawn value o published.seeds fits s.fits v in (
      (λ r. let P : Option Who → Type 0 = λ w. HasEnvelope opens w value r.0 in
          let inside = envelope_of opens p.seeds who path plain s.drawn value r.0 o published.seeds
          fits s.fits v (subst P reader r.1) in
          sym r.2 ∙ sealed_reads p.seeds list who path plain s.drawn value r.0 k c s.fits h s.is
          inside),
      (λ is. let P : Option Who → Type 0 = λ w. HasEnvelope opens w value held.0 in (
        held.0,
        subst P (sym reader) held.1,
        sealed_reads p.seeds list who path plain s.drawn
            value held.0 k c s.fits h s.is held.2 ∙ sym is,
      )),
    )
