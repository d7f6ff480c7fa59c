-- What a provider sealed, it reads as the data.
use Rattle.std.proofs.Common.{◌≡◌, ℕ, ◌<◌, Bool, true, false, List, ◌++◌, length, take, drop, Some, None, Option, refl, sym, ◌∙◌, ap, subst, arith, length-drop}
use Rattle.std.specs.Prelude.{◌==◌, if◌then◌else◌, not, nat_lt, All}
use Rattle.std.specs.Option.{option_map}
use Rattle.std.proofs.lemmas.List.{length-take-le}
use Rattle.std.proofs.Math.Seq.{take-append_seam, drop-append_seam}
use Rattle.kr_aes.specs.Cipher.{IsBlock}
use Rattle.kr_aes.specs.KeyExpansion.{padded_schedule}
use Rattle.kr_modes.specs.Cbc.{cbc_opened}
use Rattle.kr_modes.specs.Gcm.{gcm, gcm_opened}
use Rattle.kr_modes.proofs.Sealed.{cbc_opened-cbc, gcm_opened-gcm}
use Rattle.kr_envelope.specs.declared.prefix.Kind.{Kind}
use Rattle.kr_envelope.specs.declared.prefix.Kind.TheVariants as kind
use Rattle.kr_envelope.specs.declared.object.SourceKind.TheVariants.{Seed}
use Rattle.kr_envelope.specs.Canonical.{canonical}
use Rattle.kr_envelope.specs.Prefixes.{begins, is_marked, prefix}
use Rattle.kr_envelope.proofs.Prefixing.{begins_is}
use Rattle.kr_config.specs.declared.who.Who.{Who}
use Rattle.kr_config.specs.declared.who.Who.TheVariants.{Identity, Aescbc, Aesgcm, Kms}
use Rattle.kr_kms.specs.declared.seeds.SeedRow.{SeedRow}
use Rattle.kr_provider.specs.Ciphers.{cipher_under, inverse_under, rounds_under}
use Rattle.kr_provider.specs.Envelopes.{Envelope, gcm_body, sealed_object, seed_body, value_key}
use Rattle.kr_provider.specs.Laws.{IsSealedEnvelope, SealedReads}
use Rattle.kr_provider.specs.Publication.{seed_of}
use Rattle.kr_provider.specs.Readers.{body_by, is_reader}
use Rattle.kr_provider.specs.Reading.{data_of, gcm_reading, object_reading, provider_reading, reader_reading, body_reading, kind_reading, seed_length, source_reading}
use Rattle.kr_provider.specs.Sealing.{IsBytes, draw_size, sealed_by, value_by}
use Rattle.kr_provider.proofs.Rivals.{one_reader}

pub value_is : (seeds : List SeedRow) (who : Who) (path plain drawn value : List ℕ)
    → sealed_by seeds who path plain drawn ≡ Some value
    → value_by seeds who path plain drawn ≡ Some value
value_is seeds who path plain drawn value e = within (nat_lt 2097152 (length plain)) e
  where
    within : (b : Bool) → (if b then None else value_by seeds who path plain drawn) ≡ Some value
        → value_by seeds who path plain drawn ≡ Some value
    within true e = absurd (cc)
    within false e = e

begun : (kind : Kind) (name body value : List ℕ) → Some (prefix kind name ++ body) ≡ Some value
    → begins (prefix kind name) value ≡ true
begun kind name body value e = let same : prefix kind name ++ body ≡ value = cc in
    (begins_is (prefix kind name) value).1 (body, sym same)

pub behind : (kind : Kind) (name body value : List ℕ) → Some (prefix kind name ++ body) ≡ Some value
    → drop (length (prefix kind name)) value ≡ body
behind kind name body value e = let same : prefix kind name ++ body ≡ value = cc in
    ap (drop (length (prefix kind name))) (sym same) ∙ drop-append_seam (prefix kind name) body

-- the parts of a body, at a size that is that of the first
front : (n : ℕ) (xs ys : List ℕ) → length xs ≡ n → take n (xs ++ ys) ≡ xs
front n xs ys e = subst (λ k. take k (xs ++ ys) ≡ xs) e (take-append_seam xs ys)

rest : (n : ℕ) (xs ys : List ℕ) → length xs ≡ n → drop n (xs ++ ys) ≡ ys
rest n xs ys e = subst (λ k. drop k (xs ++ ys) ≡ ys) e (drop-append_seam xs ys)

gcm_reads : (key path plain nonce : List ℕ) → length nonce ≡ 12
    → gcm_reading key path (gcm_body key path plain nonce) ≡ data_of plain
gcm_reads key path plain nonce size =
    let sealed = gcm (cipher_under key) nonce path plain in
    ap (λ n. body_reading (gcm_opened (cipher_under key) n path (drop 12 (nonce ++ sealed))))
    (front 12 nonce sealed size)
    ∙ ap (λ body. body_reading (gcm_opened (cipher_under key) nonce path body))
    (rest 12 nonce sealed size)
    ∙ ap body_reading (gcm_opened-gcm (padded_schedule key) (rounds_under key) nonce path plain)

seed_reads : (seed path plain drawn : List ℕ) → length seed ≡ 32 → length drawn ≡ 44
    → source_reading Seed seed path (seed_body seed path plain drawn) ≡ data_of plain
seed_reads seed path plain drawn long size =
    let info = take 32 drawn in
    let nonce = drop 32 drawn in
    let body = gcm_body (value_key seed info) path plain nonce in
    let info_size : length info ≡ 32 = length-take-le 32 drawn (omega (arith, size)) in
    let nonce_size : length nonce ≡ 12 = length-drop 32 drawn ∙ omega (arith, size) in
    ap (λ n. if n == 32 then gcm_reading (value_key seed (take 32 (info ++ body))) path
    (drop 32 (info ++ body)) else seed_length) long
    ∙ ap (λ i. gcm_reading (value_key seed i) path (drop 32 (info ++ body)))
    (front 32 info body info_size)
    ∙ ap (gcm_reading (value_key seed info) path) (rest 32 info body info_size)
    ∙ gcm_reads (value_key seed info) path plain nonce nonce_size

pub is_read : (seeds : List SeedRow) (who : Who) (path plain drawn value : List ℕ)
    → value_by seeds who path plain drawn ≡ Some value → is_reader value who ≡ true
is_read seeds Identity path plain drawn value e = bare (is_marked plain) refl e
  where
    bare : (b : Bool) → is_marked plain ≡ b → (if b then None else Some plain) ≡ Some value
        → not (is_marked value) ≡ true
    bare true m e = absurd (cc)
    bare false m e = let same : plain ≡ value = cc in ap not (ap is_marked (sym same) ∙ m)
is_read seeds (Aescbc name secret) path plain drawn value e = begun kind.Aescbc name _ value e
is_read seeds (Aesgcm name secret) path plain drawn value e = begun kind.Aesgcm name _ value e
is_read seeds (Kms name) path plain drawn value e = by_row (seed_of name seeds) e
  where
    by_row : (o : Option SeedRow) → option_map
        (λ row. prefix kind.Kms name ++ canonical (sealed_object row path plain drawn)) o ≡ Some value
        → begins (prefix kind.Kms name) value ≡ true
    by_row None e = absurd (cc)
    by_row (Some row) e = begun kind.Kms name _ value e

own_reading : (seeds : List SeedRow) (who : Who) (path plain drawn value : List ℕ)
    (envelope : Envelope) → IsBytes (draw_size who) drawn → All (λ byte. byte < 256) plain
    → value_by seeds who path plain drawn ≡ Some value
    → IsSealedEnvelope seeds who path plain drawn envelope
    → provider_reading envelope who path (body_by who value) ≡ data_of plain
own_reading seeds Identity path plain drawn value envelope b h e s = bare (is_marked plain) e
  where
    bare : (b : Bool) → (if b then None else Some plain) ≡ Some value
        → data_of value ≡ data_of plain
    bare true e = absurd (cc)
    bare false e = cc
own_reading seeds (Aescbc name secret) path plain drawn value envelope b h e s =
    let block : IsBlock drawn = record { size = b.0; bytes = b.1 } in
    ap (λ body. body_reading (cbc_opened (inverse_under secret) body))
    (behind kind.Aescbc name _ value e)
    ∙ ap body_reading (cbc_opened-cbc (padded_schedule secret)
    (rounds_under secret) drawn plain block h)
own_reading seeds (Aesgcm name secret) path plain drawn value envelope b h e s =
    ap (gcm_reading secret path) (behind kind.Aesgcm name _ value e)
    ∙ gcm_reads secret path plain drawn b.0
own_reading seeds (Kms name) path plain drawn value envelope b h e s =
    ap (λ object. object_reading object envelope.source path) s.3
    ∙ ap (λ source. kind_reading Seed source path (seed_body s.0.seed path plain drawn)) s.4
    ∙ seed_reads s.0.seed path plain drawn s.2 b.0

pub sealed_reads : SealedReads
sealed_reads seeds list who path plain drawn value envelope k c b h e s =
    let v = value_is seeds who path plain drawn value e in
    ap (λ o. reader_reading envelope o path value)
    (one_reader value list who k (is_read seeds who path plain drawn value v) c)
    ∙ own_reading seeds who path plain drawn value envelope b h v s
