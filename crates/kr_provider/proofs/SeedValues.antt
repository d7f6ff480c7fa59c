-- A plugin's value: its parts in front of the sealed bytes and behind them.
use Rattle.std.proofs.Common.{◌≡◌, ℕ, ◌+◌, ◌≤◌, List, [], ◌∷◌, ◌++◌, length, take, drop, Some, sym, ◌∙◌, ap, arith, append_assoc, take_at}
use Rattle.std.specs.Option.{option_map}
use Rattle.std.proofs.lemmas.List.{length-take-le}
use Rattle.kr_envelope.specs.declared.prefix.Kind.TheVariants as kind
use Rattle.kr_envelope.specs.declared.object.SourceKind.TheVariants.{Seed}
use Rattle.kr_envelope.specs.Canonical.{canonical, content_field, fields_behind, shortest}
use Rattle.kr_envelope.specs.Prefixes.{prefix}
use Rattle.kr_config.specs.declared.who.Who.TheVariants.{Kms}
use Rattle.kr_kms.specs.declared.seeds.SeedRow.{SeedRow}
use Rattle.kr_provider.specs.Envelopes.{gcm_body, sealed_object, seed_body, value_key}
use Rattle.kr_provider.specs.Publication.{seed_of}
use Rattle.kr_provider.specs.Sealing.{sealed_by}
use Rattle.kr_provider.proofs.Filled.{sealed_fits}
use Rattle.kr_provider.proofs.SealedSizes.{seed_size}

field_is : (body : List ℕ) (size : ℕ) → length body ≡ size → 1 ≤ size
    → content_field 1 body ≡ 10 ∷ (shortest size ++ body)
field_is [] size e some = absurd (omega (arith, e, some))
field_is (byte ∷ bytes) size e some = ap (λ n. 10 ∷ (shortest n ++ byte ∷ bytes)) e

-- what stands behind the info is under the key that it makes
pub body_written : (seed path plain drawn info first rest nonce key value : List ℕ)
    → length drawn ≡ 44 → info ≡ take 32 drawn → first ≡ info → key ≡ value_key seed info
    → nonce ≡ drop 32 drawn → value ≡ take 32 (first ++ rest) ++ gcm_body key path plain nonce
    → value ≡ seed_body seed path plain drawn
body_written seed path plain drawn info first rest nonce key value size i f k n v =
    let short : length (take 32 drawn) ≡ 32 = length-take-le 32 drawn (omega (arith, size)) in
    let same : first ≡ take 32 drawn = f ∙ i in
    let keyed : key ≡ value_key seed (take 32 drawn) = k ∙ ap (value_key seed) i in
    v ∙ (λ j. take 32 (same j ++ rest) ++ gcm_body (keyed j) path plain (n j))
    ∙ ap (λ l. l ++ gcm_body (value_key seed (take 32 drawn)) path plain (drop 32 drawn))
    (take_at (take 32 drawn) rest 32 short)

pub value_between : (name path plain drawn : List ℕ) (row : SeedRow) (size : ℕ)
    → length drawn ≡ 44 → size ≡ 32 + (12 + (length plain + 16))
    → (prefix kind.Kms name ++ 10 ∷ shortest size) ++ (seed_body row.seed path plain drawn
    ++ fields_behind row.key_id row.source row.annotations Seed)
    ≡ prefix kind.Kms name ++ canonical (sealed_object row path plain drawn)
value_between name path plain drawn row size d s =
    let start = prefix kind.Kms name in
    let body = seed_body row.seed path plain drawn in
    let behind = fields_behind row.key_id row.source row.annotations Seed in
    let long : length body ≡ size = seed_size row.seed path plain drawn d ∙ sym s in
    append_assoc start (10 ∷ shortest size) (body ++ behind)
    ∙ ap (λ l. start ++ 10 ∷ l) (sym (append_assoc (shortest size) body behind))
    ∙ ap (λ l. start ++ (l ++ behind)) (sym (field_is body size long (omega (arith, s))))

pub sealed_by_row : (seeds : List SeedRow) (name path plain drawn value : List ℕ) (row : SeedRow)
    → length plain ≤ 2097152 → seed_of name seeds ≡ Some row
    → value ≡ prefix kind.Kms name ++ canonical (sealed_object row path plain drawn)
    → sealed_by seeds (Kms name) path plain drawn ≡ Some value
sealed_by_row seeds name path plain drawn value row h is v =
    sealed_fits seeds (Kms name) path plain drawn h
    ∙ ap (option_map (λ r. prefix kind.Kms name ++ canonical (sealed_object r path plain drawn))) is
    ∙ ap (λ l. Some l) (sym v)
