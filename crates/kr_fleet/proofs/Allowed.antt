-- Which refusals a value may have that has a reader.
use Rattle.std.proofs.Common.{take, drop, ◌≡◌, ℕ, ◌==◌, Bool, true, false, List, length, if◌then◌else◌, Option, None, Some, Result, Ok, Err, sym, ap, subst, ◌∙◌}
use Rattle.std.specs.Prelude.{⊤}
use Rattle.kr_config.specs.declared.who.Who.{Who}
use Rattle.kr_config.specs.declared.who.Who.TheVariants.{Identity, Aescbc, Aesgcm, Kms}
use Rattle.kr_envelope.specs.declared.object.EncryptedObject.{EncryptedObject}
use Rattle.kr_envelope.specs.declared.object.ObjectNo.{ObjectNo}
use Rattle.kr_envelope.specs.declared.object.ObjectNo.TheVariants as object
use Rattle.kr_envelope.specs.declared.object.SourceKind.{SourceKind}
use Rattle.kr_envelope.specs.declared.object.SourceKind.TheVariants.{Key, Seed}
use Rattle.kr_modes.specs.declared.ModeNo.{ModeNo}
use Rattle.kr_modes.specs.declared.ModeNo.TheVariants.{Short}
use Rattle.kr_modes.specs.Cbc.{cbc_opened}
use Rattle.kr_modes.specs.Gcm.{gcm_opened}
use Rattle.kr_provider.specs.Ciphers.{cipher_under, inverse_under}
use Rattle.kr_provider.specs.Envelopes.{Envelope, value_key}
use Rattle.kr_provider.specs.Readers.{body_by, reader_in}
use Rattle.kr_provider.specs.Reading.{Reading, data_of, refused, unopened, body_reading, body_under, kind_reading, object_reading, object_refusal, provider_reading, reader_reading, seed_length, value_reading}
use Rattle.kr_provider.specs.declared.refusal.ValueNo.{ValueNo}
use Rattle.kr_fleet.specs.ReadCalls.{IsOfValue}

abbrev IsAllowed : Reading → Type 0
IsAllowed (data_of plain) = ⊤
IsAllowed (refused why) = IsOfValue why
IsAllowed unopened = ⊤

body_allowed : (read : Result (List ℕ) ModeNo) → IsAllowed (body_reading read)
body_allowed (Ok plain) = tt
body_allowed (Err Short) = tt
body_allowed (Err other) = tt

refusal_allowed : (why : ObjectNo) → IsAllowed (object_refusal why)
refusal_allowed (object.Wire at) = tt
refusal_allowed other = tt

under_allowed : (kind : SourceKind) (source path encrypted : List ℕ)
    → IsAllowed (body_under kind source path encrypted)
under_allowed Key source path encrypted =
    body_allowed (gcm_opened (cipher_under source) (take 12 encrypted) path (drop 12 encrypted))
under_allowed Seed source path encrypted =
    let key = value_key source (take 32 encrypted) in
    let body = drop 32 encrypted in
    body_allowed (gcm_opened (cipher_under key) (take 12 body) path (drop 12 body))

if_allowed : (b : Bool) (x y : Reading) → IsAllowed x → IsAllowed y
    → IsAllowed (if b then x else y)
if_allowed true x y p q = p
if_allowed false x y p q = q

kind_allowed : (kind : SourceKind) (source : Option (List ℕ)) (path encrypted : List ℕ)
    → IsAllowed (kind_reading kind source path encrypted)
kind_allowed kind None path encrypted = tt
kind_allowed kind (Some source) path encrypted =
    if_allowed (length source == 32) (body_under kind source path encrypted) seed_length
    (under_allowed kind source path encrypted) tt

object_allowed : (read : Result EncryptedObject ObjectNo) (source : Option (List ℕ))
    (path : List ℕ) → IsAllowed (object_reading read source path)
object_allowed (Ok o) source path = kind_allowed o.kind source path o.encrypted
object_allowed (Err why) source path = refusal_allowed why

provider_allowed : (envelope : Envelope) (who : Who) (path body : List ℕ)
    → IsAllowed (provider_reading envelope who path body)
provider_allowed envelope Identity path body = tt
provider_allowed envelope (Aescbc name secret) path body =
    body_allowed (cbc_opened (inverse_under secret) body)
provider_allowed envelope (Aesgcm name secret) path body =
    body_allowed (gcm_opened (cipher_under secret) (take 12 body) path (drop 12 body))
provider_allowed envelope (Kms name) path body =
    object_allowed envelope.object envelope.source path

pub refused_allowed : (envelope : Envelope) (list : List Who) (path bytes : List ℕ) (who : Who)
    (why : ValueNo) → reader_in list bytes ≡ Some who
    → value_reading envelope list path bytes ≡ refused why → IsOfValue why
refused_allowed envelope list path bytes who why reader e =
    subst IsAllowed (sym (ap (λ r. reader_reading envelope r path bytes) reader) ∙ e)
    (provider_allowed envelope who path (body_by who bytes))
