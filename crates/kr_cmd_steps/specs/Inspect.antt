-- What a stored value says of itself.
use Rattle.std.specs.Prelude.{◌≡◌, ℕ, List, ◌++◌, length, codes, map, Option, None, Some, Result, Ok, Err}
use Rattle.std.specs.List.{concat}
use Rattle.kr_envelope.specs.Prefixes.{IsSplit}
use Rattle.kr_envelope.specs.Limits.{ReadsMessage, number_of}
use Rattle.kr_envelope.specs.declared.prefix.Kind.{Kind}
use Rattle.kr_envelope.specs.declared.prefix.Kind.TheVariants.{Aescbc, Aesgcm, Kms}
use Rattle.kr_envelope.specs.declared.prefix.Tagged.{Tagged}
use Rattle.kr_envelope.specs.declared.prefix.Tagged.TheVariants.{Plain, Known, Strange}
use Rattle.kr_envelope.specs.declared.object.EncryptedObject.{EncryptedObject}
use Rattle.kr_envelope.specs.declared.object.ObjectNo.{ObjectNo}
use Rattle.kr_envelope.specs.declared.object.ObjectNo.TheVariants.{Wire, KeyId, Source, Annotations, SourceType, NoData, NotUtf8, NoMemory}
use Rattle.kr_provider.specs.declared.refusal.ValueNo.TheVariants as value
use Rattle.kr_base.specs.Visible.{visible}
use Rattle.kr_cmd_messages.specs.Texts.{line, word_and_number}
use Rattle.kr_cmd_messages.specs.declared.refusal.Refusal.{Refusal}
use Rattle.kr_cmd_messages.specs.declared.refusal.Refusal.TheVariants.{Value, Placed}

abbrev pub kind_text : Kind → List ℕ
kind_text Aescbc = codes "aescbc"
kind_text Aesgcm = codes "aesgcm"
kind_text Kms = codes "kms"

-- the kind, the name, and how long the body is
abbrev pub tag_line : Kind → (name body : List ℕ) → List ℕ
tag_line kind name body = line (kind_text kind ++ (codes " " ++ word_and_number name (length body)))

abbrev pub annotation_line : List ℕ × List ℕ → List ℕ
annotation_line pair =
    line (codes "annotation " ++ word_and_number (visible pair.0) (length pair.1))

abbrev pub object_lines : EncryptedObject → List ℕ
object_lines object =
    line (codes "key-id " ++ visible object.key_id)
    ++ (line (word_and_number (codes "source") (length object.source))
    ++ (concat (map annotation_line object.annotations)
    ++ (line (word_and_number (codes "type") (number_of object.kind))
    ++ line (word_and_number (codes "data") (length object.encrypted)))))

-- why bytes are no object; a breach of the wire format and of UTF-8 has its place
abbrev pub inspect_refusal : ObjectNo → Option Refusal
inspect_refusal (Wire at) = Some (Placed value.Wire at)
inspect_refusal KeyId = Some (Value value.KeyId)
inspect_refusal Source = Some (Value value.Source)
inspect_refusal Annotations = Some (Value value.Annotations)
inspect_refusal SourceType = Some (Value value.SourceType)
inspect_refusal NoData = Some (Value value.NoData)
inspect_refusal (NotUtf8 at) = Some (Placed value.NotUtf8 at)
inspect_refusal NoMemory = None

abbrev pub ShowsObject : (name body : List ℕ) → Result EncryptedObject ObjectNo
    → Result (List ℕ) Refusal → Type 0
ShowsObject name body (Ok object) shown =
    shown ≡ Ok (tag_line Kms name body ++ object_lines object)
ShowsObject name body (Err breach) shown =
    (why : Refusal) × (inspect_refusal breach ≡ Some why) × (shown ≡ Err why)

-- the line of a value with a prefix; a plugin's has those of its object behind it
abbrev pub ShowsBody : Kind → (name body : List ℕ) → Result (List ℕ) Refusal → Type 0
ShowsBody Aescbc name body shown = shown ≡ Ok (tag_line Aescbc name body)
ShowsBody Aesgcm name body shown = shown ≡ Ok (tag_line Aesgcm name body)
ShowsBody Kms name body shown =
    (read : Result EncryptedObject ObjectNo) × ReadsMessage body read
    × ShowsObject name body read shown

-- a value by its prefix; one that begins as a prefix does and has none is refusal 12
abbrev pub ShowsSplit : Tagged → Result (List ℕ) Refusal → Type 0
ShowsSplit (Plain content) shown =
    shown ≡ Ok (line (word_and_number (codes "plain") (length content.now)))
ShowsSplit (Known kind name body) shown = ShowsBody kind name.now body.now shown
ShowsSplit Strange shown = shown ≡ Err (Value value.NoProvider)

abbrev pub Inspects : List ℕ → Result (List ℕ) Refusal → Type 0
Inspects bytes shown = (tagged : Tagged) × IsSplit bytes tagged × ShowsSplit tagged shown
