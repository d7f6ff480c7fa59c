-- The one form in which an encrypted object is written.
use Rattle.std.specs.Prelude.{◌≡◌, ℕ, zero, suc, ◌+◌, ◌*◌, ◌/◌, ◌%◌, ◌^◌, ◌<◌, ◌≤◌, ◌⊎◌, nat_lt, if◌then◌else◌, List, [], ◌∷◌, ◌++◌, length, None, Result, Ok, Err}
use Rattle.std.specs.List.{flat_map, All}
use Rattle.std.specs.Str.{IsUtf8}
use Rattle.kr_base.specs.Pairs.{Pairs, IsSortedByKey}
use Rattle.kr_envelope.specs.declared.object.SourceKind.{SourceKind}
use Rattle.kr_envelope.specs.declared.object.SourceKind.TheVariants.{Key, Seed}
use Rattle.kr_envelope.specs.declared.object.ObjectNo.{ObjectNo}
use Rattle.kr_envelope.specs.declared.object.ObjectNo.TheVariants.{NoMemory}
use Rattle.kr_envelope.specs.declared.object.EncryptedObject.{EncryptedObject}
use Rattle.kr_envelope.specs.Limits.{breach_of, raw_in, ReadsMessage}

-- groups of seven bits, the lowest first, as long as the number isn't a last one; so many at most
-- before that
abbrev pub groups : ℕ → ℕ → List ℕ
groups zero n = n ∷ []
groups (suc more) n = if nat_lt n 128 then n ∷ [] else (n % 128 + 128) ∷ groups more (n / 128)

-- no more groups than the number needs
unfoldable pub shortest : ℕ → List ℕ
shortest n = groups 9 n

-- bytes behind their size
abbrev pub with_length : List ℕ → List ℕ
with_length content = shortest (length content) ++ content

-- a field of bytes, which is left out where there are none
abbrev pub content_field : ℕ → List ℕ → List ℕ
content_field n [] = []
content_field n (byte ∷ bytes) = (n * 8 + 2) ∷ with_length (byte ∷ bytes)

-- how many bytes a field of so many bytes takes
abbrev pub content_size : ℕ → ℕ
content_size zero = 0
content_size (suc n) = 1 + (length (shortest (suc n)) + suc n)

-- an annotation is field 4, with the key as its field 1 and the value as its field 2
abbrev pub pair_field : List ℕ × List ℕ → List ℕ
pair_field pair = (4 * 8 + 2) ∷ with_length (content_field 1 pair.0 ++ content_field 2 pair.1)

-- the source type is field 5, and is left out where it is 0
abbrev pub kind_field : SourceKind → List ℕ
kind_field Key = []
kind_field Seed = (5 * 8) ∷ 1 ∷ []

-- fields 2 to 5 in their order, annotations in the order of their keys
abbrev pub fields_behind : (key_id source : List ℕ) → Pairs → SourceKind → List ℕ
fields_behind key_id source annotations kind = content_field 2 key_id
    ++ (content_field 3 source ++ (flat_map pair_field annotations ++ kind_field kind))

-- field 1 and those behind it
abbrev pub canonical : EncryptedObject → List ℕ
canonical object = content_field 1 object.encrypted
    ++ fields_behind object.key_id object.source object.annotations object.kind

-- data that aren't empty, and no limit passed
abbrev pub IsWritable : EncryptedObject → Type 0
IsWritable object = breach_of (raw_in object) ≡ None

-- the bytes are read as the object, and whatever the reader answers is that, unless it is want of
-- memory
abbrev pub IsReadBack : List ℕ → EncryptedObject → Type 0
IsReadBack bytes object =
    ReadsMessage bytes (Ok object)
    × ((answer : Result EncryptedObject ObjectNo)
    → ReadsMessage bytes answer → (answer ≡ Ok object) ⊎ (answer ≡ Err NoMemory))

-- what the types of an object's parts keep, and its values alone don't show
pub record IsKept (object : EncryptedObject) : Type 0 where
  pub fits : length object.encrypted < 2 ^ 64
  pub key_id : IsUtf8 object.key_id
  pub keys : All (λ pair. IsUtf8 pair.0) object.annotations
  pub sorted : IsSortedByKey object.annotations

-- an object that may be written is read back from its canonical bytes
abbrev pub ReadsBack : Type 0
ReadsBack =
    (object : EncryptedObject)
    → IsWritable object → IsKept object → IsReadBack (canonical object) object

-- what an object has without its data
abbrev pub frame_of : EncryptedObject → EncryptedObject
frame_of object = record object { encrypted = [] }

-- how long the canonical bytes are, by how many the data are: there are few beside these
pub record AreSized : Type 0 where
  pub size : (object : EncryptedObject)
      → length (canonical object)
      ≡ content_size (length object.encrypted) + length (canonical (frame_of object))
  pub few : (object : EncryptedObject) → IsWritable object → length object.encrypted < 2 ^ 64
      → length (canonical object) ≤ length object.encrypted + 43299
