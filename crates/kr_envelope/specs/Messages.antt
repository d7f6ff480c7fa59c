-- The message EncryptedObject of a KMS plugin's value, after KEP-3299: what its fields say, and the
-- object of the fields.
use Rattle.std.specs.Prelude.{◌≡◌, ℕ, ◌%◌, ◌^◌, ◌==◌, ◌&&◌, nat_le, Bool, false, if◌then◌else◌, List, [], ◌∷◌, ⊤, Option, None, Some}
use Rattle.std.specs.List.{filter_map, AllByRecursion}
use Rattle.std.specs.Str.{IsUtf8}
use Rattle.kr_base.specs.Pairs.{Pairs, with_pair}
use Rattle.kr_envelope.specs.Wire.{Spells, Payload, varint, fixed64, bytes, fixed32, WireField, IsField}

-- the last of a list, or else this
abbrev pub last_or : {T : Type 0} → T → List T → T
last_or x [] = x
last_or x (y ∷ ys) = last_or y ys

-- a field of bytes
abbrev pub of_bytes : ℕ → List ℕ → WireField
of_bytes n content = record { number = n; payload = bytes content }

-- the bytes of a field of this number
abbrev pub content_of : Payload → Option (List ℕ)
content_of (varint n) = None
content_of (fixed64 content) = None
content_of (bytes content) = Some content
content_of (fixed32 content) = None

abbrev pub bytes_at : ℕ → WireField → Option (List ℕ)
bytes_at n field = if field.number == n then content_of field.payload else None

abbrev pub last_bytes : ℕ → List WireField → List ℕ
last_bytes n fields = last_or [] (filter_map (bytes_at n) fields)

-- what a field says of the object; the fields that aren't its own say nothing
pub data WireItem : Type 0 where
  encrypted : List ℕ → WireItem
  key_id : List ℕ → WireItem
  source : List ℕ → WireItem
  annotation : List ℕ → List ℕ → WireItem
  kind : ℕ → WireItem
  other : WireItem

-- fields 1 to 4 are bytes, and field 5 is a number
abbrev pub is_own_payload : ℕ → Payload → Bool
is_own_payload n (varint m) = n == 5
is_own_payload n (fixed64 content) = false
is_own_payload n (bytes content) = nat_le 1 n && nat_le n 4
is_own_payload n (fixed32 content) = false

abbrev pub is_own : WireField → Bool
is_own field = is_own_payload field.number field.payload

-- an annotation is a message of its own, whose last key and last value count; the number of an enum
-- is taken modulo 2 ^ 32
abbrev pub MeansItem : WireField → WireItem → Type 0
MeansItem field (encrypted content) = field ≡ of_bytes 1 content
MeansItem field (key_id content) = field ≡ of_bytes 2 content
MeansItem field (source content) = field ≡ of_bytes 3 content
MeansItem field (annotation key value) =
    (text : List ℕ) × (field ≡ of_bytes 4 text)
    × ((fields : List WireField) × Spells IsField text fields
    × (key ≡ last_bytes 1 fields) × (value ≡ last_bytes 2 fields))
MeansItem field (kind n) =
    (m : ℕ) × (field ≡ record { number = 5; payload = varint m }) × (n ≡ m % 2 ^ 32)
MeansItem field other = is_own field ≡ false

-- the spelling of a field that says this
abbrev pub IsItem : List ℕ → WireItem → Type 0
IsItem spelling item = (field : WireField) × IsField spelling field × MeansItem field item

-- key ids and the keys of annotations are UTF-8
abbrev pub IsText : WireItem → Type 0
IsText (encrypted content) = ⊤
IsText (key_id content) = IsUtf8 content
IsText (source content) = ⊤
IsText (annotation key value) = IsUtf8 key
IsText (kind n) = ⊤
IsText other = ⊤

-- bytes that spell these items, as text where they are to be
abbrev pub IsMessage : List ℕ → List WireItem → Type 0
IsMessage text items = Spells IsItem text items × AllByRecursion IsText items

-- what each item has for a part of the object

abbrev pub encrypted_in : WireItem → Option (List ℕ)
encrypted_in (encrypted content) = Some content
encrypted_in (key_id content) = None
encrypted_in (source content) = None
encrypted_in (annotation key value) = None
encrypted_in (kind n) = None
encrypted_in other = None

abbrev pub key_id_in : WireItem → Option (List ℕ)
key_id_in (encrypted content) = None
key_id_in (key_id content) = Some content
key_id_in (source content) = None
key_id_in (annotation key value) = None
key_id_in (kind n) = None
key_id_in other = None

abbrev pub source_in : WireItem → Option (List ℕ)
source_in (encrypted content) = None
source_in (key_id content) = None
source_in (source content) = Some content
source_in (annotation key value) = None
source_in (kind n) = None
source_in other = None

abbrev pub annotation_in : WireItem → Option (List ℕ × List ℕ)
annotation_in (encrypted content) = None
annotation_in (key_id content) = None
annotation_in (source content) = None
annotation_in (annotation key value) = Some (key, value)
annotation_in (kind n) = None
annotation_in other = None

abbrev pub kind_in : WireItem → Option ℕ
kind_in (encrypted content) = None
kind_in (key_id content) = None
kind_in (source content) = None
kind_in (annotation key value) = None
kind_in (kind n) = Some n
kind_in other = None

-- each pair over those before it, so that the last of each key holds
abbrev pub put_all : Pairs → List (List ℕ × List ℕ) → Pairs
put_all pairs [] = pairs
put_all pairs (pair ∷ more) = put_all (with_pair pairs pair.0 pair.1) more

-- an object before its limits are judged
pub record Raw : Type 0 where
  pub encrypted : List ℕ
  pub key_id : List ℕ
  pub source : List ℕ
  pub annotations : Pairs
  pub kind : ℕ

-- the object of the items: the last of each, and the last annotation of each key; what is missing
-- is empty or 0
abbrev pub raw_of : List WireItem → Raw
raw_of items = record {
  encrypted = last_or [] (filter_map encrypted_in items);
  key_id = last_or [] (filter_map key_id_in items);
  source = last_or [] (filter_map source_in items);
  annotations = put_all [] (filter_map annotation_in items);
  kind = last_or 0 (filter_map kind_in items);
}
