-- Requests to a plugin: a line of compact JSON each, its members by the bytes of their names.
use Rattle.std.specs.Prelude.{◌≡◌, ℕ, List, [], ◌∷◌, ◌++◌, codes, decimal, if◌then◌else◌, option_and_then, Option, Some, None, Result, Ok, Err, ⊤}
use Rattle.std.specs.Option.{option_map, option_map_or}
use Rattle.std.specs.Str.{bytes_eq}
use Rattle.serde_json.specs.Data.{Data, string, object, Members, no_members, member}
use Rattle.serde_json.specs.Find.{get}
use Rattle.serde_json.specs.Written.{compact_text}
use Rattle.kr_kms_wire.specs.Members.{text_of_bytes, pair_members, parsed_line_value, member_text, member_bytes, annotation_pairs, member_number}
use Rattle.kr_kms_wire.specs.declared.requests.Request.{Request}
use Rattle.kr_kms_wire.specs.declared.requests.Request.TheVariants.{Status, Encrypt, Decrypt}
use Rattle.kr_kms_wire.specs.declared.requests.RequestNo.{RequestNo}
use Rattle.kr_kms_wire.specs.declared.requests.RequestNo.TheVariants.{NotJson, Shape, NoMemory}

-- ---- written

-- a key id for what is unwrapped stands beside its source and its annotations; a uid numbers the
-- requests that wrap and unwrap
abbrev pub request_members : Request → Members
request_members Status = member (codes "call") (string (codes "status")) no_members
request_members (Encrypt plain uid) = member (codes "call") (string (codes "encrypt"))
    (member (codes "plaintext") (text_of_bytes plain)
    (member (codes "uid") (string (decimal uid)) no_members))
request_members (Decrypt source key_id annotations uid) =
    member (codes "annotations") (object (pair_members annotations))
    (member (codes "call") (string (codes "decrypt"))
    (member (codes "ciphertext") (text_of_bytes source)
    (member (codes "key_id") (string key_id)
    (member (codes "uid") (string (decimal uid)) no_members))))

abbrev pub request_data : Request → Data
request_data request = object (request_members request)

-- the line ends with LF
abbrev pub request_text : Request → List ℕ
request_text request = compact_text (request_data request) ++ 0x0A ∷ []

-- ---- read: members that no rule names are ignored, and those of a request are all there

unfoldable pub encrypt_in : Data → Option Request
encrypt_in value = option_and_then (λ plain. option_map (λ uid. Encrypt plain uid)
    (member_number (codes "uid") value)) (member_bytes (codes "plaintext") value)

unfoldable pub decrypt_in : Data → Option Request
decrypt_in value = option_and_then (λ source. option_and_then (λ key_id. option_and_then
    (λ annotations. option_map (λ uid. Decrypt source key_id annotations uid)
    (member_number (codes "uid") value))
    (option_and_then annotation_pairs (get (codes "annotations") value)))
    (member_text (codes "key_id") value)) (member_bytes (codes "ciphertext") value)

-- the request of this call, where the value has the shape of one
abbrev pub request_by : List ℕ → Data → Option Request
request_by call value =
    if bytes_eq call (codes "status") then Some Status
    else if bytes_eq call (codes "encrypt") then encrypt_in value
    else if bytes_eq call (codes "decrypt") then decrypt_in value
    else None

abbrev pub request_in : Data → Option Request
request_in value = option_and_then (λ call. request_by call value)
    (member_text (codes "call") value)

abbrev pub request_of : List ℕ → Result Request RequestNo
request_of line = option_map_or (λ value. option_map_or Ok (request_in value) (Err Shape))
    (parsed_line_value line) (Err NotJson)

-- want of memory may take the place of any other answer
abbrev pub IsRequest : List ℕ → Result Request RequestNo → Type 0
IsRequest line (Ok request) = request_of line ≡ Ok request
IsRequest line (Err NotJson) = request_of line ≡ Err NotJson
IsRequest line (Err Shape) = request_of line ≡ Err Shape
IsRequest line (Err NoMemory) = ⊤
