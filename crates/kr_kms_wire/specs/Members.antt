-- Members of requests and replies: a line of JSON each, texts as they are, bytes in standard base64
-- with padding (RFC 4648), which is read strictly, and numbers as texts in decimal digits.
use Rattle.std.specs.Prelude.{ℕ, ◌-◌, ◌^◌, ◌==◌, ◌&&◌, List, [], ◌∷◌, length, take, nat_lt, slice_index_or, decimal, if◌then◌else◌, option_and_then, Option, Some, None}
use Rattle.std.specs.Result.{result_ok}
use Rattle.std.specs.Str.{bytes_eq, is_utf8}
use Rattle.std.specs.Str.Parse.{digits_value}
use Rattle.base64.specs.Engines.{standard}
use Rattle.base64.specs.GeneralPurpose.{encode_of, decode_of}
use Rattle.serde_json.specs.Data.{Data, string, Members, no_members, member}
use Rattle.serde_json.specs.Find.{get, as_str, as_object}
use Rattle.serde_json.specs.Read.{read}
use Rattle.kr_base.specs.Pairs.{Pairs, with_pair}

-- ---- written

abbrev pub text_of_bytes : List ℕ → Data
text_of_bytes bytes = string (encode_of standard bytes)

-- a member for each pair
abbrev pub pair_members : Pairs → Members
pair_members [] = no_members
pair_members (pair ∷ pairs) = member pair.0 (text_of_bytes pair.1) (pair_members pairs)

-- ---- read

-- the line without its LF; it may end without one
abbrev pub without_end : List ℕ → List ℕ
without_end line =
    if slice_index_or line (length line - 1) 0 == 0x0A then take (length line - 1) line else line

-- the value of a line, which is UTF-8
abbrev pub parsed_line_value : List ℕ → Option Data
parsed_line_value line = if is_utf8 (without_end line) then read (without_end line) else None

-- the text of a member
abbrev pub member_text : List ℕ → Data → Option (List ℕ)
member_text key value = option_and_then as_str (get key value)

-- the bytes that a text has, and those of a member
abbrev pub decoded_bytes : Data → Option (List ℕ)
decoded_bytes value = option_and_then (λ text. result_ok (decode_of standard text)) (as_str value)

abbrev pub member_bytes : List ℕ → Data → Option (List ℕ)
member_bytes key value = option_and_then decoded_bytes (get key value)

-- the found pairs, with one for each member; there are none where a value is no text of bytes
abbrev pub pairs_with : Pairs → Members → Option Pairs
pairs_with found no_members = Some found
pairs_with found (member key value members) =
    option_and_then (λ bytes. pairs_with (with_pair found key bytes) members) (decoded_bytes value)

-- an object of texts of bytes
abbrev pub annotation_pairs : Data → Option Pairs
annotation_pairs value = option_and_then (pairs_with []) (as_object value)

-- the number below 2^64 that the text is written for
abbrev pub text_number : List ℕ → Option ℕ
text_number text =
    if bytes_eq (decimal (digits_value 10 text)) text && nat_lt (digits_value 10 text) (2 ^ 64)
    then Some (digits_value 10 text) else None

abbrev pub member_number : List ℕ → Data → Option ℕ
member_number key value = option_and_then text_number (member_text key value)
