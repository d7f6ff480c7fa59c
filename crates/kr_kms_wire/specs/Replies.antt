-- Replies of a plugin: a line of JSON each. Members that no rule names are ignored.
use Rattle.std.specs.Prelude.{◌≡◌, ℕ, List, [], ◌∷◌, ◌++◌, codes, option_and_then, Option, Some, Result, Ok, Err, ⊤}
use Rattle.std.specs.Option.{option_map, option_map_or}
use Rattle.serde_json.specs.Data.{Data, string, object, Members, no_members, member}
use Rattle.serde_json.specs.Find.{get}
use Rattle.serde_json.specs.Written.{compact_text}
use Rattle.kr_base.specs.Pairs.{Pairs}
use Rattle.kr_kms_wire.specs.Members.{text_of_bytes, pair_members, parsed_line_value, member_text, member_bytes, annotation_pairs}
use Rattle.kr_kms.specs.declared.plugin.Status.{Status}
use Rattle.kr_kms.specs.declared.plugin.Wrapped.{Wrapped}
use Rattle.kr_kms_wire.specs.declared.replies.Answered.{Answered}
use Rattle.kr_kms_wire.specs.declared.replies.Answered.TheVariants as answered
use Rattle.kr_kms_wire.specs.declared.replies.Asked.{Asked}
use Rattle.kr_kms_wire.specs.declared.replies.Asked.TheVariants as call
use Rattle.kr_kms_wire.specs.declared.replies.Reply.{Reply}
use Rattle.kr_kms_wire.specs.declared.replies.Reply.TheVariants as reply
use Rattle.kr_kms_wire.specs.declared.replies.ReplyNo.{ReplyNo}
use Rattle.kr_kms_wire.specs.declared.replies.ReplyNo.TheVariants.{NotJson, Shape, Error, NoMemory}

-- ---- read

-- annotations may be missing
abbrev pub annotations_in : Data → Option Pairs
annotations_in value = option_map_or annotation_pairs (get (codes "annotations") value) (Some [])

unfoldable pub status_in : Data → Option Status
status_in value = option_and_then (λ version. option_and_then (λ healthz. option_map
    (λ key_id. record { version = version; healthz = healthz; key_id = key_id })
    (member_text (codes "key_id") value)) (member_text (codes "healthz") value))
    (member_text (codes "version") value)

unfoldable pub wrapped_in : Data → Option Wrapped
wrapped_in value = option_and_then (λ key_id. option_and_then (λ annotations. option_map
    (λ cipher. record { cipher = cipher; key_id = key_id; annotations = annotations })
    (member_bytes (codes "ciphertext") value)) (annotations_in value))
    (member_text (codes "key_id") value)

-- the reply to a call of this kind, where the value has the shape of one
abbrev pub shaped_reply : Asked → Data → Option Reply
shaped_reply call.Status value = option_map reply.Status (status_in value)
shaped_reply call.Encrypt value = option_map reply.Encrypt (wrapped_in value)
shaped_reply call.Decrypt value = option_map reply.Decrypt (member_bytes (codes "plaintext") value)

-- a text at `error` is a refusal, whatever stands beside it
abbrev pub reply_in : Asked → Data → Result Reply ReplyNo
reply_in asked value = option_map_or (λ text. Err (Error text)) (member_text (codes "error") value)
    (option_map_or Ok (shaped_reply asked value) (Err Shape))

abbrev pub reply_of : Asked → List ℕ → Result Reply ReplyNo
reply_of asked line = option_map_or (reply_in asked) (parsed_line_value line) (Err NotJson)

-- want of memory may take the place of any other answer
abbrev pub IsReply : Asked → List ℕ → Result Reply ReplyNo → Type 0
IsReply asked line (Ok reply) = reply_of asked line ≡ Ok reply
IsReply asked line (Err NotJson) = reply_of asked line ≡ Err NotJson
IsReply asked line (Err Shape) = reply_of asked line ≡ Err Shape
IsReply asked line (Err (Error text)) = reply_of asked line ≡ Err (Error text)
IsReply asked line (Err NoMemory) = ⊤

-- the kind of call that a reply answers
abbrev pub reply_kind : Reply → Asked
reply_kind (reply.Status status) = call.Status
reply_kind (reply.Encrypt wrapped) = call.Encrypt
reply_kind (reply.Decrypt plain) = call.Decrypt

-- ---- written: compact, its members by the bytes of their names; a wrap's annotations are always
-- there

abbrev pub reply_members : Reply → Members
reply_members (reply.Status status) = member (codes "healthz") (string status.healthz)
    (member (codes "key_id") (string status.key_id)
    (member (codes "version") (string status.version) no_members))
reply_members (reply.Encrypt wrapped) =
    member (codes "annotations") (object (pair_members wrapped.annotations))
    (member (codes "ciphertext") (text_of_bytes wrapped.cipher)
    (member (codes "key_id") (string wrapped.key_id) no_members))
reply_members (reply.Decrypt plain) = member (codes "plaintext") (text_of_bytes plain) no_members

abbrev pub answer_members : Answered → Members
answer_members (answered.Reply reply) = reply_members reply
answer_members (answered.Error text) = member (codes "error") (string text) no_members

abbrev pub answer_data : Answered → Data
answer_data answered = object (answer_members answered)

-- the line ends with LF
abbrev pub answer_text : Answered → List ℕ
answer_text answered = compact_text (answer_data answered) ++ 0x0A ∷ []

-- the line is read as what was answered, whatever an error was asked for
abbrev pub IsReplyReadBack : List ℕ → Answered → Type 0
IsReplyReadBack line (answered.Reply reply) = reply_of (reply_kind reply) line ≡ Ok reply
IsReplyReadBack line (answered.Error text) =
    (asked : Asked) → reply_of asked line ≡ Err (Error text)
