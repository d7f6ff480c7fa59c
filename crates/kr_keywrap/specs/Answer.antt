-- What a plugin answers to a line.
use Rattle.std.specs.Prelude.{ℕ, List, [], codes, length, if◌then◌else◌, Option, Some, None, Result, Ok, Err}
use Rattle.std.specs.Result.{result_ok}
use Rattle.std.specs.Str.{bytes_eq}
use Rattle.kr_aes.specs.declared.Rounds.{Rounds}
use Rattle.kr_aes.specs.Cipher.{cipher}
use Rattle.kr_aes.specs.InverseCipher.{inverse_cipher}
use Rattle.kr_aes.specs.KeyExpansion.{padded_schedule}
use Rattle.kr_kms_wire.specs.Replies.{answer_text}
use Rattle.kr_kms_wire.specs.Requests.{request_of}
use Rattle.kr_kms.specs.declared.plugin.Wrapped.{Wrapped}
use Rattle.kr_kms_wire.specs.declared.replies.Answered.{Answered}
use Rattle.kr_kms_wire.specs.declared.replies.Answered.TheVariants.{Reply, Error}
use Rattle.kr_kms_wire.specs.declared.replies.Reply.TheVariants as reply
use Rattle.kr_kms_wire.specs.declared.requests.Request.{Request}
use Rattle.kr_kms_wire.specs.declared.requests.Request.TheVariants.{Status, Encrypt, Decrypt}
use Rattle.kr_keywrap.specs.KeyLink.{status_of}
use Rattle.kr_keywrap.specs.Keys.{rounds_of}
use Rattle.kr_keywrap.specs.KeyWrap.{is_wrappable, key_unwrap, key_wrap}
use Rattle.kr_keywrap.specs.declared.key_wrap.WrapNo.{WrapNo}
use Rattle.kr_keywrap.specs.declared.key_wrap.WrapNo.TheVariants.{Length, Check}

-- a plugin: its expanded key, and the id of it
pub record Plugin : Type 0 where
  pub words : List ℕ
  pub rounds : Rounds
  pub key_id : List ℕ

-- the plugin with this key
abbrev pub plugin_under : List ℕ → List ℕ → Plugin
plugin_under kek key_id = record {
  words = padded_schedule kek;
  rounds = rounds_of kek;
  key_id = key_id;
}

-- what plain bytes are wrapped into under its key: there are no annotations
abbrev pub wrapped_bytes : Plugin → List ℕ → Wrapped
wrapped_bytes plugin plain = record {
  cipher = key_wrap (cipher plugin.words plugin.rounds) plain;
  key_id = plugin.key_id;
  annotations = [];
}

abbrev pub wrap_answer : Plugin → List ℕ → Answered
wrap_answer plugin plain =
    if is_wrappable (length plain) then Reply (reply.Encrypt (wrapped_bytes plugin plain))
    else Error (codes "length")

-- what was unwrapped, or why nothing was
abbrev pub unwrap_answer : Result (List ℕ) WrapNo → Answered
unwrap_answer (Ok plain) = Reply (reply.Decrypt plain)
unwrap_answer (Err Length) = Error (codes "length")
unwrap_answer (Err Check) = Error (codes "check")

-- its answer to a request: another key id comes before what is wrong with the source, and the
-- annotations don't count
abbrev pub request_answer : Plugin → Request → Answered
request_answer plugin Status = Reply (reply.Status (status_of plugin.key_id))
request_answer plugin (Encrypt plain uid) = wrap_answer plugin plain
request_answer plugin (Decrypt source key_id annotations uid) =
    if bytes_eq key_id plugin.key_id
    then unwrap_answer (key_unwrap (inverse_cipher plugin.words plugin.rounds) source)
    else Error (codes "key id")

-- a line that is no request is refused
abbrev pub line_answer : Plugin → Option Request → Answered
line_answer plugin (Some request) = request_answer plugin request
line_answer plugin None = Error (codes "request")

-- the line that answers a line
unfoldable pub answer : Plugin → List ℕ → List ℕ
answer plugin line = answer_text (line_answer plugin (result_ok (request_of line)))
