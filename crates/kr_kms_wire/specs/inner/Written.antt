-- What the types of requests and answers keep: bytes are below 256, pairs are sorted, and numbers
-- are below 2^64.
use Rattle.std.specs.Prelude.{◌<◌, ◌^◌, All, ⊤}
use Rattle.kr_base.specs.Pairs.{Pairs, IsSortedByKey}
use Rattle.kr_kms_wire.specs.declared.replies.Answered.{Answered}
use Rattle.kr_kms_wire.specs.declared.replies.Answered.TheVariants as answered
use Rattle.kr_kms_wire.specs.declared.replies.Reply.TheVariants as reply
use Rattle.kr_kms_wire.specs.declared.requests.Request.{Request}
use Rattle.kr_kms_wire.specs.declared.requests.Request.TheVariants.{Status, Encrypt, Decrypt}

abbrev pub ArePairs : Pairs → Type 0
ArePairs pairs = IsSortedByKey pairs × All (λ pair. All (λ byte. byte < 256) pair.1) pairs

abbrev pub IsRequestOfBytes : Request → Type 0
IsRequestOfBytes Status = ⊤
IsRequestOfBytes (Encrypt plain uid) = All (λ byte. byte < 256) plain × (uid < 2 ^ 64)
IsRequestOfBytes (Decrypt source key_id annotations uid) =
    All (λ byte. byte < 256) source × ArePairs annotations × (uid < 2 ^ 64)

abbrev pub IsAnswerOfBytes : Answered → Type 0
IsAnswerOfBytes (answered.Reply (reply.Status status)) = ⊤
IsAnswerOfBytes (answered.Reply (reply.Encrypt wrapped)) =
    All (λ byte. byte < 256) wrapped.cipher × ArePairs wrapped.annotations
IsAnswerOfBytes (answered.Reply (reply.Decrypt plain)) = All (λ byte. byte < 256) plain
IsAnswerOfBytes (answered.Error text) = ⊤
