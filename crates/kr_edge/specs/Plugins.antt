-- Calls on a plugin that reads a line for each, and answers with one.
use Rattle.std.specs.Prelude.{◌≡◌, List, ℕ, ⊤, ◌⊎◌, None, Result, Ok, Err}
use Rattle.kr_base.specs.Numbering.{next_number}
use Rattle.kr_kms.specs.Calls.{Link}
use Rattle.kr_kms.specs.declared.plugin.KmsNo.{KmsNo}
use Rattle.kr_kms.specs.declared.plugin.KmsNo.TheVariants.{Failed, NoMemory}
use Rattle.kr_kms_wire.specs.declared.replies.Asked.{Asked}
use Rattle.kr_kms_wire.specs.declared.replies.Reply.{Reply}
use Rattle.kr_kms_wire.specs.declared.requests.Request.{Request}
use Rattle.kr_kms_wire.specs.Replies.{reply_of}
use Rattle.kr_kms_wire.specs.Requests.{request_text}
use Rattle.kr_kms_wire.specs.declared.replies.ReplyNo.TheVariants.{Error}
use Rattle.kr_edge.specs.Lines.{ExchangeEnds, Exchanged, IsCutOff, broken_off}

-- the request's line was exchanged for a line of which this holds
abbrev pub ExchangesLine : ExchangeEnds → ExchangeEnds → Request → (List ℕ → Type 0) → Type 0
ExchangesLine old new request P = (line : List ℕ) × Exchanged old new (request_text request) line
    × P line

-- the same, and the exchange was broken off behind it
abbrev pub BreaksOff : ExchangeEnds → ExchangeEnds → Request → (List ℕ → Type 0) → Type 0
BreaksOff old new request P = (mid : ExchangeEnds) × ExchangesLine old mid request P
    × (new ≡ broken_off mid)

-- the line answers the request by a text at `error`, or by a reply of this kind that can't be used
abbrev pub IsRefusal : {T : Type 0} → (T → Reply) → (T → Type 0) → Asked → List ℕ → Type 0
IsRefusal {T} reply usable asked line =
    ((text : List ℕ) × (reply_of asked line ≡ Err (Error text)))
    ⊎ ((answer : T) × (reply_of asked line ≡ Ok (reply answer)) × (usable answer → ⊥))

-- the line is neither: no JSON, or not the shape of a reply of this kind
abbrev pub IsNoReply : {T : Type 0} → (T → Reply) → Asked → List ℕ → Type 0
IsNoReply {T} reply asked line = ((answer : T) → reply_of asked line ≡ Ok (reply answer) → ⊥)
    × ((text : List ℕ) → reply_of asked line ≡ Err (Error text) → ⊥)

-- the answer is what the plugin replied to the request. A call fails where the exchange is cut off,
-- where the plugin refuses or what it replies can't be used, which leaves the exchange whole, and
-- where the line is no reply, so that the reply may still come: then it is broken off. So it is
-- where memory lacked to read the line
abbrev pub AnswersRequest : {T : Type 0} → (T → Reply) → (T → Type 0) → ExchangeEnds → ExchangeEnds
    → Asked → Request
    → Result T KmsNo → Type 0
AnswersRequest reply usable old new asked request (Ok answer) =
    ExchangesLine old new request (λ line. reply_of asked line ≡ Ok (reply answer)) × usable answer
AnswersRequest reply usable old new asked request (Err Failed) =
    IsCutOff old new (request_text request)
    ⊎ ExchangesLine old new request (λ line. IsRefusal reply usable asked line)
    ⊎ BreaksOff old new request (λ line. IsNoReply reply asked line)
AnswersRequest reply usable old new asked request (Err NoMemory) =
    (new ≡ old) ⊎ BreaksOff old new request (λ line. ⊤)

-- ---- counts

-- what a call that gives no answer adds: a failure counts once
abbrev pub CountsFor : KmsNo → (old new : ℕ) → Type 0
CountsFor Failed old new = new ≡ next_number old
CountsFor NoMemory old new = new ≡ old

-- a call that fails counts once, any other not at all
abbrev pub CountsFailures : {T : Type 0} → Result T KmsNo → (old new : ℕ) → Type 0
CountsFailures (Ok answer) old new = new ≡ old
CountsFailures (Err why) old new = CountsFor why old new

-- a link over a plugin's lines: it tells no status
abbrev pub line_link : (name : List ℕ) → (count : ℕ) → Link
line_link name count = record { name = name; count = count; status = None }
