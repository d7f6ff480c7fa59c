-- A link over a plugin's lines: each of its exchanges is one question that was written and one line
-- that was read.
use Rattle.std.specs.Prelude.{◌≡◌, ℕ, ⊤, List, Option, None, Ok, Err}
use Rattle.kr_base.specs.Numbering.{next_number}
use Rattle.kr_kms.specs.Exchanges.{Exchange, StatusCall, WrapCall, UnwrapCall, KeepsLink, TellsAnswer}
use Rattle.kr_kms.specs.Limits.{IsWithinLimits}
use Rattle.kr_kms_wire.specs.declared.replies.Asked.TheVariants as call
use Rattle.kr_kms_wire.specs.declared.replies.Reply.TheVariants as reply
use Rattle.kr_kms_wire.specs.declared.requests.Request.TheVariants as request
use Rattle.kr_edge.specs.Lines.{ExchangeEnds, ends_of}
use Rattle.kr_edge.specs.Plugins.{AnswersRequest, line_link}
use Rattle.kr_edge.specs.declared.child_link.LineLink.{LineLink}

-- the call's request was exchanged for its answer, as far as it came to that
abbrev pub AnswersWireCall : ExchangeEnds → ExchangeEnds → (uid : ℕ) → Exchange → Type 0
AnswersWireCall old new uid (StatusCall name answer) =
    AnswersRequest reply.Status (λ _. ⊤) old new call.Status request.Status answer
AnswersWireCall old new uid (WrapCall name plain answer) =
    AnswersRequest reply.Encrypt IsWithinLimits old new call.Encrypt
    (request.Encrypt plain (next_number uid)) answer
AnswersWireCall old new uid (UnwrapCall key answer) =
    AnswersRequest reply.Decrypt (λ _. ⊤) old new call.Decrypt
    (request.Decrypt key.source key.key_id key.annotations (next_number uid)) answer

-- requests to wrap and to unwrap are numbered
abbrev pub uid_after : ℕ → Exchange → ℕ
uid_after uid (StatusCall name answer) = uid
uid_after uid (WrapCall name plain answer) = next_number uid
uid_after uid (UnwrapCall key answer) = next_number uid

module _ {C W R : Type 0} (contents : W → Option (List ℕ)) (remaining : R → Option (List ℕ)) where
  abbrev pub ends_in : LineLink C W R → ExchangeEnds
  ends_in link = ends_of contents remaining link.lines.exchange

  -- what one call does
  pub record LineStep (old : LineLink C W R) (exchange : Exchange) (new : LineLink C W R)
      : Type 0 where
    pub keeps : KeepsLink (line_link old.name old.lines.faults) exchange
        (line_link new.name new.lines.faults)
    pub answers : AnswersWireCall (ends_in old) (ends_in new) old.lines.uid exchange
    pub numbered : new.lines.uid ≡ uid_after old.lines.uid exchange

  pub line_keeps : (old : LineLink C W R) (exchange : Exchange) (new : LineLink C W R)
      → LineStep old exchange new → KeepsLink (line_link old.name old.lines.faults) exchange
      (line_link new.name new.lines.faults)
  line_keeps old exchange new h = h.keeps

  -- it tells no status
  pub line_tells : (old : LineLink C W R) (exchange : Exchange) (new : LineLink C W R)
      → LineStep old exchange new → TellsAnswer None exchange
  line_tells old (StatusCall name (Ok status)) new h = tt
  line_tells old (StatusCall name (Err why)) new h = tt
  line_tells old (WrapCall name plain (Ok wrapped)) new h = h.answers.1
  line_tells old (WrapCall name plain (Err why)) new h = tt
  line_tells old (UnwrapCall key answer) new h = tt
