-- What is wrapped under the key, or that it has no length for that.
use Rattle.std.proofs.Common.{◌≡◌, false, true, refl, ap, ◌∙◌}
use Rattle.kr_kms_wire.specs.declared.replies.Answered.TheVariants.{Reply}
use Rattle.kr_kms_wire.specs.declared.replies.Reply.TheVariants as reply
use Rattle.kr_keywrap.specs.Answer.{Plugin}
use Rattle.kr_keywrap.proofs.Answering.{same_answer, wraps_none, wraps_some}
use Rattle.kr_keywrap.proofs.answer.answer_wrap.Goals as goal

pub returns-then-not-is_wrappable : goal.returns-then-not-is_wrappable
returns-then-not-is_wrappable c =
    let plugin : Plugin = record { words = c.args.words.now; rounds = c.args.rounds; key_id = c.args.key_id.now } in
    same_answer c.refuse.result _ _ (wraps_none plugin c.args.plain.now (λ w. let e : false ≡ true = c.if-not-is_wrappable.ensures.1 w in cc)) c.refuse.ensures

pub returns-in-Ok : goal.returns-in-Ok
returns-in-Ok c =
    let plugin : Plugin = record { words = c.args.words.now; rounds = c.args.rounds; key_id = c.args.key_id.now } in
    ap (λ w. Reply (reply.Encrypt w)) c.in-Ok.ensures ∙ wraps_some plugin c.args.plain.now (c.if-not-is_wrappable.ensures.0 refl)
