-- The answer is the line of its body.
use Rattle.std.proofs.Common.{ap, ◌∙◌}
use Rattle.kr_kms_wire.specs.Replies.{answer_text}
use Rattle.kr_keywrap.specs.Answer.{answer}
use Rattle.kr_keywrap.proofs.answer.answer.Goals as goal

pub returns-in-Ok-reply_line : goal.returns-in-Ok-reply_line
unfolding answer
returns-in-Ok-reply_line c = c.in-Ok-reply_line.ensures.text ∙ ap answer_text c.in-Ok.ensures
