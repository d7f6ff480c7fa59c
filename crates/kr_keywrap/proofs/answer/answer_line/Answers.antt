-- The answer to a line that is a request, or that is none.
use Rattle.std.proofs.Common.{sym, ap, ◌∙◌}
use Rattle.kr_keywrap.specs.Answer.{Plugin, line_answer}
use Rattle.kr_keywrap.proofs.Answering.{same_answer}
use Rattle.kr_keywrap.proofs.answer.answer_line.Goals as goal

pub returns-in-Some : goal.returns-in-Some
returns-in-Some c =
    let plugin : Plugin = record { words = c.args.words.now; rounds = c.args.rounds; key_id = c.args.key_id.now } in
    same_answer c.answer_request.result _ _ (ap (line_answer plugin) (sym c.in-Some.is ∙ c.in-Ok.ensures)) c.answer_request.ensures

pub returns-in-None : goal.returns-in-None
returns-in-None c =
    let plugin : Plugin = record { words = c.args.words.now; rounds = c.args.rounds; key_id = c.args.key_id.now } in
    same_answer c.refuse.result _ _ (ap (line_answer plugin) (sym c.in-None.is ∙ c.in-Ok.ensures)) c.refuse.ensures
