-- The body of an answer by its request.
use Rattle.std.proofs.Common.{Err, sym, ap}
use Rattle.kr_keywrap.specs.Answer.{unwrap_answer}
use Rattle.kr_keywrap.proofs.Answering.{same_answer}
use Rattle.kr_keywrap.proofs.answer.answer_body.Goals as goal

pub returns-in-Err : goal.returns-in-Err
returns-in-Err c = same_answer c.refuse_body.result (unwrap_answer (Err c.in-Err.why)) _ (ap unwrap_answer (sym c.in-Err.ensures.unwrapped)) c.refuse_body.ensures
