-- The request that a line spells.
use Rattle.std.proofs.Common.{sym, ap}
use Rattle.std.specs.Result.{result_ok}
use Rattle.kr_keywrap.proofs.answer.line_request.Goals as goal

pub returns-in-Ok : goal.returns-in-Ok
returns-in-Ok c = sym (ap result_ok c.in-Ok.ensures)

pub returns-in-Err-NotJson : goal.returns-in-Err-NotJson
returns-in-Err-NotJson c = sym (ap result_ok (rw c.in-Err-NotJson.field-0-is at c.in-Err-NotJson.ensures))

pub returns-in-Err-Shape : goal.returns-in-Err-Shape
returns-in-Err-Shape c = sym (ap result_ok (rw c.in-Err-Shape.field-0-is at c.in-Err-Shape.ensures))
