use Rattle.std.proofs.Common.{sym, subst}
use Rattle.kr_cmd_steps.specs.Phases.{input_of, show}
use Rattle.kr_cmd_steps.specs.Inspect.{Inspects}
use Rattle.kr_cmd_steps.specs.inner.Lent.{with_told_input}
use Rattle.kr_cmd_steps.specs.inner.Phases.{Does, Yields}
use Rattle.kr_cmd_messages.specs.declared.command.Direction.TheVariants.{Decrypt}
use Rattle.kr_cmd_steps.proofs.RunTo.{goes_on, stops, shows}
use Rattle.kr_cmd_values.proofs.inspect.inspect.Goals as goal

pub returns-in-Err : goal.returns-in-Err
returns-in-Err g c a = stops (input_of Decrypt) _ c.in-Err.stop (c.in-Err.ensures.does a)

pub returns : goal.returns
returns g c a =
    let now = with_told_input (g.I.Source.left c.take_input.new.input)
    (g.I.Source.count c.take_input.new.input) a in
    goes_on (input_of Decrypt) (λ bytes. show (Inspects bytes)) c.in-Ok.bytes (c.in-Ok.ensures.does a)
    (subst (λ r. Does (show (Inspects c.in-Ok.bytes)) now now r) (sym c.show.ensures)
    (shows _ now c.inspected.result
    (subst (λ b. Yields (Inspects b) c.inspected.result) c.as_slice.ensures c.inspected.ensures)))
