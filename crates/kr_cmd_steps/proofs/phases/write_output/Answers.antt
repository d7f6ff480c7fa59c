-- `write_output`: a value is written, whatever would have been said; or what was said.
use Rattle.std.proofs.Common.{◌≡◌, ℕ, List, Result, Err, refl, sym, subst}
use Rattle.kr_cmd_steps.specs.Ran.{Reports, Writes}
use Rattle.kr_cmd_messages.specs.Receipts.{Receipt, receipt}
use Rattle.kr_cmd_messages.specs.declared.refusal.Outcome.{Outcome}
use Rattle.kr_cmd_messages.specs.declared.refusal.Stop.{Stop}
use Rattle.kr_cmd_steps.specs.inner.Reporting.{said_text}
use Rattle.kr_cmd_steps.proofs.phases.write_output.Goals as goal

pub returns-in-Ok-clause-written : goal.returns-in-Ok-clause-written
returns-in-Ok-clause-written g c = subst (λ m. Writes (said_text c.args.ended.said)
    (receipt (g.O.Sink.held c.args.output.now) (g.O.Sink.held c.write_value.new.output)
    (g.O.Sink.count c.args.output.now) (g.O.Sink.count c.write_value.new.output)) m
    c.write_value.result) (sym c.in-Ok.is)
    (c.write_value.ensures.written (said_text c.args.ended.said))

-- the stop stands, whatever became of the report
stands : (said : List ℕ) (output : Receipt) (made : Result Outcome Stop) (stop : Stop)
    → made ≡ Err stop → Reports said output → Writes said output made (Err stop)
stands said output made stop is r = subst (λ m. Writes said output m (Err stop)) (sym is) (refl, r)

pub returns-in-Err-clause-written : goal.returns-in-Err-clause-written
returns-in-Err-clause-written g c = stands (said_text c.args.ended.said) _ c.args.ended.made
    c.in-Err.stop c.in-Err.is c.write_said.ensures.said
