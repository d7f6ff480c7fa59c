-- `write_said`: a report isn't empty.
use Rattle.std.proofs.Common.{◌≡◌, Option, None, Some, Result, Ok, Err, refl, sym, subst, inl, inr}
use Rattle.kr_cmd_steps.specs.Ran.{WroteNothing, Reports}
use Rattle.kr_cmd_messages.specs.Receipts.{Receipt}
use Rattle.kr_cmd_messages.specs.Reports.{report_text}
use Rattle.kr_cmd_messages.specs.inner.Sayings.{Says}
use Rattle.kr_cmd_steps.specs.inner.Reporting.{said_text}
use Rattle.kr_cmd_messages.specs.declared.report.RewriteCounts.{RewriteCounts}
use Rattle.kr_cmd_steps.proofs.phases.write_said.Goals as goal

none_said : (said : Option RewriteCounts) (sink : Receipt) → said ≡ None → WroteNothing sink
    → Reports (said_text said) sink
none_said said sink is idle = subst (λ o. Reports (said_text o) sink) (sym is) idle

reported : {T E : Type 0} (counts : RewriteCounts) (sink : Receipt) (result : Result T E)
    → Says sink (report_text counts) result → Reports (report_text counts) sink
reported counts sink (Ok x) s = inl s.ok
reported counts sink (Err e) s = inr (s.err, s.cause.failed)

some_said : {T E : Type 0} (said : Option RewriteCounts) (counts : RewriteCounts) (sink : Receipt)
    (result : Result T E) → said ≡ Some counts → Says sink (report_text counts) result
    → Reports (said_text said) sink
some_said said counts sink result is s =
    subst (λ o. Reports (said_text o) sink) (sym is) (reported counts sink result s)

pub returns-in_default-clause-said : goal.returns-in_default-clause-said
returns-in_default-clause-said g c = none_said c.args.said _ c.in_default.is (refl, refl)

pub returns-clause-said : goal.returns-clause-said
returns-clause-said g c = some_said c.args.said c.in-Some.counts _ c.write_report-told.result
    c.in-Some.is c.write_report-told.ensures

pub returns-clause-later : goal.returns-clause-later
returns-clause-later g c = c.write_report-told.ensures.cause.later
