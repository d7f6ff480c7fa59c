-- `row_value`: by cases.
use Rattle.std.proofs.Common.{Err, sym, ap, ◌∙◌}
use Rattle.kr_fleet.specs.inner.Stages.{row_value}
use Rattle.kr_fleet.proofs.reading.row_value.Goals as goal

pub returns-in-Ok : goal.returns-in-Ok
returns-in-Ok c = sym (ap (row_value c.args.revision) c.in-Ok.is)

pub returns-in-Err-Refused : goal.returns-in-Err-Refused
returns-in-Err-Refused c = sym (ap (row_value c.args.revision) c.in-Err-Refused.is
    ∙ ap (λ no. row_value c.args.revision (Err no)) c.in-Err-Refused.field-0-is)

pub returns-in-Err-PluginFailed : goal.returns-in-Err-PluginFailed
returns-in-Err-PluginFailed c = sym (ap (row_value c.args.revision) c.in-Err-PluginFailed.is
    ∙ ap (λ no. row_value c.args.revision (Err no)) c.in-Err-PluginFailed.field-0-is)

pub returns-in-Err-NoMemory : goal.returns-in-Err-NoMemory
returns-in-Err-NoMemory c = sym (ap (row_value c.args.revision) c.in-Err-NoMemory.is
    ∙ ap (λ no. row_value c.args.revision (Err no)) c.in-Err-NoMemory.field-0-is)
