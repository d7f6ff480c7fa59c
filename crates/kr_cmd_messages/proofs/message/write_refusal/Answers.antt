-- `write_refusal`: each line is that of its refusal.
use Rattle.std.proofs.Common.{sym, ap}
use Rattle.kr_cmd_messages.specs.Message.{refusal_line}
use Rattle.kr_cmd_messages.proofs.Pieces.{says_by}
use Rattle.kr_cmd_messages.proofs.message.write_refusal.Goals as goal

pub returns-in-Absent : goal.returns-in-Absent
returns-in-Absent g c = says_by (ap refusal_line (sym c.in-Absent.is)) c.write_named.ensures

pub returns-in-Value : goal.returns-in-Value
returns-in-Value g c = says_by (ap refusal_line (sym c.in-Value.is)) c.write_value.ensures

pub returns-in-Placed : goal.returns-in-Placed
returns-in-Placed g c = says_by (ap refusal_line (sym c.in-Placed.is)) c.write_placed.ensures

pub returns-in-Broken : goal.returns-in-Broken
returns-in-Broken g c = says_by (ap refusal_line (sym c.in-Broken.is)) c.write_broken.ensures

pub returns-in-Unfit : goal.returns-in-Unfit
returns-in-Unfit g c = says_by (ap refusal_line (sym c.in-Unfit.is)) c.write_unfit.ensures

pub returns-in-Configuration : goal.returns-in-Configuration
returns-in-Configuration g c = says_by (ap refusal_line (sym c.in-Configuration.is))
    c.write_configuration.ensures

pub returns-in-NoPlugin : goal.returns-in-NoPlugin
returns-in-NoPlugin g c = says_by (ap refusal_line (sym c.in-NoPlugin.is))
    c.write_named-in-NoPlugin.ensures

pub returns-in-NoPath : goal.returns-in-NoPath
returns-in-NoPath g c = says_by (ap refusal_line (sym c.in-NoPath.is))
    c.write_named-in-NoPath.ensures

pub returns-in-NotEmpty : goal.returns-in-NotEmpty
returns-in-NotEmpty g c = says_by (ap refusal_line (sym c.in-NotEmpty.is))
    c.write_counted.ensures

pub returns-in-Stray : goal.returns-in-Stray
returns-in-Stray g c = says_by (ap refusal_line (sym c.in-Stray.is))
    c.write_named-in-Stray.ensures

pub returns-in-OtherSecret : goal.returns-in-OtherSecret
returns-in-OtherSecret g c = says_by (ap refusal_line (sym c.in-OtherSecret.is))
    c.write_named-in-OtherSecret.ensures

pub returns-in-Clash : goal.returns-in-Clash
returns-in-Clash g c = says_by (ap refusal_line (sym c.in-Clash.is))
    c.write_named-in-Clash.ensures

pub returns-in-Script : goal.returns-in-Script
returns-in-Script g c = says_by (ap refusal_line (sym c.in-Script.is))
    c.write_counted-in-Script.ensures
