use Rattle.std.proofs.Common.{sym, ap}
use Rattle.kr_cmd_messages.specs.Message.{fault_line}
use Rattle.kr_cmd_messages.proofs.Pieces.{says_by}
use Rattle.kr_cmd_messages.proofs.message.write_fault.Goals as goal

pub returns-in-Input : goal.returns-in-Input
returns-in-Input g c =
    says_by (ap (λ o. fault_line o c.args.count) (sym c.in-Input.is)) c.write_counted.ensures

pub returns-in-Output : goal.returns-in-Output
returns-in-Output g c = says_by (ap (λ o. fault_line o c.args.count) (sym c.in-Output.is))
    c.write_counted-in-Output.ensures

pub returns-in-Files : goal.returns-in-Files
returns-in-Files g c = says_by (ap (λ o. fault_line o c.args.count) (sym c.in-Files.is))
    c.write_counted-in-Files.ensures

pub returns-in-Store : goal.returns-in-Store
returns-in-Store g c = says_by (ap (λ o. fault_line o c.args.count) (sym c.in-Store.is))
    c.write_counted-in-Store.ensures

pub returns-in-Target : goal.returns-in-Target
returns-in-Target g c = says_by (ap (λ o. fault_line o c.args.count) (sym c.in-Target.is))
    c.write_counted-in-Target.ensures

pub returns-in-Plugin : goal.returns-in-Plugin
returns-in-Plugin g c = says_by (ap (λ o. fault_line o c.args.count) (sym c.in-Plugin.is))
    c.write_plugin_fault.ensures
