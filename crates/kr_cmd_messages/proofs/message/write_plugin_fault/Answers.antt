use Rattle.std.proofs.Common.{ap, codes}
use Rattle.kr_cmd_messages.specs.Message.{counted_line}
use Rattle.kr_cmd_messages.proofs.Pieces.{says_by}
use Rattle.kr_cmd_messages.proofs.message.write_plugin_fault.Goals as goal

pub returns : goal.returns
returns g c = says_by (ap (λ d. counted_line (codes "kmsrest: fault plugin ") d c.args.count)
    c.as_str.ensures) c.write_counted.ensures
