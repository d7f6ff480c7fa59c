use Rattle.std.proofs.Common.{◌++◌, ap, codes}
use Rattle.kr_cmd_messages.proofs.Pieces.{says_by}
use Rattle.kr_cmd_messages.proofs.message.write_named.Goals as goal

pub returns : goal.returns
returns g c = says_by (ap (λ n. c.args.start.now ++ (n ++ codes "\n")) c.as_str.ensures)
    c.say.ensures
