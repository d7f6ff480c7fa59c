use Rattle.std.proofs.Common.{◌++◌, ap, codes}
use Rattle.kr_cmd_messages.proofs.Pieces.{says_by}
use Rattle.kr_cmd_messages.proofs.message.write_counted.Goals as goal

pub returns : goal.returns
returns g c = says_by
    (ap (λ d. c.args.start.now ++ (c.args.word.now ++ (codes " " ++ (d ++ codes "\n"))))
    c.format-digits.ensures.text)
    c.say.ensures
