use Rattle.std.proofs.Common.{append-nil}
use Rattle.kr_cmd_messages.proofs.Pieces.{says_by}
use Rattle.kr_cmd_messages.proofs.message.write_text.Goals as goal

pub returns : goal.returns
returns g c = says_by (append-nil c.args.text.now) c.say.ensures
