use Rattle.std.proofs.Common.{sym, ap}
use Rattle.kr_cmd_messages.specs.Message.{words_line}
use Rattle.kr_cmd_messages.proofs.Pieces.{says_by}
use Rattle.kr_cmd_messages.proofs.message.write_words.Goals as goal

pub returns-in-Replicas : goal.returns-in-Replicas
returns-in-Replicas g c = says_by (ap words_line (sym c.in-Replicas.is)) c.write_limit.ensures

pub returns-in-Page : goal.returns-in-Page
returns-in-Page g c = says_by (ap words_line (sym c.in-Page.is)) c.write_limit-in-Page.ensures

pub returns-in-Size : goal.returns-in-Size
returns-in-Size g c = says_by (ap words_line (sym c.in-Size.is)) c.write_limit-in-Size.ensures
