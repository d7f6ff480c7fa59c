-- `read_load`: what the words ask for.
use Rattle.std.proofs.Common.{codes}
use Rattle.kr_cmd_messages.proofs.LoadAsked.{load_asked_so}
use Rattle.kr_cmd_messages.proofs.NoneAsked.{read_so, unread}
use Rattle.kr_cmd_messages.proofs.load_words.read_load.Goals as goal

pub returns-in-None : goal.returns-in-None
returns-in-None c = λ asked h. unread c.in-Ok.ensures c.in-None.is (h.means.rest, h.means.word)

pub returns-in-Ok-load_asked : goal.returns-in-Ok-load_asked
returns-in-Ok-load_asked c = load_asked_so c.in-Some.words
    (read_so (codes "gen") c.in-Ok.ensures c.in-Some.is) _ c.in-Ok-load_asked.ensures
