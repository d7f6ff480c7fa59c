-- `read_watch`: what the words ask for.
use Rattle.std.proofs.Common.{codes}
use Rattle.kr_cmd_messages.proofs.WatchAsked.{watch_asked_so}
use Rattle.kr_cmd_messages.proofs.NoneAsked.{read_so, unread}
use Rattle.kr_cmd_messages.proofs.watch_words.read_watch.Goals as goal

pub returns-in-None : goal.returns-in-None
returns-in-None c = λ asked h. unread c.in-Ok.ensures c.in-None.is (h.means.rest, h.means.word)

pub returns-in-Ok-watch_request : goal.returns-in-Ok-watch_request
returns-in-Ok-watch_request c = watch_asked_so c.in-Some.words
    (read_so (codes "watch") c.in-Ok.ensures c.in-Some.is) _ c.in-Ok-watch_request.ensures
