-- `read_fleet`: what the words ask for.
use Rattle.std.proofs.Common.{codes}
use Rattle.kr_cmd_messages.proofs.FleetAsked.{asked_so}
use Rattle.kr_cmd_messages.proofs.NoneAsked.{read_so, unread}
use Rattle.kr_cmd_messages.proofs.fleet_words.read_fleet.Goals as goal

pub returns-in-None : goal.returns-in-None
returns-in-None c = λ asked h. unread c.in-Ok.ensures c.in-None.is (h.means.rest, h.means.word)

pub returns-in-Ok-fleet_request : goal.returns-in-Ok-fleet_request
returns-in-Ok-fleet_request c = asked_so c.in-Some.words
    (read_so (codes "fleet") c.in-Ok.ensures c.in-Some.is) _ c.in-Ok-fleet_request.ensures
