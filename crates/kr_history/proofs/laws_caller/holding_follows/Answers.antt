use Rattle.kr_history.proofs.Following.{adopted_law, released_law, stays_law}
use Rattle.kr_history.proofs.laws_caller.holding_follows.Goals as goal

pub returns : goal.returns
returns c = record { adopted = adopted_law; released = released_law; stays = stays_law }
