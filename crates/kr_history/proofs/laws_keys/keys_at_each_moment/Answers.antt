-- The law of key pages around the events of a seat.
use Rattle.kr_history.proofs.KeyMoments.{keys_at_each_moment}
use Rattle.kr_history.proofs.laws_keys.keys_at_each_moment.Goals as goal

pub returns : goal.returns
returns c = keys_at_each_moment
