use Rattle.kr_history.proofs.KeptHonest as proved
use Rattle.kr_history.proofs.laws_calls.honesty_follows.Goals as goal

pub returns-clause-acted : goal.returns-clause-acted
returns-clause-acted c = proved.honesty_follows

pub returns-clause-stands : goal.returns-clause-stands
returns-clause-stands c = proved.honesty_stands
