-- Kept seeds.
use Rattle.kr_history.proofs.KeptSeeds.{kept_open}
use Rattle.kr_history.proofs.laws_exchange.kept_seeds_open.Goals as goal

pub returns : goal.returns
returns c = kept_open
