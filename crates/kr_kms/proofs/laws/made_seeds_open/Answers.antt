-- A seed that was made.
use Rattle.kr_kms.proofs.Opening.{seed_opens}
use Rattle.kr_kms.proofs.laws.made_seeds_open.Goals as goal

pub returns : goal.returns
returns g c opens = seed_opens opens g.D.Dice.left g.D.Dice.count
