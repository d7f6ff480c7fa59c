-- Seeds, one after another.
use Rattle.kr_provider.proofs.AgreeTalks.{seeds_open}
use Rattle.kr_provider.proofs.exchange_laws.made_seeds_agree.Goals as goal

pub returns : goal.returns
returns g c opens = seeds_open opens g.D.Dice.left g.D.Dice.count
