-- Configurations that are brought.
use Rattle.kr_fleet.proofs.AgreeingLoads.{joins_agree, refreshes_agree, reloads_agree}
use Rattle.kr_fleet.proofs.exchange_laws.loads_agree.Goals as goal

pub returns-clause-reloads : goal.returns-clause-reloads
returns-clause-reloads g c opens = reloads_agree opens g.D.Dice.left g.D.Dice.count

pub returns-clause-joins : goal.returns-clause-joins
returns-clause-joins g c opens = joins_agree opens g.D.Dice.left g.D.Dice.count

pub returns-clause-refreshes : goal.returns-clause-refreshes
returns-clause-refreshes g c opens = refreshes_agree opens g.D.Dice.left g.D.Dice.count
