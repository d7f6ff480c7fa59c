-- The history of a fleet, by any openings by which plugins unwrap what they wrapped.
use Rattle.kr_workers.proofs.HonestPlugins.{honest_of_plugins}
use Rattle.kr_workers.proofs.laws.honest_of_plugins.Goals as goal

pub returns : goal.returns
returns g c =
    honest_of_plugins g.row.T.Denot g.L.Kms.link g.L.Kms.step g.D.Dice.left g.D.Dice.count
