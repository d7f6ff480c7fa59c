-- `puts_are_kept`.
use Rattle.kr_workload.proofs.KeptPuts as proved
use Rattle.kr_workload.proofs.laws.puts_are_kept.Goals as goal

pub returns : goal.returns
returns g c =
    proved.puts_are_kept g.row.T.Denot g.L.Kms.link g.L.Kms.step g.D.Dice.left
    g.D.Dice.count
