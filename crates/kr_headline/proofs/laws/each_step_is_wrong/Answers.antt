-- What no line of a run does.
use Rattle.kr_headline.proofs.WrongSteps as proved
use Rattle.kr_headline.proofs.laws.each_step_is_wrong.Goals as goal

pub returns : goal.returns
returns g c =
    proved.each_step_is_wrong g.row.T.Denot g.L.Kms.link g.L.Kms.step g.D.Dice.count
