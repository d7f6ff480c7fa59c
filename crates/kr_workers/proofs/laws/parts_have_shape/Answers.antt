-- The part of each line has its shape.
use Rattle.kr_workers.proofs.ShapingLines as proved
use Rattle.kr_workers.proofs.laws.parts_have_shape.Goals as goal

pub returns : goal.returns
returns g c =
    proved.parts_have_shape g.L.Kms.link g.L.Kms.step g.D.Dice.left g.D.Dice.count
