-- Bytes that are told were put.
use Rattle.kr_headline.proofs.Consequences as proved
use Rattle.kr_headline.proofs.laws.got_was_put.Goals as goal

pub returns : goal.returns
returns g c = proved.got_was_put g.row.T.Denot g.L.Kms.link g.L.Kms.step g.D.Dice.count
