-- Replies to a `get` tell the content.
use Rattle.kr_workers.proofs.HeardGets as proved
use Rattle.kr_workers.proofs.laws.gets_tell_content.Goals as goal

pub returns : goal.returns
returns g c =
    proved.gets_tell_content g.L.Kms.link g.L.Kms.step g.D.Dice.left g.D.Dice.count
