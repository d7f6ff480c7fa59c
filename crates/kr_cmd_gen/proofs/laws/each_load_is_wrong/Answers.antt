-- What no load tells.
use Rattle.kr_cmd_gen.proofs.WrongLoads as proved
use Rattle.kr_cmd_gen.proofs.laws.each_load_is_wrong.Goals as goal

pub returns : goal.returns
returns g c =
    proved.each_load_is_wrong g.row.W-Tap.Denot g.W.Link.Kms.link
    g.W.Link.Kms.step
