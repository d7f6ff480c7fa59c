use Rattle.kr_cmd_laws.proofs.LineQuestions.{lines_wrap_drawn}
use Rattle.kr_cmd_laws.proofs.fleet_plugins.lines_wrap_drawn.Goals as goal

pub returns : goal.returns
returns g c = lines_wrap_drawn g.W.Link.Kms.link g.W.Link.Kms.step g.W.Rand.Dice.left
    g.W.Rand.Dice.count
