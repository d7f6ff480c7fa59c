use Rattle.kr_plan_laws.proofs.KeysRewritten as rewritten
use Rattle.kr_plan_laws.proofs.laws_keys.rewrite_leaves_keys.Goals as goal

pub returns : goal.returns
returns g c = rewritten.rewrite_leaves_keys g.L.Kms.link g.D.Dice.left g.D.Dice.count
