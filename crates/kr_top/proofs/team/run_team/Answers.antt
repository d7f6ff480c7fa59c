-- `run_team`: what each kind of call did.
use Rattle.std.proofs.Common.{subst, sym}
use Rattle.kr_top.specs.inner.Team.{IsPaged}
use Rattle.kr_top.proofs.Reading.{team_did}
use Rattle.kr_top.proofs.team.run_team.Goals as goal

pub watch-requires-clause-limit : goal.watch-requires-clause-limit
watch-requires-clause-limit g c = λ κs lives. subst IsPaged c.in-Watch.is c.requires.page

pub returns-in-Fleet-clause-did : goal.returns-in-Fleet-clause-did
returns-in-Fleet-clause-did g c = team_did g.row.W-Tap.Denot g.W.Link.Kms.link g.W.Link.Kms.step
    g.W.World.lent g.W.World.took g.W.Rand.Dice.left g.W.Rand.Dice.count _ _ _ _
    (sym c.in-Fleet.is) c.fleet.ensures.did

pub returns-in-Load-clause-did : goal.returns-in-Load-clause-did
returns-in-Load-clause-did g c = team_did g.row.W-Tap.Denot g.W.Link.Kms.link g.W.Link.Kms.step
    g.W.World.lent g.W.World.took g.W.Rand.Dice.left g.W.Rand.Dice.count _ _ _ _
    (sym c.in-Load.is) c.load.ensures.did

pub returns-in-Watch-clause-did : goal.returns-in-Watch-clause-did
returns-in-Watch-clause-did g c = team_did g.row.W-Tap.Denot g.W.Link.Kms.link g.W.Link.Kms.step
    g.W.World.lent g.W.World.took g.W.Rand.Dice.left g.W.Rand.Dice.count _ _ _ _
    (sym c.in-Watch.is) c.watch.ensures.did
