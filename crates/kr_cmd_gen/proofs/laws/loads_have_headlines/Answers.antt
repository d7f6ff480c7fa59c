-- The headline of a load.
use Rattle.kr_cmd_gen.proofs.LoadHeads.{load_headline}
use Rattle.kr_cmd_gen.proofs.laws.loads_have_headlines.Goals as goal

pub returns : goal.returns
returns g c = load_headline g.row.W-Tap.Denot g.W.Link.Kms.link g.W.Link.Kms.step
