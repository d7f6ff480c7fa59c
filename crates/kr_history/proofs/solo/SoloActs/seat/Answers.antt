use Rattle.std.proofs.Common.{ap}
use Rattle.kr_history.specs.Acting.{Caller}
use Rattle.kr_history.proofs.solo.SoloActs.seat.Goals as goal

pub returns : goal.returns
returns g c = ap (λ (x : Caller). x.seat) c.self.view_is
