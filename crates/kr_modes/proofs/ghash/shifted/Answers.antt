use Rattle.std.proofs.Common.{arith}
use Rattle.kr_modes.proofs.Numbers.{shifted_turned}
use Rattle.kr_modes.proofs.ghash.shifted.Goals as goal

pub returns : goal.returns
returns c = shifted_turned c.args.p (omega arith)
