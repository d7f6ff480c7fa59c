use Rattle.kr_aes.proofs.TableCells.{POWERS_OF_X-power_of_x}
use Rattle.kr_aes.proofs.key_expansion.power_of_x.Goals as goal

pub returns : goal.returns
returns c = POWERS_OF_X-power_of_x c.args.n c.requires
