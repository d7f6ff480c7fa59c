use Rattle.std.proofs.Common.{arith}
use Rattle.kr_aes.proofs.TableCells.{SBOX-sbox}
use Rattle.kr_aes.proofs.cells.sbox.Goals as goal

pub returns : goal.returns
returns c = SBOX-sbox c.args.byte (omega arith)
