use Rattle.std.proofs.Common.{arith}
use Rattle.kr_aes.proofs.TableCells.{INVERSE_SBOX-inverse_sbox}
use Rattle.kr_aes.proofs.cells.inverse_sbox.Goals as goal

pub returns : goal.returns
returns c = INVERSE_SBOX-inverse_sbox c.args.byte (omega arith)
