-- The planes go up by one, and bit 7 is added where the modulus has a term.
use Rattle.std.proofs.Common.{rules}
use Rattle.kr_aes_bitsliced.proofs.PlaneDoubles.{doubles_bytes}
use Rattle.kr_aes_bitsliced.proofs.columns.doubled.Goals as goal

pub returns : goal.returns
returns c = λ b p hb hp. doubles_bytes c.args.planes (search rules) b p hp
