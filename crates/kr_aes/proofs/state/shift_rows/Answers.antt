use Rattle.std.proofs.Common.{refl}
use Rattle.kr_aes.specs.Cipher.{shift_rows}
use Rattle.kr_aes.proofs.state.shift_rows.Goals as goal

pub returns : goal.returns
unfolding shift_rows
returns c = refl
