use Rattle.std.proofs.Common.{refl}
use Rattle.kr_aes.specs.InverseCipher.{inverse_shift_rows}
use Rattle.kr_aes.proofs.inverse_state.inverse_shift_rows.Goals as goal

pub returns : goal.returns
unfolding inverse_shift_rows
returns c = refl
