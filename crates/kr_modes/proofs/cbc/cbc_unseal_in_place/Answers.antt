use Rattle.std.proofs.Common.{◌≡◌, drop, length-drop}
use Rattle.kr_aes.specs.InverseCipher.{inverse_cipher}
use Rattle.kr_modes.specs.declared.ModeNo.TheVariants.{BadPadding}
use Rattle.kr_modes.proofs.cbc.cbc_unseal_in_place.Goals as goal

pub returns-in-Some-clause-wiped : goal.returns-in-Some-clause-wiped
returns-in-Some-clause-wiped c = λ is.
    let body = drop c.args.from c.args.buffer.now in
    let why : c.in-Some.why ≡ BadPadding = cc in
    absurd ((c.in-Some.ensures (inverse_cipher c.args.words.now c.args.rounds) body (length-drop c.args.from c.args.buffer.now)).1 why)
