use Rattle.std.proofs.Common.{◌≡◌, refl}
use Rattle.kr_aes.specs.InverseCipher.{inverse_cipher}
use Rattle.kr_modes.specs.declared.ModeNo.TheVariants.{BadPadding}
use Rattle.kr_modes.proofs.cbc.cbc_unseal.Goals as goal

pub returns-in-Some-clause-wiped : goal.returns-in-Some-clause-wiped
returns-in-Some-clause-wiped c = λ is.
    let why : c.in-Some.why ≡ BadPadding = cc in
    absurd ((c.in-Some.ensures (inverse_cipher c.args.words.now c.args.rounds) c.args.body.now refl).1 why)
