use Rattle.std.proofs.Common.{◌≤◌, length, sym, subst}
use Rattle.std.specs.Prelude.{IfOk}
use Rattle.kr_cmd_steps.specs.Phases.{input_limit}
use Rattle.kr_cmd_messages.specs.declared.command.Direction.TheVariants.{Encrypt, Decrypt}
use Rattle.kr_cmd_steps.proofs.RunTo.{takes_in}
use Rattle.kr_cmd_steps.proofs.phases.take_input.Goals as goal

pub returns-in-Encrypt-clause-does : goal.returns-in-Encrypt-clause-does
returns-in-Encrypt-clause-does g c a =
    takes_in Encrypt c.take.result a c.in-Encrypt.is c.take.ensures.taken c.take.ensures.later

pub returns-in-Decrypt-clause-does : goal.returns-in-Decrypt-clause-does
returns-in-Decrypt-clause-does g c a =
    takes_in Decrypt c.take-in-Decrypt.result a c.in-Decrypt.is c.take-in-Decrypt.ensures.taken
    c.take-in-Decrypt.ensures.later

pub returns-in-Encrypt-clause-fits : goal.returns-in-Encrypt-clause-fits
returns-in-Encrypt-clause-fits g c = subst (λ d. IfOk c.take.result (λ b. length b ≤ input_limit d))
    (sym c.in-Encrypt.is) c.take.ensures.fits

pub returns-in-Decrypt-clause-fits : goal.returns-in-Decrypt-clause-fits
returns-in-Decrypt-clause-fits g c =
    subst (λ d. IfOk c.take-in-Decrypt.result (λ b. length b ≤ input_limit d))
    (sym c.in-Decrypt.is) c.take-in-Decrypt.ensures.fits
