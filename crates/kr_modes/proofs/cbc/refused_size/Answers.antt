use Rattle.std.proofs.Common.{ℕ, ◌%◌, sym, ap, ◌∙◌, arith}
use Rattle.kr_modes.proofs.Opening.{cbc_bad_block, cbc_short}
use Rattle.kr_modes.proofs.cbc.refused_size.Goals as goal

pub returns-then-size-le-BLOCK : goal.returns-then-size-le-BLOCK
returns-then-size-le-BLOCK c = λ decipher body e. (cbc_short decipher body (omega arith), λ same. cc)

pub returns-then-size-ne0 : goal.returns-then-size-ne0
returns-then-size-ne0 c = λ decipher body e. (
  cbc_bad_block decipher body (omega arith) (λ none. c.if-size-ne0.true (sym (ap (λ (k : ℕ). k % 16) e) ∙ none)),
  λ same. cc,
)
