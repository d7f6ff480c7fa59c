use Rattle.std.proofs.Common.{ap, ◌∙◌}
use Rattle.kr_aes.specs.InverseCipher.{inverse_cipher}
use Rattle.kr_aes.proofs.InverseRounds.{inverse_cipher-cipher}
use Rattle.kr_aes.proofs.decrypt_block.Goals as goal

pub returns-clause-inverse : goal.returns-clause-inverse
returns-clause-inverse c = c.decrypt_block_by_inverse.ensures.inverse c.args.words.now c.invert.ensures

pub returns-clause-undone : goal.returns-clause-undone
returns-clause-undone c = λ plain is from.
    returns-clause-inverse c ∙ ap (inverse_cipher c.args.words.now c.args.rounds) from ∙ inverse_cipher-cipher c.args.words.now c.args.rounds plain is
