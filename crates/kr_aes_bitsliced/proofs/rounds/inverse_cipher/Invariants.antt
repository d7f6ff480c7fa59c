use Rattle.kr_aes.specs.InverseCipher.{after_inverse_rounds}
use Rattle.kr_aes_bitsliced.proofs.RoundLoop.{SoFar}
use Rattle.kr_aes_bitsliced.proofs.rounds.inverse_cipher.Given as goal

abbrev pub invariant-loop-round : goal.invariant-loop-round
invariant-loop-round l = SoFar (λ words. after_inverse_rounds words l.last) l.keys l.state l.fn.planes l.round l.last
