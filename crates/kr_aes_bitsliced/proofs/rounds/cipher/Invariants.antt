use Rattle.kr_aes.specs.Cipher.{after_rounds}
use Rattle.kr_aes_bitsliced.proofs.RoundLoop.{SoFar}
use Rattle.kr_aes_bitsliced.proofs.rounds.cipher.Given as goal

abbrev pub invariant-loop-round : goal.invariant-loop-round
invariant-loop-round l = SoFar after_rounds l.keys l.state l.fn.planes l.round l.last
