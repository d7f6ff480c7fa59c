use Rattle.kr_aes_bitsliced.proofs.KeyBytes.{added_key, key_of_round}
use Rattle.kr_aes_bitsliced.proofs.rounds.key_added.Goals as goal

pub returns : goal.returns
returns c = λ words is b lt.
    added_key words c.args.round b c.args.planes _ c.added.result lt
    (key_of_round words c.args.keys.now c.args.round _ c.requires is)
    (λ p. c.added.ensures b p lt)
