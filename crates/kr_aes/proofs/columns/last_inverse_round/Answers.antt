use Rattle.kr_aes.proofs.Rows.{last_inverse_columns}
use Rattle.kr_aes.proofs.columns.last_inverse_round.Goals as goal

pub returns : goal.returns
returns c =
    last_inverse_columns c.args.words.now c.args.round _ _ _ _ _ _ _ _ c.last_inverse.ensures c.last_inverse-2.ensures c.last_inverse-3.ensures c.last_inverse-4.ensures
