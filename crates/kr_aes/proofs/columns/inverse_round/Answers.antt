use Rattle.kr_aes.proofs.Rows.{inverse_columns}
use Rattle.kr_aes.proofs.columns.inverse_round.Goals as goal

pub returns : goal.returns
returns c =
    inverse_columns c.args.words.now c.args.round _ _ _ _ _ _ _ _ c.inverse.ensures c.inverse-2.ensures c.inverse-3.ensures c.inverse-4.ensures
