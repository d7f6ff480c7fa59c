use Rattle.kr_aes.proofs.Rows.{forward_columns}
use Rattle.kr_aes.proofs.columns.forward_round.Goals as goal

pub returns : goal.returns
returns c =
    forward_columns c.args.words.now c.args.round _ _ _ _ _ _ _ _ c.forward.ensures c.forward-2.ensures c.forward-3.ensures c.forward-4.ensures
