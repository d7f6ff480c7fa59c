use Rattle.kr_aes.proofs.Rows.{last_forward_columns}
use Rattle.kr_aes.proofs.columns.last_forward_round.Goals as goal

pub returns : goal.returns
returns c =
    last_forward_columns c.args.words.now c.args.round _ _ _ _ _ _ _ _ c.last_forward.ensures c.last_forward-2.ensures c.last_forward-3.ensures c.last_forward-4.ensures
