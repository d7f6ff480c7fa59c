use Rattle.kr_aes.proofs.Rows.{first_columns}
use Rattle.kr_aes.proofs.columns.first.Goals as goal

pub returns : goal.returns
returns c =
    first_columns c.args.words.now c.args.block.now c.args.round _ _ _ _ c.keyed.ensures c.keyed-2.ensures c.keyed-3.ensures c.keyed-4.ensures
