-- What the tactic finds late of `copied`.
use Rattle.std.proofs.Common.{rules}
use Rattle.std.proofs.lemmas.List.{take_more}
use Rattle.kr_base.proofs.annotations.copied.Goals as goal

pub loop-key-preserved : goal.loop-key-preserved
loop-key-preserved c =
    let next = take_more c.args.pairs.now c.loop-key.key-index c.loop-key-item.result
    c.loop-key-test.true in
    search (rules, next)
