use Rattle.std.proofs.Common.{◌∙◌, arith}
use Rattle.kr_modes.proofs.Counters.{same_front}
use Rattle.kr_modes.proofs.gctr.begin_nth_block.Goals as goal

pub returns-then-n-eq0 : goal.returns-then-n-eq0
returns-then-n-eq0 c = rw c.counter_block.ensures at c.new.ensures

pub returns-else-n-eq0 : goal.returns-else-n-eq0
returns-else-n-eq0 c =
    let front = same_front c.args.nonce.now c.args.n (omega arith) c.requires.some c.requires.fits c.if-n-eq0.false in
    c.requires.before ∙ (λ i. record { words = c.args.words.now; front = front i })
