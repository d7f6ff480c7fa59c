use Rattle.std.proofs.Common.{◌≡◌, length, arith}
use Rattle.kr_modes.proofs.Counters.{all_counted, first_counted, one_more_counted}
use Rattle.kr_modes.proofs.gctr.counter_blocks.Goals as goal

pub loop-i-init : goal.loop-i-init
loop-i-init c = first_counted c.args.nonce.now c.counter_block-blocks.result c.args.n c.counter_block-blocks.ensures

pub loop-i-preserved : goal.loop-i-preserved
loop-i-preserved c =
    let l = c.loop-i in
    let size : length c.args.nonce.now ≡ 12 = omega arith in
    one_more_counted c.args.nonce.now _ c.args.n l.i l.blocks size (omega arith) c.set_block_count.ensures l.invariant

pub returns : goal.returns
returns c =
    let l = c.loop-i in
    all_counted c.args.nonce.now c.args.n l.i l.blocks (omega arith) l.invariant
