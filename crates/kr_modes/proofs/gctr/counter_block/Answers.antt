use Rattle.std.proofs.Common.{◌≡◌, ◌+◌, ◌%◌, ◌^◌, ◌++◌, drop, replicate, sym, ap, ◌∙◌, arith}
use Rattle.std.specs.Int.{w32, to_be_bytes}
use Rattle.kr_modes.specs.Gcm.{counter_block}
use Rattle.kr_modes.proofs.Streams.{put_end}
use Rattle.kr_modes.proofs.gctr.counter_block.Goals as goal

pub returns : goal.returns
unfolding counter_block
returns c =
    let whole : (1 + c.args.n) % 2 ^ 32 ≡ 1 + c.args.n = omega arith in
    let text : c.copy_from_slice-2.new.self ≡ to_be_bytes w32 ((1 + c.args.n) % 2 ^ 32) =
    c.copy_from_slice-2.ensures.after ∙ c.to_be_bytes.ensures ∙ ap (to_be_bytes w32) (sym whole) in
    put_end c.copy_from_slice.new.self (drop 12 (replicate 16 0)) c.copy_from_slice-2.new.self 12 4 (omega arith) (omega arith)
    ∙ (λ i. c.copy_from_slice.ensures.after i ++ text i)
