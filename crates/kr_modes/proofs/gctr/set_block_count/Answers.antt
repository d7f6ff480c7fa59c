use Rattle.std.proofs.Common.{◌≡◌, ◌+◌, ◌%◌, ◌^◌, ◌++◌, take, drop, sym, ap, ◌∙◌, arith}
use Rattle.std.proofs.lemmas.List.{length-drop, length-take-le, take-append-drop}
use Rattle.std.specs.Int.{w32, to_be_bytes}
use Rattle.kr_modes.specs.Gcm.{counter_block}
use Rattle.kr_modes.proofs.gctr.set_block_count.Goals as goal
use borrow.Rule.Slice.PartMut.{put_mid}
use Rattle.kr_modes.proofs.Streams.{put_end}

pub returns : goal.returns
unfolding counter_block
returns c =
    let old = c.args.block.now in
    let whole : (1 + c.args.n) % 2 ^ 32 ≡ 1 + c.args.n = omega arith in
    let text : c.copy_from_slice.new.self ≡ to_be_bytes w32 ((1 + c.args.n) % 2 ^ 32) =
    c.copy_from_slice.ensures.after ∙ c.to_be_bytes.ensures ∙ ap (to_be_bytes w32) (sym whole) in
    ap (λ xs. put_mid 12 4 xs c.copy_from_slice.new.self) (sym (take-append-drop 12 old))
    ∙ put_end (take 12 old) (drop 12 old) c.copy_from_slice.new.self 12 4
    (length-take-le 12 old (omega arith)) (omega (arith, length-drop 12 old))
    ∙ ap (λ ys. take 12 old ++ ys) text
