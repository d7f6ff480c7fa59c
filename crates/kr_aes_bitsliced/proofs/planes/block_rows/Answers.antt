use Rattle.std.proofs.Common.{◌≡◌, ◌∙◌, ap, arith}
use Rattle.std.specs.Simd.Lanes.{chunk}
use Rattle.std.proofs.lemmas.List.{take_all}
use Rattle.kr_aes_bitsliced.specs.inner.Planes.{block_of_rows}
use Rattle.kr_aes_bitsliced.proofs.TransposedBlocks.{rows_twice}
use Rattle.kr_aes_bitsliced.proofs.planes.block_rows.Goals as goal

pub returns : goal.returns
returns c =
    let block = c.args.block.now in
    let whole : chunk 0 16 block ≡ block = take_all 16 block (omega (arith, c.requires)) in
    ap block_of_rows (c.by_rows.ensures ∙ ap block_of_rows whole) ∙ rows_twice block c.requires
