use Rattle.std.proofs.Common.{◌≡◌, ℕ, List, [], ◌∷◌, get_or, rules, sym, ◌∙◌}
use Rattle.kr_aes_bitsliced.specs.inner.Planes.{block_of_rows}
use Rattle.kr_aes_bitsliced.proofs.ByteBits.{each_of_eight}
use Rattle.kr_aes_bitsliced.proofs.PlaneSums.{IsPlane}
use Rattle.kr_aes_bitsliced.proofs.TransposedBlocks.{sliced_block_of_rows}
use Rattle.kr_aes_bitsliced.proofs.planes.of_blocks.Goals as goal

pub returns : goal.returns
returns c b lt =
    let rows : ℕ → List ℕ = λ k. get_or
    (c.block_rows.result ∷ c.block_rows-2.result ∷ c.block_rows-3.result ∷ c.block_rows-4.result ∷
    c.block_rows-5.result ∷ c.block_rows-6.result ∷ c.block_rows-7.result ∷ c.block_rows-8.result ∷ [])
    k [] in
    let is_plane : IsPlane (rows b) = each_of_eight (λ k. IsPlane (rows k))
    (search rules) (search rules) (search rules) (search rules)
    (search rules) (search rules) (search rules) (search rules) b lt in
    let block : block_of_rows (rows b) ≡ get_or c.args.blocks.now b [] =
    each_of_eight (λ k. block_of_rows (rows k) ≡ get_or c.args.blocks.now k [])
    c.block_rows.ensures c.block_rows-2.ensures c.block_rows-3.ensures c.block_rows-4.ensures
    c.block_rows-5.ensures c.block_rows-6.ensures c.block_rows-7.ensures c.block_rows-8.ensures b lt in
    sliced_block_of_rows c.transposed.result b (rows b) is_plane
    (λ p k hp hk. sym (c.transposed.ensures p k b hp hk lt)) ∙ block
