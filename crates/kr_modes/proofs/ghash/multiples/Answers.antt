use Rattle.std.specs.Int.{w128, reverse_bits}
use Rattle.kr_modes.proofs.Numbers.{multiples_are}
use Rattle.kr_modes.proofs.ghash.multiples.Goals as goal

pub returns : goal.returns
returns c = multiples_are c.polynomial_block-a.result c.polynomial_block-b.result c.polynomial_block-c.result c.polynomial_block-d.result
    (reverse_bits w128 c.args.p) (reverse_bits w128 c.shifted-q.result) (reverse_bits w128 c.shifted-r.result) (reverse_bits w128 c.shifted.result)
    c.polynomial_block-a.ensures c.polynomial_block-b.ensures c.polynomial_block-c.ensures c.polynomial_block-d.ensures
    c.shifted-q.ensures c.shifted-r.ensures c.shifted.ensures
