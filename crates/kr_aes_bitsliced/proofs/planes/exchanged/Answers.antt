use Rattle.std.proofs.lemmas.Simd.{shifts_fit_splat}
use Rattle.kr_aes_bitsliced.proofs.Exchange.{IsPlane-from_fits, IsExchange-lanes}
use Rattle.kr_aes_bitsliced.proofs.planes.exchanged.Goals as goal

pub overflow_shr-change : goal.overflow_shr-change
overflow_shr-change g c = shifts_fit_splat 8 _ 16 g.row.SHIFT c.requires.small

pub overflow_shl-result : goal.overflow_shl-result
overflow_shl-result g c = shifts_fit_splat 8 _ 16 g.row.SHIFT c.requires.small

pub returns : goal.returns
returns g c =
    let low = IsPlane-from_fits c.args.low c.fits-low.0 c.fits-low.1 in
    let high = IsPlane-from_fits c.args.high c.fits-high.0 c.fits-high.1 in
    IsExchange-lanes g.row.SHIFT c.args.mask c.args.low c.args.high low high
    c.ranges.mask.fits c.requires
