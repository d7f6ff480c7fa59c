use Rattle.std.proofs.Common.{◌*◌, arith}
use Rattle.std.specs.Int.{bit_at}
use Rattle.std.proofs.lemmas.List.FromFn.{fill_by_all}
use Rattle.kr_aes_bitsliced.proofs.KeyBytes.{key_byte}
use Rattle.kr_aes_bitsliced.proofs.keys.plane.Goals as goal

pub returns : goal.returns
returns c =
    let inv = c.loop-i.invariant in
    fill_by_all (λ p. 255 * bit_at (key_byte c.args.words.now c.args.round p) c.args.bit)
    c.loop-i.bytes 16 0 inv.size (λ p lt. inv.done p (omega arith))
