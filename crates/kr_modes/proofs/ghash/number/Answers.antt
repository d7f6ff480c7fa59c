use Rattle.std.proofs.Common.{ap, ◌∙◌, arith}
use Rattle.kr_aes.specs.Cipher.{IsBlock}
use Rattle.kr_modes.specs.inner.Tables.{polynomial_of}
use Rattle.kr_modes.proofs.Numbers.{polynomial_of_block}
use Rattle.kr_modes.proofs.ghash.number.Goals as goal

pub returns : goal.returns
returns c =
    let is : IsBlock c.args.block.now = record {
      size = omega arith;
      bytes = c.known.ensures;
    } in
    ap polynomial_of c.from_le_bytes.ensures ∙ polynomial_of_block c.args.block.now is
