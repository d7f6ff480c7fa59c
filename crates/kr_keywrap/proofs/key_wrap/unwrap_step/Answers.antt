-- One step is undone.
use Rattle.std.proofs.Common.{◌≡◌, ℕ, ◌+◌, ◌-◌, ◌*◌, ◌/◌, ◌%◌, length, arith}
use Rattle.kr_aes.specs.InverseCipher.{inverse_cipher}
use Rattle.kr_keywrap.proofs.Blocks.{unwrap_from}
use Rattle.kr_keywrap.proofs.key_wrap.unwrap_step.Goals as goal

pub returns : goal.returns
returns c = λ words is.
    let at : ℕ = 8 * (c.args.step % (length c.args.blocks.now / 8)) in
    let k : at + 8 - at ≡ 8 = omega arith in
    unwrap_from (inverse_cipher words c.args.rounds) c.args.blocks.now c.args.a c.args.step (at + 8 - at) 8 c.half_number.result c.joined-block.result c.decrypt_block_by_inverse.new.block c.copy_from_slice.new.self
    k (omega arith) c.decrypt_block_by_inverse.array_long c.joined-block.ensures (c.decrypt_block_by_inverse.ensures.inverse words is) c.copy_from_slice.ensures.after c.half_number.ensures
