-- One step is taken.
use Rattle.std.proofs.Common.{◌≡◌, ℕ, ◌+◌, ◌-◌, ◌*◌, ◌/◌, ◌%◌, length, arith}
use Rattle.kr_aes.specs.Cipher.{cipher}
use Rattle.kr_keywrap.proofs.Blocks.{wrap_from}
use Rattle.kr_keywrap.proofs.key_wrap.wrap_step.Goals as goal

pub returns : goal.returns
returns c =
    let at : ℕ = 8 * (c.args.step % (length c.args.blocks.now / 8)) in
    let k : at + 8 - at ≡ 8 = omega arith in
    wrap_from (cipher c.args.words.now c.args.rounds) c.args.blocks.now c.args.a c.args.step (at + 8 - at) 8 c.half_number.result c.joined-block.result c.encrypt_block.new.block c.copy_from_slice.new.self
    k (omega arith) c.encrypt_block.array_long c.joined-block.ensures c.encrypt_block.ensures c.copy_from_slice.ensures.after c.half_number.ensures
