use Rattle.std.proofs.Common.{refl, arith}
use Rattle.kr_aes.specs.Cipher.{cipher}
use Rattle.kr_modes.proofs.Streams.{streamed_none}
use Rattle.kr_modes.proofs.gctr.gctr_eights.Goals as goal

pub loop-time-init : goal.loop-time-init
loop-time-init c = record {
  same_length = refl;
  streamed = streamed_none (cipher c.args.words.now c.args.rounds) c.args.nonce.now c.args.buffer.now c.args.from (omega arith);
}
