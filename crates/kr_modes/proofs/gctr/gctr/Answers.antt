use Rattle.std.proofs.Common.{drop}
use Rattle.kr_aes.specs.Cipher.{cipher}
use Rattle.kr_modes.proofs.Streams.{streamed_none}
use Rattle.kr_modes.proofs.gctr.gctr.Goals as goal

pub returns-then-size-lt-LONG : goal.returns-then-size-lt-LONG
returns-then-size-lt-LONG c =
    c.gctr_each.ensures (drop c.args.from c.args.buffer.now)
    (streamed_none (cipher c.args.words.now c.args.rounds) c.args.nonce.now c.args.buffer.now c.args.from c.requires.from)
