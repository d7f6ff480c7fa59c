-- A body that is too long for the room isn't that of a key of this size.
use Rattle.std.proofs.Common.{arith, length, ◌-◌}
use Rattle.kr_aes.specs.InverseCipher.{inverse_cipher}
use Rattle.kr_keywrap.proofs.Opening.{too_long}
use Rattle.kr_keywrap.proofs.keys.unwrap_by_words.Goals as goal

pub returns-then-size-gt-ROOM-clause-unwrapped : goal.returns-then-size-gt-ROOM-clause-unwrapped
returns-then-size-gt-ROOM-clause-unwrapped c =
    too_long (inverse_cipher c.args.words.now c.args.rounds) c.args.body.now (length c.args.body.now - 8) (omega arith) (omega arith)
