-- A key id that isn't UTF-8 is refused.
use Rattle.std.proofs.Common.{ap}
use Rattle.kr_envelope.specs.Messages.{key_id, of_bytes}
use Rattle.kr_envelope.proofs.item.meaning_of_bytes.Goals as goal

pub returns-in-Err : goal.returns-in-Err
returns-in-Err c = (key_id c.args.content.now, ap (λ n. of_bytes n c.args.content.now) c.in-2.is, c.in-Err.ensures.cases.0)
