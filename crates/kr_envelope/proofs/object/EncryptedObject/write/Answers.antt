-- What was written is read back.
use Rattle.std.proofs.Common.{◌∙◌}
use Rattle.kr_envelope.proofs.RoundTrip.{read_back}
use Rattle.kr_envelope.proofs.object.EncryptedObject.write.Goals as goal

pub returns-in-Ok-clause-again : goal.returns-in-Ok-clause-again
returns-in-Ok-clause-again c = read_back c.from_vec.result c.args.self.now (c.from_vec.ensures ∙ c.in-Ok.ensures.canonical) c.requires c.in-Ok.ensures.kept
