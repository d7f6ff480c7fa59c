-- Where there are too many annotations, there stay too many.
use Rattle.kr_envelope.proofs.Objects.{still_crowded}
use Rattle.kr_envelope.proofs.partial.PartialObject.merge_annotation.Goals as goal

pub returns-then-self : goal.returns-then-self
returns-then-self c raw s = still_crowded c.args.self.now raw c.args.key.now c.args.value.now c.if-self.true s
