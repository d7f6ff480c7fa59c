-- `read_object`: an object's data are within its bytes.
use Rattle.kr_provider.proofs.ObjectSources.{data_within}
use Rattle.kr_provider.proofs.sources.read_object.Goals as goal

pub returns-in-Ok-clause-fits : goal.returns-in-Ok-clause-fits
returns-in-Ok-clause-fits c = data_within c.args.body.now c.in-Ok.object c.in-Ok.ensures
