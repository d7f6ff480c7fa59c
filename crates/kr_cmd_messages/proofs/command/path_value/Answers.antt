use Rattle.kr_cmd_messages.proofs.Asked.{path_fits}
use Rattle.kr_cmd_messages.proofs.command.path_value.Goals as goal

pub returns-clause-short : goal.returns-clause-short
returns-clause-short c = path_fits c.requires c.value.result (λ p. p.now) c.value.ensures

pub returns-clause-value : goal.returns-clause-value
returns-clause-value c = c.value.ensures
