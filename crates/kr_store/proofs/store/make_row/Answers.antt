-- Answers of make_row.
use Rattle.kr_store.proofs.store.make_row.Goals as goal

pub returns-clause-rule : goal.returns-clause-rule
returns-clause-rule c = c.in_ok-row.ensures.rule c.args.format c.requires.change
