use Rattle.std.proofs.Common.{[], ◌∷◌}
use Rattle.kr_config.specs.Kept.{rows_of}
use Rattle.kr_config.specs.Nexts.{lent_class}
use Rattle.kr_judge.proofs.Walks.{AreLost}
use Rattle.kr_judge.proofs.judging.earliest_loss.Given as goal

abbrev pub invariant-loop-number : goal.invariant-loop-number
invariant-loop-number l = AreLost l.writer (lent_class l.class ∷ []) l.replica (rows_of l.settings.entries.0) l.generations.generations l.number-index
