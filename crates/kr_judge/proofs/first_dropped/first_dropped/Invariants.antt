use Rattle.std.specs.Option.{option_map}
use Rattle.kr_config.specs.Kept.{rows_of}
use Rattle.kr_judge.proofs.Earliest.{AreEarliest}
use Rattle.kr_judge.proofs.first_dropped.first_dropped.Given as goal

abbrev pub invariant-loop-pair : goal.invariant-loop-pair
invariant-loop-pair l = AreEarliest (rows_of l.settings.entries.0) l.pairs l.pair-index (option_map (λ lost. (lost.0.now, lost.1.now)) l.best)
