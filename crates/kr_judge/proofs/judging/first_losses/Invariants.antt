use Rattle.std.proofs.Common.{length}
use Rattle.std.specs.Option.{option_map}
use Rattle.kr_config.specs.Kept.{rows_of}
use Rattle.kr_config.specs.Nexts.{lent_class}
use Rattle.kr_judge.specs.declared.judging.Writer.TheVariants.{Other, New}
use Rattle.kr_judge.specs.Verdicts.{judged_classes}
use Rattle.kr_judge.proofs.Tables.{rest_after}
use Rattle.kr_judge.proofs.Nearest.{AreNearest}
use Rattle.kr_judge.proofs.judging.first_losses.Given as goal

abbrev pub invariant-loop-class : goal.invariant-loop-class
invariant-loop-class l = AreNearest Other l.replica (rows_of l.settings.entries.0) l.generations.generations (option_map lent_class l.after) (option_map (λ lost. (lost.0, lent_class lost.1, lost.2.now)) l.dropped)
    × AreNearest New l.replica (rows_of l.settings.entries.0) l.generations.generations (option_map lent_class l.after) (option_map (λ lost. (lost.0, lent_class lost.1, lost.2.now)) l.unread)

abbrev pub decreases-loop-class : goal.decreases-loop-class
decreases-loop-class l = length (rest_after (option_map lent_class l.after) (judged_classes (rows_of l.settings.entries.0) l.generations.generations))
