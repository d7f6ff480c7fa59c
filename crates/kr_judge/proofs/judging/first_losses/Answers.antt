use Rattle.std.specs.Option.{option_map}
use Rattle.kr_config.specs.Kept.{rows_of}
use Rattle.kr_config.specs.Nexts.{lent_class}
use Rattle.kr_judge.specs.declared.judging.Writer.TheVariants.{Other, New}
use Rattle.kr_judge.proofs.Nearest.{nearest_begin, nearest_more, nearest_end}
use Rattle.kr_judge.proofs.judging.first_losses.Goals as goal

pub loop-class-init : goal.loop-class-init
loop-class-init c = (
  nearest_begin Other c.args.replica (rows_of c.args.settings.now.entries.0) c.args.generations.now.generations,
  nearest_begin New c.args.replica (rows_of c.args.settings.now.entries.0) c.args.generations.now.generations,
)

pub loop-class-preserved : goal.loop-class-preserved
loop-class-preserved c = (
  nearest_more Other c.args.replica (rows_of c.args.settings.now.entries.0) c.args.generations.now.generations (option_map lent_class c.loop-class.after) (lent_class c.in-Some.class) _ _ _ c.loop-class.invariant.0
      c.in-Some.ensures c.earliest_loss-other.ensures c.nearer_loss-dropped.ensures,
  nearest_more New c.args.replica (rows_of c.args.settings.now.entries.0) c.args.generations.now.generations (option_map lent_class c.loop-class.after) (lent_class c.in-Some.class) _ _ _ c.loop-class.invariant.1
      c.in-Some.ensures c.earliest_loss-new.ensures c.nearer_loss-unread.ensures,
)

pub returns-clause-dropped : goal.returns-clause-dropped
returns-clause-dropped c = nearest_end Other c.args.replica (rows_of c.args.settings.now.entries.0) c.args.generations.now.generations (option_map lent_class c.loop-class.after) _ c.loop-class.invariant.0 c.in_default.ensures

pub returns-clause-unread : goal.returns-clause-unread
returns-clause-unread c = nearest_end New c.args.replica (rows_of c.args.settings.now.entries.0) c.args.generations.now.generations (option_map lent_class c.loop-class.after) _ c.loop-class.invariant.1 c.in_default.ensures
