use Rattle.std.proofs.Common.{get_or, refl}
use Rattle.std.specs.Option.{option_map}
use Rattle.kr_config.specs.Kept.{rows_of}
use Rattle.kr_config.specs.Nexts.{lent_class}
use Rattle.kr_judge.proofs.Raw.{raw_begin, raw_more, raw_end}
use Rattle.kr_judge.proofs.class_walk.next_class.Goals as goal

pub loop-number-init : goal.loop-number-init
loop-number-init c = raw_begin (rows_of c.args.settings.now.entries.0)
    c.args.generations.now.generations (option_map lent_class c.args.after)
    (option_map lent_class c.hinted_next_class-next.result) c.hinted_next_class-next.ensures

pub loop-number-preserved : goal.loop-number-preserved
loop-number-preserved c = raw_more (rows_of c.args.settings.now.entries.0)
    c.args.generations.now.generations c.live-number-items.result.now c.loop-number.number-index
    (get_or c.live-number-items.result.now c.loop-number.number-index 0)
    c.get_numbered.result.now c.get-own.result.now (option_map lent_class c.args.after)
    (option_map lent_class c.loop-number.next) (option_map lent_class c.hinted_next_class.result)
    (option_map lent_class c.first_class-next.result) c.loop-number.invariant
    c.live-number-items.ensures c.loop-number-test.true refl c.get_numbered.ensures
    c.get-own.ensures c.hinted_next_class.ensures c.first_class-next.ensures

pub returns : goal.returns
returns c = raw_end (rows_of c.args.settings.now.entries.0) c.args.generations.now.generations
    c.live-number-items.result.now c.loop-number.number-index
    (option_map lent_class c.args.after) (option_map lent_class c.loop-number.next)
    c.loop-number.invariant c.live-number-items.ensures c.loop-number-test.false
