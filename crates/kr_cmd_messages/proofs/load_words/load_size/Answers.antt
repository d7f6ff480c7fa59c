-- `load_size`: a size within its limit fits.
use Rattle.std.proofs.Common.{codes, arith}
use Rattle.kr_words.specs.Options.{value_of}
use Rattle.kr_cmd_messages.proofs.OneCommand.{number_fits}
use Rattle.kr_cmd_messages.proofs.load_words.load_size.Goals as goal

pub overflow_cast-result : goal.overflow_cast-result
overflow_cast-result c =
    let fits = number_fits (value_of c.args.words.now.options.0 (codes "size")) c.in-Some.size
    c.requires.small c.in-Some.ensures.number in omega (arith, fits)
