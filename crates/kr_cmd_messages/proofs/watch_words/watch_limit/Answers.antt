-- `watch_limit`: a limit within its own fits.
use Rattle.std.proofs.Common.{codes, arith}
use Rattle.kr_words.specs.Options.{value_of}
use Rattle.kr_cmd_messages.proofs.OneCommand.{number_fits}
use Rattle.kr_cmd_messages.proofs.watch_words.watch_limit.Goals as goal

pub overflow_cast-result : goal.overflow_cast-result
overflow_cast-result c =
    let fits = number_fits (value_of c.args.words.now.options.0 (codes "limit")) c.in-Some.limit
    c.requires.small c.in-Some.ensures.number in omega (arith, fits)
