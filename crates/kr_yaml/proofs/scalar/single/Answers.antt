use Rattle.std.specs.String.{string_bytes}
use Rattle.kr_yaml.proofs.Quotes.{single_refused}
use Rattle.kr_yaml.proofs.scalar.single.Goals as goal

pub returns-in_default : goal.returns-in_default
returns-in_default c = single_refused c.args.text.now (string_bytes c.pieces.word) c.pieces.rest.now
    c.split_at_stop.result.0.now c.split_at_stop.result.1.now
    c.pieces.invariant.1 c.split_at_stop.ensures.front c.split_at_stop.ensures.rest
    c.split_at_stop.ensures.there c.in_default.ensures
