use Rattle.std.specs.String.{string_bytes}
use Rattle.kr_yaml.proofs.Quotes.{double_refused, double_cut, double_unknown}
use Rattle.kr_yaml.proofs.scalar.double.Goals as goal

pub returns-in_default-strip_mark : goal.returns-in_default-strip_mark
returns-in_default-strip_mark c = double_refused c.args.text.now (string_bytes c.pieces.word)
    c.pieces.rest.now c.split_at_stop.result.0.now c.split_at_stop.result.1.now
    c.pieces.invariant.1 c.split_at_stop.ensures.front c.split_at_stop.ensures.rest
    c.split_at_stop.ensures.there c.in_default.ensures c.in_default-strip_mark.ensures

pub returns-in_default-ascii_first : goal.returns-in_default-ascii_first
returns-in_default-ascii_first c = double_cut c.args.text.now (string_bytes c.pieces.word)
    c.pieces.rest.now c.split_at_stop.result.0.now c.split_at_stop.result.1.now c.in-Some-strip_mark.more.now
    c.pieces.invariant.1 c.split_at_stop.ensures.front c.split_at_stop.ensures.rest
    c.in-Some-strip_mark.ensures c.in_default-ascii_first.ensures

pub returns-in_default-escape : goal.returns-in_default-escape
returns-in_default-escape c = double_unknown c.args.text.now (string_bytes c.pieces.word)
    c.pieces.rest.now c.split_at_stop.result.0.now c.split_at_stop.result.1.now c.in-Some-strip_mark.more.now
    c.in-Some-ascii_first.more.now c.in-Some-ascii_first.byte c.pieces.invariant.1
    c.split_at_stop.ensures.front c.split_at_stop.ensures.rest c.in-Some-strip_mark.ensures
    c.in-Some-ascii_first.ensures c.in_default-escape.ensures.value
