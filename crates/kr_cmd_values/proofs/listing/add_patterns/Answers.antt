use Rattle.kr_cmd_steps.specs.Check.{spelled_pattern_text}
use Rattle.kr_cmd_values.proofs.Listings.{tail_all}
use Rattle.kr_cmd_values.proofs.listing.add_patterns.Goals as goal

pub returns : goal.returns
returns c = tail_all spelled_pattern_text c.args.text.now.items c.in-Some.first.now c.in-Some.rest.now
    c.args.patterns.now c.loop-pattern.pattern-index c.loop-pattern-test.false
    c.loop-pattern.invariant c.in_ok-add_pattern.ensures c.in-Some.ensures.cases.0
