use Rattle.kr_cmd_steps.specs.Check.{provider_text}
use Rattle.kr_cmd_values.proofs.Listings.{tail_all}
use Rattle.kr_cmd_values.proofs.listing.add_providers.Goals as goal

pub returns : goal.returns
returns c = tail_all provider_text c.args.text.now.items c.in-Some.first.now c.in-Some.rest.now
    c.args.providers.now c.loop-who.who-index c.loop-who-test.false c.loop-who.invariant
    c.in_ok-add_provider.ensures c.in-Some.ensures.cases.0
