use Rattle.kr_rollout.specs.declared.event.Event.TheVariants as event
use Rattle.kr_rollout.proofs.Serving.{fetch_serves}
use Rattle.kr_rollout.proofs.Storing.{seen}
use Rattle.std.proofs.Common.{refl}
use Rattle.kr_rollout.proofs.rollout.Rollout.fetch.Goals as goal

pub returns : goal.returns
returns g c =
    seen (event.Fetch c.args.path) refl c.tell_found.ensures.answer c.tell_found.ensures.line
    (fetch_serves c.args.seat c.self.invariant.0 c.self.view_is c.requires.seat_in c.as_str.ensures
    c.get-found.result c.requires.may c.get-found.ensures.live)
