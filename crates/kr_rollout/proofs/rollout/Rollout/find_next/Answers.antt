use Rattle.std.proofs.Common.{refl}
use Rattle.kr_rollout.specs.declared.event.Event.TheVariants as event
use Rattle.kr_rollout.proofs.Serving.{next_serves}
use Rattle.kr_rollout.proofs.Storing.{seen}
use Rattle.kr_rollout.proofs.rollout.Rollout.find_next.Goals as goal

pub returns : goal.returns
returns g c =
    seen (event.After c.args.path) refl c.tell_found.ensures.answer c.tell_found.ensures.line
    (next_serves c.args.seat c.self.invariant.0 c.self.view_is c.requires.seat_in c.as_str.ensures
    c.successor-found.result c.requires.may c.successor-found.ensures.next)
