use Rattle.std.proofs.Common.{◌≡◌, Ok, sym, subst}
use Rattle.kr_config.specs.Kept.{rows_of}
use Rattle.kr_cmd_steps.specs.Environment.{with_world}
use Rattle.kr_cmd_steps.specs.Check.{listing}
use Rattle.kr_cmd_steps.specs.Phases.{configuration, show}
use Rattle.kr_cmd_steps.specs.inner.Phases.{Does}
use Rattle.kr_cmd_steps.proofs.RunTo.{goes_on, stops, shows}
use Rattle.kr_cmd_values.proofs.check.check.Goals as goal

pub returns-in-Err-clause-does : goal.returns-in-Err-clause-does
returns-in-Err-clause-does g c a = stops (configuration _) _ c.in-Err.stop (c.in-Err.ensures.does a)

pub returns-clause-does : goal.returns-clause-does
returns-clause-does g c a =
    let rows = rows_of c.in-Ok.settings.entries.0 in
    let now = with_world (g.W.World.told c.configure.new.world) a in
    goes_on (configuration _) (λ rows. show (λ shown. shown ≡ Ok (listing rows c.args.resource.now)))
    rows (c.in-Ok.ensures.does a)
    (subst (λ r. Does (show (λ shown. shown ≡ Ok (listing rows c.args.resource.now))) now now r)
    (sym c.show.ensures) (shows _ now c.listing.result c.listing.ensures))

pub returns-in-Err-clause-links : goal.returns-in-Err-clause-links
returns-in-Err-clause-links g c = c.in-Err.ensures.links

pub returns-clause-links : goal.returns-clause-links
returns-clause-links g c = c.in-Ok.ensures.links
