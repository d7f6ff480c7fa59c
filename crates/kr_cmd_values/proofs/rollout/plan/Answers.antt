use Rattle.std.proofs.Common.{◌∙◌, sym, subst}
use Rattle.kr_config.specs.Kept.{rows_of}
use Rattle.kr_cmd_steps.specs.Environment.{with_world}
use Rattle.kr_cmd_steps.specs.Phases.{configuration, show}
use Rattle.kr_cmd_steps.specs.PlanLines.{ShowsPlan}
use Rattle.kr_cmd_steps.specs.Steps.{and_then}
use Rattle.kr_cmd_steps.specs.inner.Phases.{Does}
use Rattle.kr_cmd_steps.proofs.RunTo.{by_bytes, goes_on, stops, shows}
use Rattle.kr_cmd_values.proofs.rollout.plan.Goals as goal

pub returns-in-Err-clause-does : goal.returns-in-Err-clause-does
returns-in-Err-clause-does g c a =
    let words = c.args.words.now in
    stops (configuration words.from)
    (λ from. and_then (configuration words.to) (λ to. show (ShowsPlan words from to)))
    c.in-Err.stop (by_bytes configuration c.as_str.ensures (c.in-Err.ensures.does a))

pub returns-in-Err-configure-clause-does : goal.returns-in-Err-configure-clause-does
returns-in-Err-configure-clause-does g c a =
    let words = c.args.words.now in
    let from = rows_of c.in-Ok.settings.entries.0 in
    goes_on (configuration words.from)
    (λ from. and_then (configuration words.to) (λ to. show (ShowsPlan words from to))) from
    (by_bytes configuration c.as_str.ensures (c.in-Ok.ensures.does a))
    (stops (configuration words.to) (λ to. show (ShowsPlan words from to)) c.in-Err-configure.stop
    (by_bytes configuration c.as_str-2.ensures (c.in-Err-configure.ensures.does a)))

pub returns-clause-does : goal.returns-clause-does
returns-clause-does g c a =
    let words = c.args.words.now in
    let from = rows_of c.in-Ok.settings.entries.0 in
    let to = rows_of c.in-Ok-configure.settings.entries.0 in
    let now = with_world (g.W.World.told c.configure-2.new.world) a in
    goes_on (configuration words.from)
    (λ from. and_then (configuration words.to) (λ to. show (ShowsPlan words from to))) from
    (by_bytes configuration c.as_str.ensures (c.in-Ok.ensures.does a))
    (goes_on (configuration words.to) (λ to. show (ShowsPlan words from to)) to
    (by_bytes configuration c.as_str-2.ensures (c.in-Ok-configure.ensures.does a))
    (subst (λ r. Does (show (ShowsPlan words from to)) now now r) (sym c.show.ensures)
    (shows (ShowsPlan words from to) now c.planned-made.result c.planned-made.ensures)))

pub returns-in-Err-clause-links : goal.returns-in-Err-clause-links
returns-in-Err-clause-links g c = c.in-Err.ensures.links

pub returns-in-Err-configure-clause-links : goal.returns-in-Err-configure-clause-links
returns-in-Err-configure-clause-links g c =
    c.in-Err-configure.ensures.links ∙ c.in-Ok.ensures.links

pub returns-clause-links : goal.returns-clause-links
returns-clause-links g c = c.in-Ok-configure.ensures.links ∙ c.in-Ok.ensures.links
