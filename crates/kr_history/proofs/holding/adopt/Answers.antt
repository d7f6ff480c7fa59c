-- `adopt`: what was adopted is held, and a bench may adopt it.
use Rattle.std.proofs.Common.{[]}
use Rattle.kr_rollout.specs.declared.event.Event.TheVariants as event
use Rattle.kr_history.proofs.KeptByEvents.{keeps_adopt}
use Rattle.kr_history.proofs.AdoptedLetGo.{adopted_idle, adopted_known, adopts}
use Rattle.kr_history.proofs.PartsAdd.{entry_within, same_within}
use Rattle.kr_history.proofs.holding.adopt.Goals as goal

pub returns-in-Ok-clause-adopts : goal.returns-in-Ok-clause-adopts
returns-in-Ok-clause-adopts g c = adopts (g.A.Acts.caller c.args.acts.now)
    (g.A.Acts.caller c.act.new.self) c.args.replica c.in-Ok.answer c.adopted.result
    c.in-Ok.ensures.acted c.adopted.ensures

pub returns-in-Ok-clause-known : goal.returns-in-Ok-clause-known
returns-in-Ok-clause-known g c = adopted_known (g.A.Acts.caller c.args.acts.now)
    (g.A.Acts.caller c.act.new.self) c.args.replica c.in-Ok.answer c.adopted.result
    c.known.ensures c.in-Ok.ensures.acted c.adopted.ensures

pub returns-in-Ok-clause-honest : goal.returns-in-Ok-clause-honest
returns-in-Ok-clause-honest g c = keeps_adopt (g.A.Acts.caller c.args.acts.now)
    (g.A.Acts.caller c.act.new.self) c.args.replica c.in-Ok.answer c.in-Ok.ensures.acted

pub returns-in-Ok-clause-idle : goal.returns-in-Ok-clause-idle
returns-in-Ok-clause-idle g c = adopted_idle (g.A.Acts.caller c.args.acts.now)
    (g.A.Acts.caller c.act.new.self) c.args.replica c.in-Ok.answer c.adopted.result
    c.in-Ok.ensures.acted c.adopted.ensures c.requires.idle

pub returns-in-Ok-clause-adds : goal.returns-in-Ok-clause-adds
returns-in-Ok-clause-adds g c = entry_within (g.A.Acts.caller c.args.acts.now)
    (g.A.Acts.caller c.act.new.self) (event.Adopt c.args.replica) c.in-Ok.answer
    c.in-Ok.ensures.acted

pub returns-in-Err-clause-adds : goal.returns-in-Err-clause-adds
returns-in-Err-clause-adds g c = same_within 1 0 [] (g.A.Acts.caller c.args.acts.now)
    (g.A.Acts.caller c.act.new.self) c.in-Err.ensures.nothing
