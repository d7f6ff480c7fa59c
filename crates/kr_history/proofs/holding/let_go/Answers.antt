-- `let_go`: what was done is the answer.
use Rattle.std.proofs.Common.{[], refl}
use Rattle.kr_rollout.specs.declared.event.Event.TheVariants as event
use Rattle.kr_history.proofs.KeptByEvents.{keeps_let_go}
use Rattle.kr_history.proofs.AdoptedLetGo.{let_go_idle, lets_go, lets_nothing_go}
use Rattle.kr_history.proofs.PartsAdd.{entry_within, same_within}
use Rattle.kr_history.proofs.holding.let_go.Goals as goal

pub returns-in-Ok-clause-lets_go : goal.returns-in-Ok-clause-lets_go
returns-in-Ok-clause-lets_go g c = lets_go (g.A.Acts.caller c.args.acts.now)
    (g.A.Acts.caller c.act.new.self) c.in-Ok._answer c.args.done c.in-Ok.ensures.acted

pub returns-in-Ok-clause-honest : goal.returns-in-Ok-clause-honest
returns-in-Ok-clause-honest g c = keeps_let_go (g.A.Acts.caller c.args.acts.now)
    (g.A.Acts.caller c.act.new.self) c.in-Ok._answer c.in-Ok.ensures.acted

pub returns-in-Ok-clause-idle : goal.returns-in-Ok-clause-idle
returns-in-Ok-clause-idle g c = let_go_idle (g.A.Acts.caller c.args.acts.now)
    (g.A.Acts.caller c.act.new.self) c.in-Ok._answer c.args.done c.in-Ok.ensures.acted

pub returns-in-Err-clause-lets_go : goal.returns-in-Err-clause-lets_go
returns-in-Err-clause-lets_go g c = lets_nothing_go (g.A.Acts.caller c.args.acts.now)
    (g.A.Acts.caller c.act.new.self) c.args.done
    (record { spent = c.in-Err.ensures.spent.0 refl; same = c.in-Err.ensures.nothing })

pub returns-in-Ok-clause-adds : goal.returns-in-Ok-clause-adds
returns-in-Ok-clause-adds g c = entry_within (g.A.Acts.caller c.args.acts.now)
    (g.A.Acts.caller c.act.new.self) event.LetGo c.in-Ok._answer c.in-Ok.ensures.acted

pub returns-in-Err-clause-adds : goal.returns-in-Err-clause-adds
returns-in-Err-clause-adds g c = same_within 1 0 [] (g.A.Acts.caller c.args.acts.now)
    (g.A.Acts.caller c.act.new.self) c.in-Err.ensures.nothing
