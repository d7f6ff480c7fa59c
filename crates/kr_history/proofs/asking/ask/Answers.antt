-- `ask`: one entry is added, or none may be.
use Rattle.kr_history.proofs.AskedEvents.{made_holds, made_keeps, made_nothing, made_within}
use Rattle.kr_history.proofs.asking.ask.Goals as goal

pub returns-clause-nothing : goal.returns-clause-nothing
returns-clause-nothing g c = made_nothing (g.A.Acts.caller c.args.acts.now)
    (g.A.Acts.caller c.act.new.self) c.act.result c.act.ensures.spent c.act.ensures.nothing

pub returns-clause-adds : goal.returns-clause-adds
returns-clause-adds g c = made_within (g.A.Acts.caller c.args.acts.now)
    (g.A.Acts.caller c.act.new.self) c.args.event c.act.result c.act.ensures.acted
    c.act.ensures.nothing

pub returns-clause-honest : goal.returns-clause-honest
returns-clause-honest g c = made_keeps (g.A.Acts.caller c.args.acts.now)
    (g.A.Acts.caller c.act.new.self) c.args.event c.act.result c.act.ensures.acted
    c.act.ensures.nothing

pub returns-clause-holds : goal.returns-clause-holds
returns-clause-holds g c = made_holds (g.A.Acts.caller c.args.acts.now)
    (g.A.Acts.caller c.act.new.self) c.args.event c.act.result c.act.ensures.acted
    c.act.ensures.nothing
