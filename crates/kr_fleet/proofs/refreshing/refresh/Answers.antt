-- `refresh`: its stages, one behind another.
use Rattle.std.proofs.Common.{[], ap, arith, inl, refl, subst, sym}
use Rattle.kr_base.proofs.Walks.{talk_none}
use Rattle.kr_provider.specs.AskedLinks.{Among}
use Rattle.kr_provider.specs.Names.{HasLinks, names_of}
use Rattle.kr_provider.specs.Publication.{Publication}
use Rattle.kr_rollout.specs.declared.answer.Answer.TheVariants as answer
use Rattle.kr_rollout.specs.declared.event.Event.TheVariants as event
use Rattle.kr_rollout.specs.declared.opening.Opening.{Opening}
use Rattle.kr_rollout.specs.Openings.{NamesAmong}
use Rattle.kr_provider.proofs.AskedLists.{asked_none}
use Rattle.kr_fleet.specs.LoadCalls.{plugin_names}
use Rattle.kr_history.proofs.AskedReaders.{asked_all}
use Rattle.kr_history.proofs.Nexts.{opening_is, serves}
use Rattle.kr_fleet.proofs.RenewTalks.{refresh_talk}
use Rattle.kr_fleet.proofs.Spending.{adopted_room}
use Rattle.kr_history.proofs.PartsAdd.{held_within, within_more}
use Rattle.kr_provider.specs.BenchKeys.{adoption_of}
use Rattle.kr_fleet.proofs.refreshing.refresh.Goals as goal

pub returns-in-Err-clause-asked : goal.returns-in-Err-clause-asked
returns-in-Err-clause-asked g c = asked_none g.L.Kms.link
    (names_of g.L.Kms.link c.args.bench.now.links) c.args.bench.now.links

pub renew-done-requires-clause-names : goal.renew-done-requires-clause-names
renew-done-requires-clause-names g c =
    let o = opening_is (g.A.Acts.caller c.args.acts.now) (g.A.Acts.caller c.adopt.new.acts)
    (event.Adopt c.args.replica) (answer.Adopted c.in-Ok.held.0 c.in-Ok.held.1)
    c.in-Ok.ensures.adopts in
    subst (λ (o : Opening). NamesAmong o.names c.get.result.now.rows) (sym o)
    (subst (λ (p : Publication). NamesAmong (g.A.Acts.caller c.args.acts.now).opening.names p.rows)
    (sym c.get.ensures) c.in-Ok.ensures.known.0.1)

pub renew-done-requires-clause-room : goal.renew-done-requires-clause-room
renew-done-requires-clause-room g c = adopted_room (g.A.Acts.caller c.args.acts.now)
    (g.A.Acts.caller c.adopt.new.acts) c.args.replica
    (answer.Adopted c.in-Ok.held.0 c.in-Ok.held.1) c.in-Ok.ensures.adopts c.requires.room

pub renew-done-requires-clause-links : goal.renew-done-requires-clause-links
renew-done-requires-clause-links g c =
    subst (λ (p : Publication). HasLinks (names_of g.L.Kms.link c.args.bench.now.links) p.rows)
    (sym c.get.ensures) (serves (g.A.Acts.caller c.args.acts.now).opening.names
    (names_of g.L.Kms.link c.args.bench.now.links) c.in-Ok.held.1.rows c.requires.links
    c.in-Ok.ensures.known.0.1)

pub returns-clause-asked : goal.returns-clause-asked
returns-clause-asked g c = asked_all g.L.Kms.link (plugin_names c.get.result.now.seeds)
    c.args.bench.now.links c.renew-done.new.bench.links c.renew-done.ensures.asked

pub returns-in-Err-clause-adds : goal.returns-in-Err-clause-adds
returns-in-Err-clause-adds g c = within_more 1 3 0 1 [] (g.A.Acts.caller c.args.acts.now)
    (g.A.Acts.caller c.adopt.new.acts) (omega arith) (omega arith) c.in-Err.ensures.adds

pub returns-clause-adds : goal.returns-clause-adds
returns-clause-adds g c = held_within 1 [] (g.A.Acts.caller c.args.acts.now)
    (g.A.Acts.caller c.adopt.new.acts) (g.A.Acts.caller c.renew-done.new.acts)
    (g.A.Acts.caller c.let_go.new.acts) c.in-Ok.ensures.adds c.renew-done.ensures.adds
    c.let_go.ensures.adds

pub returns-in-Err-clause-exchanged : goal.returns-in-Err-clause-exchanged
returns-in-Err-clause-exchanged g c = talk_none (Among g.L.Kms.step) _ c.args.bench.now.links
    (inl (c.in-Err.ensures.adopts, (refl, refl)))

pub returns-clause-exchanged : goal.returns-clause-exchanged
returns-clause-exchanged g c = refresh_talk (Among g.L.Kms.step) g.D.Dice.left g.D.Dice.count
    c.args.replica (g.A.Acts.caller c.args.acts.now) (g.A.Acts.caller c.adopt.new.acts)
    (g.A.Acts.caller c.renew-done.new.acts) (g.A.Acts.caller c.let_go.new.acts)
    c.args.bench.now.links c.renew-done.new.bench.links c.args.bench.now.dice
    c.renew-done.new.bench.dice c.in-Ok.held c.get.result.now c.renew-done.result
    c.let_go.result c.get.ensures c.in-Ok.ensures.adopts c.renew-done.ensures.exchanged
    c.let_go.ensures.lets_go

pub returns-in-Err-clause-keys : goal.returns-in-Err-clause-keys
returns-in-Err-clause-keys g c = refl

pub returns-clause-keys : goal.returns-clause-keys
returns-clause-keys g c = ap adoption_of c.renew-done.ensures.kept
