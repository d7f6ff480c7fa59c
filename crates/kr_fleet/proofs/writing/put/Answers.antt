-- `put`: what was sealed is put.
use Rattle.std.proofs.Common.{[], ◌∷◌, subst}
use Rattle.std.specs.Prelude.{IfSome}
use Rattle.kr_provider.specs.Sealing.{IsSealing}
use Rattle.kr_fleet.proofs.Putting.{put_done, put_stays}
use Rattle.kr_fleet.proofs.Single.{some_there}
use Rattle.kr_rollout.specs.declared.line.Did.TheVariants.{Put}
use Rattle.kr_history.proofs.PartsAdd.{nothing_within}
use Rattle.kr_fleet.proofs.writing.put.Goals as goal

pub seal-requires-clause-adopted : goal.seal-requires-clause-adopted
seal-requires-clause-adopted g c = some_there _ _ c.requires.held.adopted

pub seal-requires-clause-path : goal.seal-requires-clause-path
seal-requires-clause-path g c = c.requires.path.1

pub returns-in-Err-clause-puts : goal.returns-in-Err-clause-puts
returns-in-Err-clause-puts g c = put_stays g.D.Dice.left g.D.Dice.count c.args.resource
    c.args.path c.args.plain c.args.bench.now.published (g.A.Acts.caller c.args.acts.now)
    c.args.bench.now.dice c.seal.new.bench.dice c.in-Err.why c.seal_refusal.result
    c.seal_refusal.ensures c.in-Err.ensures.sealed

pub put-requires : goal.put-requires
put-requires g c = record {
  may = (
    c.requires.path,
    c.requires.resource,
    (c.requires.held.number, c.requires.held.p),
    c.requires.held.held,
    subst (λ o. IfSome o
        (λ p. IsSealing p c.args.resource c.args.path c.args.plain c.in-Ok.stored))
        c.requires.held.adopted c.in-Ok.ensures.sealing,
  );
}

pub returns-clause-puts : goal.returns-clause-puts
returns-clause-puts g c = put_done g.D.Dice.left g.D.Dice.count c.args.resource
    c.args.path c.args.plain c.in-Ok.stored c.args.bench.now.published
    (g.A.Acts.caller c.args.acts.now) (g.A.Acts.caller c.put.new.acts)
    c.args.bench.now.dice c.seal.new.bench.dice c.put.result
    c.in-Ok.ensures.sealed c.in-Ok.ensures.sealing c.put.ensures.puts

pub returns-in-Err-clause-adds : goal.returns-in-Err-clause-adds
returns-in-Err-clause-adds g c = nothing_within 1 0
    (Put c.args.path c.args.resource c.args.plain ∷ []) (g.A.Acts.caller c.args.acts.now)
