use Rattle.std.proofs.Common.{refl, sym, ◌∙◌}
use Rattle.kr_judge.proofs.Searches.{search_found}
use Rattle.kr_judge.proofs.holding.find_current.Goals as goal

pub returns-then-is_replica_current-clause-found : goal.returns-then-is_replica_current-clause-found
returns-then-is_replica_current-clause-found c = search_found c.args.replica c.args.generations.now c.args.live.now c.loop-number.number-index _ c.index-generations-number.result c.requires
    c.loop-number-test.true refl c.index-generations-number.is (sym c.is_replica_current.ensures ∙ c.if-is_replica_current.true)
