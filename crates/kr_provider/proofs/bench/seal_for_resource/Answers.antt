-- `seal_for_resource`: no value is too long.
use Rattle.std.proofs.Common.{sym, subst}
use Rattle.std.specs.Prelude.{All}
use Rattle.kr_kms.specs.Seeds.{IsSeedRow}
use Rattle.kr_provider.proofs.SealedSizes.{few_of}
use Rattle.kr_provider.proofs.bench.seal_for_resource.Goals as goal

pub returns-clause-size : goal.returns-clause-size
returns-clause-size g c = few_of g.D.Dice.left g.D.Dice.count c.seeds.result.now
    c.resource_writer-writer.result.now c.args.path.now c.args.plain c.args.dice.now
    c.seal_value.new.dice c.seal_value.result
    (subst (All IsSeedRow) (sym c.seeds.ensures) c.resource_writer-writer.ensures.rows)
    c.resource_writer-writer.ensures.provider c.seal_value.ensures.sealed
