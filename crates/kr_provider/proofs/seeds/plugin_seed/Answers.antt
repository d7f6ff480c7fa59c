-- `plugin_seed`: the seed at the place is found.
use Rattle.std.proofs.Common.{sym}
use Rattle.std.specs.Str.{bytes_eq}
use Rattle.kr_kms.specs.declared.seeds.SeedRow.{SeedRow}
use Rattle.kr_kms.proofs.Lent.{found_at, no_place}
use Rattle.kr_provider.proofs.seeds.plugin_seed.Goals as goal

pub returns-in-Some : goal.returns-in-Some
returns-in-Some c = found_at (λ (row : SeedRow). bytes_eq row.name c.args.name.now) c.args.seeds.now
    c.in-Some.at c.index-seeds-at.result (sym c.in-Some.ensures) c.index-seeds-at.is

pub returns-in-None : goal.returns-in-None
returns-in-None c = no_place (λ (row : SeedRow). bytes_eq row.name c.args.name.now) c.args.seeds.now
    (sym c.in-None.ensures)
