-- `seal_value`: the provider is the one that was matched.
use Rattle.std.proofs.Common.{sym, subst}
use Rattle.std.specs.Str.{bytes_eq}
use Rattle.kr_config.specs.declared.who.Who.{Who}
use Rattle.kr_kms.specs.Seeds.{IsSeedRow}
use Rattle.kr_kms.specs.declared.seeds.SeedRow.{SeedRow}
use Rattle.kr_provider.specs.Sealing.{Seals}
use Rattle.kr_provider.proofs.SealedSizes.{found, of_all}
use Rattle.kr_provider.proofs.sealing.seal_value.Goals as goal

pub returns-in-Aescbc-clause-sealed : goal.returns-in-Aescbc-clause-sealed
returns-in-Aescbc-clause-sealed g c =
    let P : Who → Type 0 = λ who. Seals g.D.Dice.left g.D.Dice.count c.args.seeds.now who
    c.args.path.now c.args.plain c.args.dice.now c.by_aescbc.new.dice c.by_aescbc.result in
    subst P (sym c.in-Aescbc.is) (c.by_aescbc.ensures.sealed c.args.seeds.now c.args.path.now)

pub returns-in-Aesgcm-clause-sealed : goal.returns-in-Aesgcm-clause-sealed
returns-in-Aesgcm-clause-sealed g c =
    let P : Who → Type 0 = λ who. Seals g.D.Dice.left g.D.Dice.count c.args.seeds.now who
    c.args.path.now c.args.plain c.args.dice.now c.by_aesgcm.new.dice c.by_aesgcm.result in
    subst P (sym c.in-Aesgcm.is) (c.by_aesgcm.ensures.sealed c.args.seeds.now)

pub by_seed-requires-clause-row : goal.by_seed-requires-clause-row
by_seed-requires-clause-row g c = of_all IsSeedRow c.args.seeds.now c.in-Some.row.now c.requires.rows
    (found (λ (row : SeedRow). bytes_eq row.name c.as_str.result.now) c.args.seeds.now
    c.in-Some.row.now c.in-Some.ensures).1
