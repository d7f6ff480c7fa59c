-- A draw and a wrap that failed: of the latter the seed was drawn.
use Rattle.std.proofs.Common.{inr, rules, Ok, Err, ap}
use Rattle.kr_base.proofs.Counting.{Rose-later}
use Rattle.kr_base.specs.Walks.{Talk}
use Rattle.kr_kms.specs.declared.plugin.KmsNo.TheVariants as link
use Rattle.kr_kms.specs.inner.Wrapping.{WrapsSeedBy}
use Rattle.kr_kms.proofs.Drawn.{not_drawn}
use Rattle.kr_kms.proofs.Making.{talk_not_told, talk_not_drawn, talk_wrapped}
use Rattle.kr_kms.proofs.seeds.make_seed.Goals as goal

pub returns-in_err-seed-clause-made : goal.returns-in_err-seed-clause-made
returns-in_err-seed-clause-made g c =
    let told = c.in_ok-healthy_key_id.ensures.told in
    let stop = not_drawn g.D.Dice.left g.D.Dice.count
    (g.L.Kms.link c.args.link.now) (g.L.Kms.link c.healthy_key_id.new.link) c.args.dice.now
    c.draw_seed.new.dice c.in_err-seed.field-0.0 (told.0, told.1, told.2)
    c.in_err-seed.ensures.drawn in search (rules, stop)

pub returns-in-Err-Failed-clause-made : goal.returns-in-Err-Failed-clause-made
returns-in-Err-Failed-clause-made g c =
    let told = c.in_ok-healthy_key_id.ensures.told in
    let drawn = c.in_ok-seed.ensures.drawn in (
      Rose-later (g.L.Kms.link c.args.link.now).count (g.L.Kms.link c.healthy_key_id.new.link).count
          (g.L.Kms.link c.wrap_seed.new.link).count c.in_ok-healthy_key_id.ensures.same.later
          (c.in-Err-Failed.ensures.asks.failed (ap Err c.in-Err-Failed.field-0-is)),
      inr ((told.0, told.1, told.2), (c.in_ok-seed.seed, drawn.0, drawn.1, drawn.2)),
    )

pub returns-in-Err-NoMemory-clause-made : goal.returns-in-Err-NoMemory-clause-made
returns-in-Err-NoMemory-clause-made g c =
    let told = c.in_ok-healthy_key_id.ensures.told in
    let drawn = c.in_ok-seed.ensures.drawn in
    inr ((told.0, told.1, told.2), (c.in_ok-seed.seed, drawn.0, drawn.1, drawn.2))

pub returns-in_err-healthy_key_id-clause-asked : goal.returns-in_err-healthy_key_id-clause-asked
returns-in_err-healthy_key_id-clause-asked g c =
    let stop = talk_not_told g.D.Dice.left g.D.Dice.count (g.L.Kms.link c.args.link.now).name
    c.args.dice.now g.L.Kms.step c.args.link.now c.in_err-healthy_key_id.field-0.0
    c.healthy_key_id.new.link c.in_err-healthy_key_id.ensures.asked in search (rules, stop)

pub returns-in_err-seed-clause-asked : goal.returns-in_err-seed-clause-asked
returns-in_err-seed-clause-asked g c =
    let stop = talk_not_drawn g.D.Dice.left g.D.Dice.count (g.L.Kms.link c.args.link.now).name
    c.args.dice.now g.L.Kms.step c.args.link.now _ c.in_err-seed.field-0.0
    c.draw_seed.new.dice c.healthy_key_id.new.link c.in_err-seed.ensures.drawn
    c.in_ok-healthy_key_id.ensures.asked in search (rules, stop)

pub returns-in-Ok-clause-asked : goal.returns-in-Ok-clause-asked
returns-in-Ok-clause-asked g c =
    talk_wrapped g.D.Dice.left g.D.Dice.count (g.L.Kms.link c.args.link.now).name
    c.args.dice.now g.L.Kms.step c.args.link.now _ c.in_ok-seed.seed
    (g.L.Kms.link c.healthy_key_id.new.link).name c.draw_seed.new.dice c.healthy_key_id.new.link
    c.wrap_seed.new.link (Ok c.in-Ok.row) c.in_ok-seed.ensures.drawn
    c.in_ok-healthy_key_id.ensures.same.name c.in_ok-healthy_key_id.ensures.asked c.in-Ok.ensures.asked

pub returns-in-Err-Failed-clause-asked : goal.returns-in-Err-Failed-clause-asked
returns-in-Err-Failed-clause-asked g c =
    let wraps : Talk g.L.Kms.step c.healthy_key_id.new.link c.wrap_seed.new.link (WrapsSeedBy
    (g.L.Kms.link c.healthy_key_id.new.link).name c.in_ok-seed.seed (Err link.Failed)) = search rules in
    talk_wrapped g.D.Dice.left g.D.Dice.count (g.L.Kms.link c.args.link.now).name
    c.args.dice.now g.L.Kms.step c.args.link.now _ c.in_ok-seed.seed
    (g.L.Kms.link c.healthy_key_id.new.link).name c.draw_seed.new.dice c.healthy_key_id.new.link
    c.wrap_seed.new.link (Err link.Failed) c.in_ok-seed.ensures.drawn
    c.in_ok-healthy_key_id.ensures.same.name c.in_ok-healthy_key_id.ensures.asked wraps

pub returns-in-Err-NoMemory-clause-asked : goal.returns-in-Err-NoMemory-clause-asked
returns-in-Err-NoMemory-clause-asked g c =
    let wraps : Talk g.L.Kms.step c.healthy_key_id.new.link c.wrap_seed.new.link (WrapsSeedBy
    (g.L.Kms.link c.healthy_key_id.new.link).name c.in_ok-seed.seed (Err link.NoMemory)) = search rules in
    talk_wrapped g.D.Dice.left g.D.Dice.count (g.L.Kms.link c.args.link.now).name
    c.args.dice.now g.L.Kms.step c.args.link.now _ c.in_ok-seed.seed
    (g.L.Kms.link c.healthy_key_id.new.link).name c.draw_seed.new.dice c.healthy_key_id.new.link
    c.wrap_seed.new.link (Err link.NoMemory) c.in_ok-seed.ensures.drawn
    c.in_ok-healthy_key_id.ensures.same.name c.in_ok-healthy_key_id.ensures.asked wraps
