use Rattle.kr_kms.specs.declared.world.WorldCall.TheVariants.{File}
use Rattle.kr_cmd_steps.proofs.RunTo.{asked_for}
use Rattle.kr_cmd_steps.proofs.Counting.{read_counted}
use Rattle.kr_cmd_steps.proofs.phases.load_settings.Goals as goal

pub returns-clause-asked : goal.returns-clause-asked
returns-clause-asked g c =
    asked_for (g.W.World.told c.args.world.now).asked
    (File c.args.name.now) c.read_settings-settings.result c.in-Ok-load.ensures.asked

pub returns-clause-once : goal.returns-clause-once
returns-clause-once g c = read_counted _ _ _ c.read_settings-settings.result
    c.in-Ok-load.ensures.once c.read_settings-settings.ensures
