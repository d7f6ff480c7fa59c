-- `configuration_files`: each configuration keeps the rules.
use Rattle.std.proofs.Common.{subst, sym}
use Rattle.std.specs.Prelude.{IsTrue}
use Rattle.kr_config.specs.Kept.{keeps}
use Rattle.kr_workload.specs.Loads.{of_secrets}
use Rattle.kr_workload.proofs.Keeping.{keeps_both, keeps_one, keeps_turned}
use Rattle.kr_workload.proofs.configurations.configuration_files.Goals as goal

pub add_file-requires : goal.add_file-requires
add_file-requires c = subst (λ providers. IsTrue (keeps (of_secrets providers)))
    (sym c.in_ok-one.ensures) (keeps_one c.args.g1.now c.requires.g1)

pub add_file-requires-2 : goal.add_file-requires-2
add_file-requires-2 c = subst (λ providers. IsTrue (keeps (of_secrets providers)))
    (sym c.in_ok-both.ensures)
    (keeps_both c.args.g1.now c.args.g2.now c.requires.g1 c.requires.g2)

pub add_file-requires-3 : goal.add_file-requires-3
add_file-requires-3 c = subst (λ providers. IsTrue (keeps (of_secrets providers)))
    (sym c.in_ok-turned.ensures)
    (keeps_turned c.args.g2.now c.args.g1.now c.requires.g2 c.requires.g1)
