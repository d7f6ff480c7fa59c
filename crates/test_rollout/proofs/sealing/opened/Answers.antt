-- `opened`: what a bench without plugins unseals is what the value reads as.
use Rattle.test_rollout.proofs.Benches.{reads}
use Rattle.test_rollout.proofs.sealing.opened.Goals as goal

pub returns-in-Ok : goal.returns-in-Ok
returns-in-Ok g c = reads g.L.Kms.link c.args.resource.now c.args.path.now
    c.args.value.now c.args.bench.now.links c.unseal.new.self.links c.in-Ok.opened
    c.args.bench.now.published c.unseal.result c.in-Ok.is c.unseal.ensures.opened
