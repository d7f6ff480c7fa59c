-- `adopted`: no link is needed.
use Rattle.kr_provider.proofs.Lists.{no_links}
use Rattle.test_rollout.proofs.sealing.adopted.Goals as goal

pub adopt-requires : goal.adopt-requires
adopt-requires c = record { links = no_links _ c.args.published.rows c.requires }
