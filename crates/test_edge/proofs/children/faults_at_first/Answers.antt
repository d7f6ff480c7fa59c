-- The link that goes back is the one that is out.
use Rattle.kr_kms.proofs.LentOut.{link_is_out}
use Rattle.test_edge.proofs.children.faults_at_first.Goals as goal

pub back_link-requires : goal.back_link-requires
back_link-requires g c = link_is_out _ c.in-Ok.ensures.ok c.in-Ok.ensures.link c.faults_of_a_call-faults.ensures
