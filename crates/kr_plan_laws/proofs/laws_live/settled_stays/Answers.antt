use Rattle.kr_plan_laws.proofs.Settling as settling
use Rattle.kr_plan_laws.proofs.Writing as writing
use Rattle.kr_plan_laws.proofs.laws_live.settled_stays.Goals as goal

pub returns : goal.returns
returns c = record {
  writers = settling.writers_stay;
  stays = settling.settled_stays;
  written = writing.writing_settles;
  all = settling.all_become_settled;
}
