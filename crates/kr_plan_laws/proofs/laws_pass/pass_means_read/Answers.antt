use Rattle.kr_plan_laws.proofs.Passes as passes
use Rattle.kr_plan_laws.proofs.laws_pass.pass_means_read.Goals as goal

pub returns : goal.returns
returns c = record {
  pass = passes.pass_means_read;
  judge = passes.judge_means_read;
  done = passes.done_means_read;
}
