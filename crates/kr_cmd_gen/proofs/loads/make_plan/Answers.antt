-- `make_plan`: what is known of a load.
use Rattle.std.proofs.Common.{arith}
use Rattle.kr_cmd_gen.proofs.LoadPlans.{load_known, load_plan_is}
use Rattle.kr_cmd_gen.proofs.loads.make_plan.Goals as goal

pub returns-clause-plan : goal.returns-clause-plan
returns-clause-plan c = load_plan_is c.args.words.now (record {
  script = c.in_ok-load.load.script;
  files = c.in_ok-load.load.files;
  programs = c.new.result;
}) c.in_ok-load.ensures.fleet c.in_ok-load.ensures.files c.new.ensures

pub returns-clause-known : goal.returns-clause-known
returns-clause-known c = load_known c.args.words.now (record {
  script = c.in_ok-load.load.script;
  files = c.in_ok-load.load.files;
  programs = c.new.result;
}) c.in_ok-load.ensures.fleet c.in_ok-load.ensures.files c.new.ensures (omega arith)
