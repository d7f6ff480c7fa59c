-- What the tactic leaves open of `knows`.
use Rattle.std.proofs.Common.{◌∙◌, sym}
use Rattle.std.specs.Str.{bytes_eq}
use Rattle.kr_script.specs.Fleets.{Worker, worker_of}
use Rattle.kr_script.proofs.Lists.{any_map}
use Rattle.kr_script.proofs.head.knows.Goals as goal

pub returns : goal.returns
returns c = c.has.ensures
    ∙ sym (any_map (λ (worker : Worker). bytes_eq worker.name c.args.name.now) worker_of
    c.args.workers.now)
