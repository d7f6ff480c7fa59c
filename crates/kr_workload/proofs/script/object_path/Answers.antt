-- `object_path`: as it is formatted.
use Rattle.std.proofs.Common.{[], ◌∷◌, ◌∙◌, codes}
use Rattle.std.specs.Prelude.{decimal}
use Rattle.kr_workload.proofs.Joining.{joined}
use Rattle.kr_workload.proofs.script.object_path.Goals as goal

pub returns : goal.returns
returns c = c.from_string.ensures ∙ c.in_ok-path.ensures.ok
    ∙ joined (codes "/registry/secrets/gen/w")
    (decimal c.args.worker ∷ (codes "-" ∷ (decimal c.args.number ∷ [])))
