-- `summary_text`: as it is formatted.
use Rattle.std.proofs.Common.{[], ◌∷◌, ◌++◌, ◌∙◌, ap, codes}
use Rattle.std.specs.Prelude.{decimal}
use Rattle.std.specs.String.{string_bytes}
use Rattle.kr_workload.proofs.Joining.{joined}
use Rattle.kr_workload.proofs.summary.summary_text.Goals as goal

pub returns : goal.returns
returns c = c.in_ok-format.ensures.ok
    ∙ joined (codes "gen ") (decimal c.args.seed ∷ (codes " " ∷ (decimal c.args.size
    ∷ (codes "\nputs " ∷ (decimal c.args.puts ∷ (codes "\ngets " ∷ (decimal c.args.gets
    ∷ (codes "\ndigest " ∷ (string_bytes c.in_ok-hex.hex ∷ (codes "\n" ∷ []))))))))))
    ∙ ap (λ hex. codes "gen " ++ decimal c.args.seed ++ codes " " ++ decimal c.args.size
    ++ codes "\nputs " ++ decimal c.args.puts ++ codes "\ngets " ++ decimal c.args.gets
    ++ codes "\ndigest " ++ hex ++ codes "\n") c.in_ok-hex.ensures
