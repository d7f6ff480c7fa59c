-- `hire_one`: the outfit is in the worker's bench, or comes back.
use Rattle.std.proofs.Common.{ap, ◌∙◌}
use Rattle.kr_cmd_fleet.proofs.crew.hire_one.Goals as goal

pub returns-in-Err-clause-returned : goal.returns-in-Err-clause-returned
returns-in-Err-clause-returned g c = λ i. record {
  links = c.in-Err.ensures.returned.0 i;
  dice = c.in-Err.ensures.returned.1 i;
}

pub returns-in-Err-new-clause-returned : goal.returns-in-Err-new-clause-returned
returns-in-Err-new-clause-returned g c =
    let made = c.in-Err-new.ensures.returned ∙ c.in-Ok.ensures.ok in λ i. record {
      links = (c.close-links.ensures.0 ∙ ap (λ b. b.links) made) i;
      dice = (c.close-links.ensures.1 ∙ ap (λ b. b.dice) made) i;
    }
