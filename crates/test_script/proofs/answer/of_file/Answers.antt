-- What the tactic leaves open of `of_file`.
use Rattle.std.proofs.Common.{Ok, ap, ◌++◌, ◌∙◌}
use Rattle.kr_script.specs.Fleets.{fleet_of}
use Rattle.test_script.specs.FleetText.{fleet_text}
use Rattle.test_script.proofs.answer.of_file.Goals as goal

pub returns-in_ok-write_script-in-Ok : goal.returns-in_ok-write_script-in-Ok
returns-in_ok-write_script-in-Ok c = (
  Ok (fleet_of c.in-Ok.script),
  c.in-Ok.ensures,
  c.in_ok-write_script-in-Ok.ensures
      ∙ ap (λ l. l ++ fleet_text (fleet_of c.in-Ok.script)) c.new-out.ensures.bytes,
)
