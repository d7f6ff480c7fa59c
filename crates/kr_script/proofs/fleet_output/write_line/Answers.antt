-- What the tactic leaves open of `write_line`.
use Rattle.kr_script.proofs.Spoken.{nothing_wrote, wrote_as}
use Rattle.kr_script.proofs.fleet_output.write_line.Goals as goal

pub returns-in-Ok : goal.returns-in-Ok
returns-in-Ok g c = wrote_as c.in-Ok.ensures c.put_text.ensures

pub returns-in-Err : goal.returns-in-Err
returns-in-Err g c = nothing_wrote
