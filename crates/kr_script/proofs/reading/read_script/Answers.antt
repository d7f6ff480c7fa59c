-- What the tactic leaves open of `read_script`.
use Rattle.kr_script.proofs.Meant.{reads}
use Rattle.kr_script.proofs.reading.read_script.Goals as goal

pub returns : goal.returns
returns c = reads c.args.bytes.now c.read_lines.result c.read_lines.ensures
