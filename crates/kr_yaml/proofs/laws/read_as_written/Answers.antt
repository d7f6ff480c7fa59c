use Rattle.kr_yaml.proofs.TextRead.{read_as_written}
use Rattle.kr_yaml.proofs.laws.read_as_written.Goals as goal

pub returns : goal.returns
returns c = read_as_written
