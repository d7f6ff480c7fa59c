-- What the tactic leaves open of `read_yaml_text`.
use Rattle.std.proofs.Common.{rules}
use Rattle.kr_config.proofs.Meant.{yaml_walked, yaml_broken}
use Rattle.kr_config.proofs.reading.read_yaml_text.Goals as goal

pub returns-in_err-value : goal.returns-in_err-value
returns-in_err-value c = search (rules, yaml_broken)

pub returns : goal.returns
returns c = search (rules, yaml_walked)
