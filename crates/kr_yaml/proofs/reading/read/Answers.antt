use Rattle.kr_yaml.proofs.TextRead.{reads_text, only_text, none_text}
use Rattle.kr_yaml.proofs.reading.read.Goals as goal

pub returns : goal.returns
returns c = record {
  reads = reads_text c.args.text.now c.read_tokens.result c.read_tokens.ensures.reads;
  only = only_text c.args.text.now c.read_tokens.result c.read_tokens.ensures.only;
  none = none_text c.args.text.now c.read_tokens.result c.read_tokens.ensures.none;
  tokens = c.read_tokens.ensures.reads;
}
