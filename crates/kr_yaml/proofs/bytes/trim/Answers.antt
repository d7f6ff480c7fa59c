use Rattle.std.proofs.Common.{◌++◌, sym, ap, ◌∙◌, lit<}
use Rattle.std.proofs.lemmas.Str.{encode_ascii}
use Rattle.kr_yaml.proofs.Behind.{trim_same}
use Rattle.kr_yaml.proofs.bytes.trim.Goals as goal

pub returns : goal.returns
returns c = sym (trim_same c.loop-less.rest.now (λ front e. c.in_default.ensures.cases front (e
    ∙ ap (λ x. front ++ x) (sym (encode_ascii 32 (lit< tt)))))) ∙ c.loop-less.invariant.1
