use Rattle.kr_yaml.specs.Texts.{text_tokens}
use Rattle.kr_yaml.proofs.Following.{read_made, reads_only, broken_none}
use Rattle.kr_yaml.proofs.reading.read_tokens.Goals as goal

pub returns-in-Ok : goal.returns-in-Ok
unfolding text_tokens
returns-in-Ok c =
    let made = read_made (text_tokens c.args.text.now) c.in_ok-progress.progress
    c.in-Going.standing c.in-Ok.tree c.in_ok-progress.ensures c.in-Going.is
    c.in-Ok.ensures.tree in
    record { reads = made; only = reads_only (text_tokens c.args.text.now) c.in-Ok.tree made; none = tt }

pub returns-in-Broken-clause-none : goal.returns-in-Broken-clause-none
unfolding text_tokens
returns-in-Broken-clause-none c =
    broken_none (text_tokens c.args.text.now) c.in_ok-progress.progress c.in-Broken.why
    c.in_ok-progress.ensures c.in-Broken.is
