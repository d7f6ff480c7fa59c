-- What the tactic finds late of `is_plugin`.
use Rattle.kr_words.proofs.Commands.{is_plugin, not_plugin}
use Rattle.kr_words.proofs.rules.is_plugin.Goals as goal

pub returns-then-name_ok : goal.returns-then-name_ok
returns-then-name_ok c =
    is_plugin c.args.value.now c.in-Some.ensures c.name_ok.ensures.rule c.if-name_ok.true c.is_empty.ensures

pub returns-else-name_ok : goal.returns-else-name_ok
returns-else-name_ok c = not_plugin c.args.value.now c.in-Some.ensures c.name_ok.ensures.rule c.if-name_ok.false
