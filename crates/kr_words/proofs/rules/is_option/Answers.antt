-- What the tactic finds late of `is_option`.
use Rattle.std.proofs.Common.{sym, ◌∙◌}
use Rattle.kr_words.proofs.Commands.{not_named, not_its, its_value}
use Rattle.kr_words.proofs.rules.is_option.Goals as goal

pub returns-in-None : goal.returns-in-None
returns-in-None c = not_named c.args.verb c.args.replicas c.args.option.now c.as_str.ensures
    c.in-None.ensures

pub returns-then-takes : goal.returns-then-takes
returns-then-takes c = its_value c.args.verb c.args.replicas c.args.option.now c.in-Some.name
    (sym c.as_str.ensures ∙ c.in-Some.ensures) c.as_str-then-takes.ensures
    (c.takes.ensures.0 c.if-takes.true) c.is_value.ensures

pub returns-else-takes : goal.returns-else-takes
returns-else-takes c = not_its c.args.verb c.args.replicas c.args.option.now c.in-Some.name
    (sym c.as_str.ensures ∙ c.in-Some.ensures) c.takes.ensures c.if-takes.false
