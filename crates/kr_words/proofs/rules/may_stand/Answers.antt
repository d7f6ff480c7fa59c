-- What the tactic leaves open of `may_stand`.
use Rattle.std.proofs.Common.{◌∙◌, ap}
use Rattle.kr_words.specs.Options.{count_options}
use Rattle.kr_words.specs.Names.{IsRepeatable}
use Rattle.kr_words.proofs.Commands.{or_few}
use Rattle.kr_words.proofs.rules.may_stand.Goals as goal

pub returns-else-may_repeat : goal.returns-else-may_repeat
returns-else-may_repeat c = or_few (IsRepeatable c.args.name) c.may_repeat.result c.count_options.result
    _ c.may_repeat.ensures c.if-may_repeat.false
    (c.count_options.ensures ∙ ap (count_options c.args.options.now) c.text.ensures)
