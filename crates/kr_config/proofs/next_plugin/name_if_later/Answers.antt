-- What the tactic leaves open of `name_if_later`.
use Rattle.std.proofs.Common.{sym, ap, ◌∙◌}
use Rattle.std.specs.Ordering.{is_lt}
use Rattle.kr_config.specs.Nexts.{name_cmp}
use Rattle.kr_config.proofs.Nexts.{name_next, name_none}
use Rattle.kr_config.proofs.next_plugin.name_if_later.Goals as goal

pub returns-then-comes_earlier : goal.returns-then-comes_earlier
returns-then-comes_earlier c = name_next c.args.name.now c.args.after.now
    (sym (c.comes_earlier.ensures ∙ ap (λ name. is_lt (name_cmp c.args.after.now name))
    c.as_str.ensures) ∙ c.if-comes_earlier.true)

pub returns-else-comes_earlier : goal.returns-else-comes_earlier
returns-else-comes_earlier c = name_none c.args.name.now c.args.after.now
    (sym (c.comes_earlier.ensures ∙ ap (λ name. is_lt (name_cmp c.args.after.now name))
    c.as_str.ensures) ∙ c.if-comes_earlier.false)
