-- What the tactic leaves open of `group_ok`.
use Rattle.std.proofs.Common.{◌+◌, ◌&&◌, ◌||◌, nat_le, length, sym, ap, ◌∙◌, arith}
use Rattle.std.proofs.lemmas.Bool.{le-leb, lt-leb}
use Rattle.kr_base.specs.Limits.{name_limit}
use Rattle.kr_base.specs.Rules.{is_resource}
use Rattle.kr_config.proofs.read_pattern.group_ok.Goals as goal

pub returns-then-group : goal.returns-then-group
returns-then-group c =
    let long = length c.args.group.now + 2 in
    let fits = le-leb long name_limit (let h = c.if-group.true in omega (arith, h)) in
    c.resource_ok.ensures.test
    ∙ ap (λ b. b && is_resource c.args.group.now) (sym fits)
    ∙ ap (λ b. b || (nat_le long name_limit && is_resource c.args.group.now))
    (sym c.if-is_empty.false ∙ c.is_empty.ensures)

pub returns-else-group : goal.returns-else-group
returns-else-group c =
    let long = length c.args.group.now + 2 in
    let exceeds = lt-leb long name_limit (let h = c.if-group.false in omega (arith, h)) in
    lt-leb (length c.args.group.now) 251 c.if-group.false
    ∙ ap (λ b. b && is_resource c.args.group.now) (sym exceeds)
    ∙ ap (λ b. b || (nat_le long name_limit && is_resource c.args.group.now))
    (sym c.if-is_empty.false ∙ c.is_empty.ensures)
