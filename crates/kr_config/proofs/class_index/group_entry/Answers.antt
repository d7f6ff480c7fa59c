-- What the tactic leaves open of `group_entry`.
use Rattle.std.proofs.Common.{sym, ◌∙◌}
use Rattle.kr_config.specs.declared.class.Class.TheVariants.{Group, Rest}
use Rattle.kr_config.proofs.ClassIndexes.{listed, group_to_rest}
use Rattle.kr_config.proofs.class_index.group_entry.Goals as goal

pub returns-in-Some : goal.returns-in-Some
returns-in-Some c = λ rows indexed.
    listed rows c.args.index.now (Group c.args.group.now) c.in-Some.entry indexed
    c.in-Some.ensures.some

pub returns-in-None : goal.returns-in-None
returns-in-None c = λ rows indexed.
    listed rows c.args.index.now Rest c.rest_entry.result indexed c.rest_entry.ensures
    ∙ sym (group_to_rest rows c.args.index.now c.args.group.now indexed c.in-None.ensures.none)
