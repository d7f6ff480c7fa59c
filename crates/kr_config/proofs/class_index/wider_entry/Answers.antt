-- What the tactic leaves open of `wider_entry`.
use Rattle.std.proofs.Common.{sym, ap, ◌∙◌}
use Rattle.kr_config.specs.declared.class.Class.TheVariants.{Group, Rest}
use Rattle.kr_config.specs.Lists.{class_list}
use Rattle.kr_config.proofs.ClassIndexes.{listed, exact_to_group, group_to_rest}
use Rattle.kr_config.proofs.class_index.wider_entry.Goals as goal

pub returns-in-Exact : goal.returns-in-Exact
returns-in-Exact c = rw c.in-Exact.is (λ rows indexed.
    c.group_entry.ensures rows indexed
    ∙ ap (λ group. class_list rows (Group group)) c.resource_group.ensures
    ∙ sym (exact_to_group rows c.args.index.now c.in-Exact.text.now indexed
    (rw c.in-Exact.is at c.requires.absent)))

pub returns-in-Group : goal.returns-in-Group
returns-in-Group c = rw c.in-Group.is (λ rows indexed.
    listed rows c.args.index.now Rest c.rest_entry.result indexed c.rest_entry.ensures
    ∙ sym (group_to_rest rows c.args.index.now c.in-Group.field-0.now indexed
    (rw c.in-Group.is at c.requires.absent)))

pub returns-in-Rest : goal.returns-in-Rest
returns-in-Rest c = rw c.in-Rest.is (λ rows indexed.
    listed rows c.args.index.now Rest c.rest_entry-in-Rest.result indexed
    c.rest_entry-in-Rest.ensures)
