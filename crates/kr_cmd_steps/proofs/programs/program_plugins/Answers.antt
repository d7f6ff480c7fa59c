-- `program_plugins`: one name more, and all of them.
use Rattle.std.proofs.Common.{◌∷◌, ◌++◌, [], ap, take, ◌∙◌}
use Rattle.std.proofs.lemmas.List.{take_all}
use Rattle.kr_cmd_steps.specs.inner.ProgramNames.{names_in}
use Rattle.kr_cmd_steps.proofs.ProgramNames.{name_more}
use Rattle.kr_cmd_steps.proofs.programs.program_plugins.Goals as goal

pub loop-program-init : goal.loop-program-init
loop-program-init c = c.new-names.ensures

pub loop-program-preserved : goal.loop-program-preserved
loop-program-preserved c = c.in-Ok-push.ensures.ok
    ∙ ap (λ ns. ns ++ c.in-Ok.name ∷ []) c.loop-program.invariant
    ∙ ap (λ n. names_in (take c.loop-program.program-index c.args.programs.now) ++ n ∷ [])
    (c.in-Ok.ensures ∙ c.as_str.ensures)
    ∙ name_more c.args.programs.now c.loop-program.program-index c.program-item.result
    c.loop-program-test.true c.program-item.is

pub returns : goal.returns
returns c = c.loop-program.invariant
    ∙ ap names_in (take_all c.loop-program.program-index c.args.programs.now
    c.loop-program-test.false)
