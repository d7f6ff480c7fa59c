use Rattle.std.proofs.Common.{◌<◌, ◌∙◌, sym, subst}
use Rattle.kr_kms.specs.declared.world.Access.TheVariants.{ToRead}
use Rattle.kr_cmd_steps.specs.Phases.{tape_for}
use Rattle.kr_cmd_steps.specs.StoreSteps.{judging_on}
use Rattle.kr_cmd_steps.proofs.RunTo.{by_bytes}
use Rattle.kr_cmd_steps.proofs.Tapes.{not_lent, lends_tape, is_out}
use Rattle.kr_cmd_store.proofs.judge.judge.Goals as goal

pub returns-in-Err-clause-links : goal.returns-in-Err-clause-links
returns-in-Err-clause-links g c = c.in-Err.ensures.objects.links

pub returns-in-Err-clause-does : goal.returns-in-Err-clause-does
returns-in-Err-clause-does g c a =
    by_bytes (λ name. tape_for name ToRead (judging_on name c.args.words.now.options))
    c.as_str-name.ensures
    (not_lent c.in-Err.ensures.files c.in-Err.ensures.objects a c.as_str-name.result.now ToRead
    c.in-Err.stop c.in-Err.ensures.why c.in-Err.ensures.asked)

pub close_tape-requires-clause-out : goal.close_tape-requires-clause-out
close_tape-requires-clause-out g c = λ κs lives. subst (λ t. 0 < t.out c.as_str-name.result.now)
    (sym c.judge_on_tape-made.ensures.tapes) (is_out c.as_str-name.result.now c.in-Ok.ensures.lent)

pub returns-clause-links : goal.returns-clause-links
returns-clause-links g c = c.close_tape.ensures.links ∙ c.judge_on_tape-made.ensures.links
    ∙ c.in-Ok.ensures.lent.links

pub returns-clause-does : goal.returns-clause-does
returns-clause-does g c a =
    by_bytes (λ name. tape_for name ToRead (judging_on name c.args.words.now.options))
    c.as_str-name.ensures
    (lends_tape c.as_str-name.result.now ToRead a c.in-Ok.ensures.lent c.close_tape.ensures
    (c.judge_on_tape-made.ensures.made c.as_str-name.result.now a))
