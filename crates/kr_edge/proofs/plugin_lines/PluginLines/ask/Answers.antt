-- The reply stands behind the wiping of its room.
use Rattle.std.proofs.Common.{Ok, Err, ap, rules}
use Rattle.std.specs.Prelude.{⊤}
use Rattle.kr_kms.specs.declared.plugin.KmsNo.TheVariants.{Failed, NoMemory}
use Rattle.kr_kms_wire.specs.declared.replies.Reply.{Reply}
use Rattle.kr_edge.proofs.Asking.{answered_as}
use Rattle.kr_edge.proofs.plugin_lines.PluginLines.ask.Goals as goal

pub returns-in-Ok-clause-answers : goal.returns-in-Ok-clause-answers
returns-in-Ok-clause-answers g c = answered_as (λ (r : Reply). r) (λ _. ⊤) _ _ _ c.args.asked
    c.args.request.now (Ok c.in-Ok.reply) c.ask_once-answered.result c.ask_once-answered.ensures
    c.wipe.ensures.ends c.in-Ok.is

pub returns-in-Err-NoMemory-clause-answers : goal.returns-in-Err-NoMemory-clause-answers
returns-in-Err-NoMemory-clause-answers g c = answered_as (λ (r : Reply). r) (λ _. ⊤) _ _ _
    c.args.asked c.args.request.now (Err NoMemory) _
    (search rules) c.wipe.ensures.ends (ap Err c.in-Err-NoMemory.field-0-is)

pub returns-in-Err-Failed-clause-answers : goal.returns-in-Err-Failed-clause-answers
returns-in-Err-Failed-clause-answers g c = answered_as (λ (r : Reply). r) (λ _. ⊤) _ _ _
    c.args.asked c.args.request.now (Err Failed) _
    (search rules) c.wipe.ensures.ends (ap Err c.in-Err-Failed.field-0-is)
