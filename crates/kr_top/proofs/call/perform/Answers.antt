-- `perform`: each command by what its own call says.
use Rattle.std.proofs.Common.{Some, refl, sym, ◌∙◌, ap, subst}
use Rattle.kr_cmd_messages.specs.declared.command.Command.TheVariants.{Check, Rows}
use Rattle.kr_cmd_messages.specs.inner.Asking.{KeepsRules}
use Rattle.kr_cmd_steps.specs.Environment.{with_world}
use Rattle.kr_top.proofs.Performing.{asking, asking_alone, reporting, unasking, unasking_alone}
use Rattle.kr_top.proofs.call.perform.Goals as goal

pub convert-requires-clause-path : goal.convert-requires-clause-path
convert-requires-clause-path g c = λ κs lives.
    subst (λ k. KeepsRules (Some k)) c.in-Convert.is c.requires.path

pub returns-in-Convert : goal.returns-in-Convert
returns-in-Convert g c = asking g.W.Link.Kms.link g.W.Link.Kms.step g.W.World.lent g.W.World.took _ _ _ _ _ _
    c.silent.result (sym c.in-Convert.is) c.silent.ensures c.convert.ensures

pub returns-in-Check : goal.returns-in-Check
returns-in-Check g c = unasking_alone g.W.Link.Kms.link g.W.Link.Kms.step g.W.World.lent g.W.World.took _ _ _ _
    c.silent-in-Check.result (ap (λ name. Check name c.in-Check.resource) c.as_str.ensures ∙ sym c.in-Check.is) c.silent-in-Check.ensures c.check.ensures.links c.check.ensures.does

pub returns-in-Inspect : goal.returns-in-Inspect
returns-in-Inspect g c = unasking g.W.Link.Kms.link g.W.Link.Kms.step g.W.World.lent g.W.World.took _ _ _ _ _ _
    c.silent-in-Inspect.result (sym c.in-Inspect.is) c.silent-in-Inspect.ensures refl
    (λ x. c.inspect.ensures (with_world (g.W.World.told c.args.world.now) x))

pub put-requires-clause-path : goal.put-requires-clause-path
put-requires-clause-path g c = λ κs lives.
    (subst (λ k. KeepsRules (Some k)) c.in-Put.is c.requires.path).0

pub put-requires-clause-resource : goal.put-requires-clause-resource
put-requires-clause-resource g c = λ κs lives.
    (subst (λ k. KeepsRules (Some k)) c.in-Put.is c.requires.path).1

pub returns-in-Put : goal.returns-in-Put
returns-in-Put g c = asking g.W.Link.Kms.link g.W.Link.Kms.step g.W.World.lent g.W.World.took _ _ _ _ _ _
    c.silent-in-Put.result (sym c.in-Put.is) c.silent-in-Put.ensures c.put.ensures

pub get-requires-clause-path : goal.get-requires-clause-path
get-requires-clause-path g c = λ κs lives.
    subst (λ k. KeepsRules (Some k)) c.in-Get.is c.requires.path

pub returns-in-Get : goal.returns-in-Get
returns-in-Get g c = asking_alone g.W.Link.Kms.link g.W.Link.Kms.step g.W.World.lent g.W.World.took _ _ _ _
    c.silent-in-Get.result (sym c.in-Get.is) c.silent-in-Get.ensures c.get.ensures

pub returns-in-Verify : goal.returns-in-Verify
returns-in-Verify g c = asking_alone g.W.Link.Kms.link g.W.Link.Kms.step g.W.World.lent g.W.World.took _ _ _ _
    c.silent-in-Verify.result (sym c.in-Verify.is) c.silent-in-Verify.ensures c.verify.ensures

pub migrate-requires-clause-apart : goal.migrate-requires-clause-apart
migrate-requires-clause-apart g c = λ κs lives.
    subst (λ k. KeepsRules (Some k)) c.in-Migrate.is c.requires.path

pub returns-in-Migrate : goal.returns-in-Migrate
returns-in-Migrate g c = unasking_alone g.W.Link.Kms.link g.W.Link.Kms.step g.W.World.lent g.W.World.took _ _ _ _
    c.silent-in-Migrate.result (sym c.in-Migrate.is) c.silent-in-Migrate.ensures c.migrate.ensures.links c.migrate.ensures.does

pub returns-in-Rows : goal.returns-in-Rows
returns-in-Rows g c = unasking_alone g.W.Link.Kms.link g.W.Link.Kms.step g.W.World.lent g.W.World.took _ _ _ _
    c.silent-in-Rows.result (ap (λ name. Rows name) c.as_str-in-Rows.ensures ∙ sym c.in-Rows.is) c.silent-in-Rows.ensures c.list.ensures.links c.list.ensures.does

pub judge-requires-clause-replicas : goal.judge-requires-clause-replicas
judge-requires-clause-replicas g c = λ κs lives.
    subst (λ k. KeepsRules (Some k)) c.in-Judge.is c.requires.path

pub returns-in-Judge : goal.returns-in-Judge
returns-in-Judge g c = unasking_alone g.W.Link.Kms.link g.W.Link.Kms.step g.W.World.lent g.W.World.took _ _ _ _
    c.silent-in-Judge.result (sym c.in-Judge.is) c.silent-in-Judge.ensures c.judge.ensures.links c.judge.ensures.does

pub plan-requires-clause-some : goal.plan-requires-clause-some
plan-requires-clause-some g c = λ κs lives.
    (subst (λ k. KeepsRules (Some k)) c.in-Plan.is c.requires.path).0

pub plan-requires-clause-few : goal.plan-requires-clause-few
plan-requires-clause-few g c = λ κs lives.
    (subst (λ k. KeepsRules (Some k)) c.in-Plan.is c.requires.path).1

pub returns-in-Plan : goal.returns-in-Plan
returns-in-Plan g c = unasking_alone g.W.Link.Kms.link g.W.Link.Kms.step g.W.World.lent g.W.World.took _ _ _ _
    c.silent-in-Plan.result (sym c.in-Plan.is) c.silent-in-Plan.ensures c.plan.ensures.links c.plan.ensures.does

pub returns-in-Rewrite : goal.returns-in-Rewrite
returns-in-Rewrite g c = reporting g.W.Link.Kms.link g.W.Link.Kms.step g.W.World.lent
    g.W.World.took _ _ _ _ c.rewrite.result (sym c.in-Rewrite.is) c.rewrite.ensures
