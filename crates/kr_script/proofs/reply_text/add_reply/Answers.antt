-- What the tactic leaves open of `add_reply`.
use Rattle.std.proofs.Common.{◌≡◌, ◌++◌, IfOk, codes, subst, sym}
use Rattle.kr_script.specs.declared.told.Told.{Told}
use Rattle.kr_script.specs.Output.{two, reply_text}
use Rattle.kr_script.proofs.reply_text.add_reply.Goals as goal

pub returns-in-FaultPlugin : goal.returns-in-FaultPlugin
returns-in-FaultPlugin c =
    let before = c.args.text.now.bytes.items in
    let now = c.add_two.new.self.bytes.items in
    subst (λ (reply : Told). IfOk c.add_two.result (λ done. now ≡ before ++ reply_text reply))
    (sym c.in-FaultPlugin.is)
    (subst (λ name. IfOk c.add_two.result
    (λ done. now ≡ before ++ two (codes "fault plugin") name)) c.as_str-in-FaultPlugin.ensures
    c.add_two.ensures)

pub returns-in-FaultStore : goal.returns-in-FaultStore
returns-in-FaultStore c =
    let before = c.args.text.now.bytes.items in
    let now = c.add-in-FaultStore.new.self.bytes.items in
    subst (λ (reply : Told). IfOk c.add-in-FaultStore.result
    (λ done. now ≡ before ++ reply_text reply)) (sym c.in-FaultStore.is)
    c.add-in-FaultStore.ensures
