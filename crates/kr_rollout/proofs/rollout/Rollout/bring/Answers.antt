-- `bring`: the replica takes it up, or nothing but the journal changes.
use Rattle.std.proofs.Common.{◌∙◌, ap, sym, subst}
use Rattle.kr_provider.specs.Publication.{Publication, IsPublished}
use Rattle.kr_rollout.specs.declared.line.Gave.TheVariants.{Refused, Nothing}
use Rattle.kr_rollout.specs.Callers.{gave_of}
use Rattle.kr_rollout.specs.inner.Membership.{IsJudgement}
use Rattle.kr_rollout.specs.inner.Rollouts.{line_now}
use Rattle.kr_rollout.proofs.Reloading.{refused_at, taken_at, unread_at}
use Rattle.kr_rollout.proofs.rollout.Rollout.bring.Goals as goal

pub returns-in-Ok-Fits : goal.returns-in-Ok-Fits
returns-in-Ok-Fits g c =
    let judged = subst (λ x. IsJudgement c.self.inside.board c.args.replica c.args.published x)
    c.in-Ok-Fits.field-0-is c.in-Ok-Fits.ensures in
    taken_at _ c.args.self.now c.push_generation-generation.new.self c.self.inside.board c.args.seat
    c.args.replica c.push_generation-generation.result c.args.published c.in-Ok-Fits.published
    c.line-line.result c.self.invariant.0 c.self.view_is c.requires.seat_in
    (subst (λ (x : Publication). IsPublished x) c.get.ensures c.known.ensures) judged.0
    c.push_generation-generation.ensures.number judged.2 c.push_generation-generation.ensures.taken
    c.args.bringing _ c.taken-answer.ensures.answer c.requires.may c.requires.awaited
    (c.line-line.ensures ∙ (λ i. line_now c.push_generation-generation.new.self.state c.args.seat
    (c.did-did.ensures i)
    ((c.taken-answer.ensures.gave ∙ ap gave_of (sym c.taken-answer.ensures.answer)) i)))

pub returns-in-Ok-Refused : goal.returns-in-Ok-Refused
returns-in-Ok-Refused g c =
    refused_at _ c.args.self.now c.self.inside.board c.args.seat c.args.replica c.args.published
    c.line-line-in-Ok-Refused.result c.self.invariant.0 c.self.view_is c.requires.seat_in
    (subst (λ (x : Publication). IsPublished x) c.get.ensures c.known.ensures) c.args.bringing
    c.in-Ok-Refused.told c.in-Ok-Refused.kept
    (subst (λ x. IsJudgement c.self.inside.board c.args.replica c.args.published x)
    c.in-Ok-Refused.field-0-is c.in-Ok-Refused.ensures) c.requires.may c.requires.awaited
    (c.line-line-in-Ok-Refused.ensures ∙ ap (λ did. line_now c.args.self.now.state c.args.seat did
    (Refused c.in-Ok-Refused.kept)) c.did-did.ensures)

pub returns-in-Err : goal.returns-in-Err
returns-in-Err g c =
    unread_at _ c.args.self.now c.self.inside.board c.args.seat c.args.replica c.args.published
    c.line-line-in-Err.result c.self.invariant.0 c.self.view_is c.requires.seat_in
    (subst (λ (x : Publication). IsPublished x) c.get.ensures c.known.ensures) c.args.bringing
    c.requires.may c.requires.awaited
    (c.line-line-in-Err.ensures ∙ ap (λ did. line_now c.args.self.now.state c.args.seat did Nothing)
    c.did-did.ensures)
