-- `run_alone`: another command, or words that mean none; for several workers nothing.
use Rattle.std.proofs.Common.{Ok, refl, inl, subst}
use Rattle.kr_words.specs.Grammar.{texts}
use Rattle.kr_top.specs.inner.Team.{IsTeamAsked}
use Rattle.kr_top.proofs.Promises.{alone_ran, asked_apart, told_alone, told_unread}
use Rattle.kr_top.proofs.call.run_alone.Goals as goal

pub returns-in-Ok-Some : goal.returns-in-Ok-Some
returns-in-Ok-Some g c = record {
  ran = (
    asked_apart (texts c.args.words.now) c.in-Ok-Some.asked
        (subst (λ o. IsTeamAsked (texts c.args.words.now) (Ok o)) c.in-Ok-Some.field-0-is
        c.in-Ok-Some.ensures),
    (refl, (refl, refl)),
    (refl, refl),
  );
  asked = tt;
}

pub returns-in-Ok-None : goal.returns-in-Ok-None
returns-in-Ok-None g c =
    let told = told_alone g.W.Link.Kms.link g.W.Link.Kms.step g.W.World.lent g.W.World.took
    (texts c.args.words.now) _ _ _ _ _
    (alone_ran (texts c.args.words.now) _ _ _ c.answer.result c.tell_end.ensures.told
    c.answer.ensures.later c.tell_end.ensures.later g.W.Link.Kms.link g.W.Link.Kms.step
    g.W.World.lent g.W.World.took _ _ _ _ _ _ c.answer.ensures.answers)
    (inl (subst (λ o. IsTeamAsked (texts c.args.words.now) (Ok o)) c.in-Ok-None.field-0-is
    c.in-Ok-None.ensures)) in
    record { ran = told.0; asked = told.1 }

pub returns-in-Err : goal.returns-in-Err
returns-in-Err g c =
    let told = told_unread (texts c.args.words.now) (g.W.World.told c.args.world.now)
    (g.I.Source.left c.args.input.now) (g.I.Source.count c.args.input.now) _ _ _ c.in-Err.stop
    (refl, refl) c.tell_end-in-Err.ensures.told c.tell_end-in-Err.ensures.later c.in-Err.ensures
    g.W.Link.Kms.link g.W.Link.Kms.step g.W.World.lent g.W.World.took in
    record { ran = told.0; asked = told.1 }
