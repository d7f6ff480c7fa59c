-- `run`: several workers, or another command, or words that mean none.
use Rattle.std.proofs.Common.{Ok, refl, subst}
use Rattle.kr_words.specs.Grammar.{texts}
use Rattle.kr_top.specs.inner.Team.{IsTeamAsked}
use Rattle.kr_top.proofs.Promises.{alone_ran, none_promised, run_unread, team_promised}
use Rattle.kr_top.proofs.Reading.{team_paged}
use Rattle.kr_top.proofs.call.run.Goals as goal

pub run_team-ended-requires-clause-page : goal.run_team-ended-requires-clause-page
run_team-ended-requires-clause-page g c = λ κs lives.
    team_paged (texts c.args.words.now) c.in-Ok-Some.asked
    (subst (λ o. IsTeamAsked (texts c.args.words.now) (Ok o)) c.in-Ok-Some.field-0-is
    c.in-Ok-Some.ensures)

pub returns-in-Ok-Some : goal.returns-in-Ok-Some
returns-in-Ok-Some g c =
    team_promised g.row.W-Tap.Denot g.W.Link.Kms.link g.W.Link.Kms.step g.W.World.lent
    g.W.World.took g.W.Rand.Dice.left g.W.Rand.Dice.count (texts c.args.words.now) _ _ _ _ _ _ _
    c.run_team-ended.result c.tell_ending.ensures.told c.run_team-ended.ensures.later
    c.tell_ending.ensures.later c.in-Ok-Some.asked
    (subst (λ o. IsTeamAsked (texts c.args.words.now) (Ok o)) c.in-Ok-Some.field-0-is
    c.in-Ok-Some.ensures) c.run_team-ended.ensures.did

pub returns-in-Ok-None : goal.returns-in-Ok-None
returns-in-Ok-None g c =
    none_promised g.row.W-Tap.Denot g.W.Link.Kms.link g.W.Link.Kms.step g.W.World.lent
    g.W.World.took g.W.Rand.Dice.left g.W.Rand.Dice.count (texts c.args.words.now) _ _ _ _ _
    (subst (λ o. IsTeamAsked (texts c.args.words.now) (Ok o)) c.in-Ok-None.field-0-is
    c.in-Ok-None.ensures)
    (alone_ran (texts c.args.words.now) _ _ _ c.answer.result c.tell_end.ensures.told
    c.answer.ensures.later c.tell_end.ensures.later g.W.Link.Kms.link g.W.Link.Kms.step
    g.W.World.lent g.W.World.took _ _ _ _ _ _ c.answer.ensures.answers)

pub returns-in-Err : goal.returns-in-Err
returns-in-Err g c =
    run_unread (texts c.args.words.now) _ _ _ _ _ _ c.in-Err.stop (refl, refl)
    c.tell_end-in-Err.ensures.told c.tell_end-in-Err.ensures.later c.in-Err.ensures
    g.row.W-Tap.Denot g.W.Link.Kms.link g.W.Link.Kms.step g.W.World.lent g.W.World.took
    g.W.Rand.Dice.left g.W.Rand.Dice.count
