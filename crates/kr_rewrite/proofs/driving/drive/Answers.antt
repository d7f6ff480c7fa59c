-- `drive`: steps from a copy of the path on.
use Rattle.std.proofs.Common.{◌≡◌, ◌⊎◌, ℕ, Err, List, [], ap, inr, refl, subst, sym, ◌∙◌}
use Rattle.kr_base.specs.Rules.{IsPath}
use Rattle.kr_base.proofs.Walks.{talk_none}
use Rattle.kr_provider.proofs.AskedLists.{asked_none}
use Rattle.kr_provider.specs.AskedLinks.{Among}
use Rattle.kr_provider.specs.Names.{names_of}
use Rattle.kr_history.specs.declared.call.CallNo.TheVariants as refusal
use Rattle.kr_rewrite.specs.DriveExchanges.{IsDriveBy}
use Rattle.kr_rewrite.specs.Drives.{StayLinks, report_at}
use Rattle.kr_rewrite.specs.Rewrites.{UnsealsRow}
use Rattle.kr_rewrite.specs.declared.outcome.Report.{Report}
use Rattle.kr_rewrite.specs.inner.Stages.{DrivesFrom}
use Rattle.kr_rewrite.proofs.BetweenSteps.{drives_on}
use Rattle.kr_rewrite.proofs.DriveTalks.{talk_drives}
use Rattle.kr_provider.specs.BenchKeys.{adoption_of}
use Rattle.kr_history.proofs.KeyMoments.{in_turn_same}
use Rattle.kr_rewrite.proofs.driving.drive.Goals as goal

pub returns-in_default-clause-drives : goal.returns-in_default-clause-drives
returns-in_default-clause-drives g c = inr (record {
  why_is = refl;
  report_is = c.without_steps.ensures ∙ ap report_at c.new.ensures;
  same = refl;
  links = refl;
  dice_is = refl;
})

pub returns-in_default-clause-asked : goal.returns-in_default-clause-asked
returns-in_default-clause-asked g c = asked_none g.L.Kms.link
    (names_of g.L.Kms.link c.args.bench.now.links) c.args.bench.now.links

pub take_steps-requires-clause-path : goal.take_steps-requires-clause-path
take_steps-requires-clause-path g c = subst (λ (q : List ℕ). (q ≡ []) ⊎ IsPath q)
    (sym (ap (λ (r : Report). r.last) c.without_steps-2.ensures ∙ c.in-Ok.ensures)) c.requires.path

pub take_steps-requires-clause-none : goal.take_steps-requires-clause-none
take_steps-requires-clause-none g c = c.without_steps-2.ensures
    ∙ ap report_at (sym (ap (λ (r : Report). r.last) c.without_steps-2.ensures))

pub returns-clause-drives : goal.returns-clause-drives
returns-clause-drives g c = drives_on (UnsealsRow g.L.Kms.link)
    (StayLinks g.L.Kms.link) g.D.Dice.left g.D.Dice.count c.args.replica c.args.after.now
    (g.A.Acts.caller c.args.acts.now)
    (g.A.Acts.caller c.take_steps.new.acts) c.args.bench.now.links c.take_steps.new.bench.links
    c.args.bench.now.dice c.take_steps.new.bench.dice c.take_steps.result
    (subst (λ q. DrivesFrom g.L.Kms.link g.D.Dice.left g.D.Dice.count c.args.replica q
    (g.A.Acts.caller c.args.acts.now) c.args.bench.now.links c.args.bench.now.dice c.take_steps.result
    (g.A.Acts.caller c.take_steps.new.acts) c.take_steps.new.bench.links c.take_steps.new.bench.dice)
    (ap (λ (r : Report). r.last) c.without_steps-2.ensures ∙ c.in-Ok.ensures) c.take_steps.ensures.goes_on)

pub returns-in_default-clause-exchanged : goal.returns-in_default-clause-exchanged
returns-in_default-clause-exchanged g c =
    let old = g.A.Acts.caller c.args.acts.now in
    let b = c.args.bench.now in
    talk_none (Among g.L.Kms.step) (IsDriveBy g.D.Dice.left g.D.Dice.count c.args.replica
    c.args.after.now old b.cache b.dice (Err (c.without_steps.result, refusal.NoMemory)) old b.cache b.dice)
    b.links (inr (record {
      why_is = refl;
      report_is = c.without_steps.ensures ∙ ap report_at c.new.ensures;
      same = refl;
      links = refl;
      dice_is = refl;
    }))

pub returns-clause-exchanged : goal.returns-clause-exchanged
returns-clause-exchanged g c = talk_drives g.D.Dice.left g.D.Dice.count c.args.replica
    (Among g.L.Kms.step) c.args.bench.now.links c.take_steps.new.bench.links c.args.after.now
    c.without_steps-2.result.last (g.A.Acts.caller c.args.acts.now) (g.A.Acts.caller c.take_steps.new.acts)
    c.args.bench.now.cache c.take_steps.new.bench.cache c.args.bench.now.dice c.take_steps.new.bench.dice
    c.take_steps.result (ap (λ (r : Report). r.last) c.without_steps-2.ensures ∙ c.in-Ok.ensures)
    c.take_steps.ensures.exchanged

pub returns-in_default-clause-keys : goal.returns-in_default-clause-keys
returns-in_default-clause-keys g c = (in_turn_same (g.A.Acts.caller c.args.acts.now)
    (adoption_of c.args.bench.now) c.requires.idle).leaves

pub returns-in_default-clause-moments : goal.returns-in_default-clause-moments
returns-in_default-clause-moments g c = (in_turn_same (g.A.Acts.caller c.args.acts.now)
    (adoption_of c.args.bench.now) c.requires.idle).happens
