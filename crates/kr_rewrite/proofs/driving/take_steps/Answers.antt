-- `take_steps`: one more step each time.
use Rattle.std.proofs.Common.{◌≡◌, ◌⊎◌, ℕ, List, [], ap, arith, refl, subst, sym, ◌∙◌}
use Rattle.kr_base.specs.Rules.{IsPath}
use Rattle.kr_provider.proofs.AskedLists.{asked_none}
use Rattle.kr_provider.specs.AskedLinks.{Among}
use Rattle.kr_provider.specs.Names.{names_of}
use Rattle.kr_provider.specs.BenchKeys.{adoption_of}
use Rattle.kr_history.specs.Acting.{Caller}
use Rattle.kr_history.proofs.KeyMoments.{in_turn_same, in_turn_then}
use Rattle.kr_rewrite.specs.Drives.{StayLinks}
use Rattle.kr_rewrite.specs.Rewrites.{UnsealsRow}
use Rattle.kr_rewrite.proofs.BetweenSteps.{asked_still, opening_stays, path_next, replica_stays, served_still, walked_begin, walked_cut, walked_end, walked_more}
use Rattle.kr_rewrite.proofs.DriveTalks.{talk_begins, talk_cut, talk_ends, talk_more}
use Rattle.kr_rewrite.proofs.Growing.{takes_step}
use Rattle.kr_rewrite.proofs.driving.take_steps.Goals as goal

pub loop-step-init : goal.loop-step-init
loop-step-init g c =
    let old = g.A.Acts.caller c.args.acts.now in
    let b = c.args.bench.now in (
      walked_begin (UnsealsRow g.L.Kms.link) g.D.Dice.left g.D.Dice.count
          c.args.replica
          c.args.report.last old b.links b.dice c.args.report c.requires.none,
      c.requires.idle,
      c.requires.path,
      asked_none g.L.Kms.link (names_of g.L.Kms.link b.links) b.links,
      omega arith,
      refl,
      refl,
      talk_begins g.D.Dice.left g.D.Dice.count c.args.replica (Among g.L.Kms.step) b.links
          c.args.report.last old b.cache b.dice c.args.report c.requires.none,
      in_turn_same old (adoption_of b) c.requires.idle,
    )

pub rewrite_next-requires-clause-replica : goal.rewrite_next-requires-clause-replica
rewrite_next-requires-clause-replica g c =
    replica_stays (UnsealsRow g.L.Kms.link) g.D.Dice.left g.D.Dice.count
    c.args.replica
    c.args.report.last (g.A.Acts.caller c.args.acts.now) c.args.bench.now.links
    c.args.bench.now.dice c.loop-step.report (g.A.Acts.caller c.loop-step.acts)
    c.loop-step.bench.links c.loop-step.bench.dice c.loop-step.invariant.0 c.args.replica
    c.requires.replica

pub rewrite_next-requires-clause-idle : goal.rewrite_next-requires-clause-idle
rewrite_next-requires-clause-idle g c = c.loop-step.invariant.1

pub rewrite_next-requires-clause-path : goal.rewrite_next-requires-clause-path
rewrite_next-requires-clause-path g c =
    subst (λ (q : List ℕ). (q ≡ []) ⊎ IsPath q) (sym c.as_str.ensures) c.loop-step.invariant.2

pub rewrite_next-requires-clause-links : goal.rewrite_next-requires-clause-links
rewrite_next-requires-clause-links g c =
    served_still g.L.Kms.link (g.A.Acts.caller c.args.acts.now) (g.A.Acts.caller c.loop-step.acts)
    c.args.bench.now.links c.loop-step.bench.links
    (opening_stays (UnsealsRow g.L.Kms.link) g.D.Dice.left g.D.Dice.count
    c.args.replica c.args.report.last (g.A.Acts.caller c.args.acts.now) c.args.bench.now.links
    c.args.bench.now.dice c.loop-step.report (g.A.Acts.caller c.loop-step.acts)
    c.loop-step.bench.links c.loop-step.bench.dice c.loop-step.invariant.0)
    c.loop-step.invariant.3 c.requires.links

pub rewrite_next-requires-clause-pages : goal.rewrite_next-requires-clause-pages
rewrite_next-requires-clause-pages g c =
    omega (arith, c.loop-step.invariant.5, c.requires.pages)

pub returns-in-Err-clause-goes_on : goal.returns-in-Err-clause-goes_on
returns-in-Err-clause-goes_on g c =
    walked_cut (UnsealsRow g.L.Kms.link) g.D.Dice.left g.D.Dice.count c.args.replica
    c.args.report.last (g.A.Acts.caller c.args.acts.now) c.args.bench.now.links
    c.args.bench.now.dice c.loop-step.report (g.A.Acts.caller c.loop-step.acts)
    (g.A.Acts.caller c.rewrite_next.new.acts) c.loop-step.bench.links
    c.rewrite_next.new.bench.links c.loop-step.bench.dice c.rewrite_next.new.bench.dice
    c.loop-step.invariant.0 c.as_str.result.now c.as_str.ensures (StayLinks g.L.Kms.link)
    c.in-Err.why c.in-Err.ensures.steps c.in-Err.ensures.adds c.loop-step.invariant.3
    c.loop-step.invariant.4

pub returns-in-Err-clause-asked : goal.returns-in-Err-clause-asked
returns-in-Err-clause-asked g c = asked_still g.L.Kms.link c.args.bench.now.links
    c.loop-step.bench.links c.rewrite_next.new.bench.links c.loop-step.invariant.3
    c.in-Err.ensures.asked

pub returns-in-Err-clause-later : goal.returns-in-Err-clause-later
returns-in-Err-clause-later g c =
    omega (arith, c.loop-step.invariant.4, c.in-Err.ensures.later)

pub returns-in-Err-clause-pages : goal.returns-in-Err-clause-pages
returns-in-Err-clause-pages g c = c.in-Err.ensures.pages ∙ c.loop-step.invariant.5

pub returns-in-Err-clause-place : goal.returns-in-Err-clause-place
returns-in-Err-clause-place g c = c.in-Err.ensures.place ∙ c.loop-step.invariant.6

pub returns-then-not-found-clause-goes_on : goal.returns-then-not-found-clause-goes_on
returns-then-not-found-clause-goes_on g c =
    walked_end (UnsealsRow g.L.Kms.link) g.D.Dice.left g.D.Dice.count c.args.replica
    c.args.report.last (g.A.Acts.caller c.args.acts.now) c.args.bench.now.links
    c.args.bench.now.dice c.loop-step.report (g.A.Acts.caller c.loop-step.acts)
    (g.A.Acts.caller c.rewrite_next.new.acts) c.loop-step.bench.links
    c.rewrite_next.new.bench.links c.loop-step.bench.dice c.rewrite_next.new.bench.dice
    c.loop-step.invariant.0 c.as_str.result.now c.as_str.ensures (StayLinks g.L.Kms.link)
    c.in-Ok.step c.count-found.result c.count-found.new.self c.count-found.ensures
    c.if-not-found.true c.in-Ok.ensures.steps
    c.in-Ok.ensures.adds c.loop-step.invariant.3 c.loop-step.invariant.4

pub returns-then-not-found-clause-asked : goal.returns-then-not-found-clause-asked
returns-then-not-found-clause-asked g c = asked_still g.L.Kms.link c.args.bench.now.links
    c.loop-step.bench.links c.rewrite_next.new.bench.links c.loop-step.invariant.3
    c.in-Ok.ensures.asked

pub returns-then-not-found-clause-later : goal.returns-then-not-found-clause-later
returns-then-not-found-clause-later g c =
    omega (arith, c.loop-step.invariant.4, c.in-Ok.ensures.later)

pub returns-then-not-found-clause-pages : goal.returns-then-not-found-clause-pages
returns-then-not-found-clause-pages g c = c.in-Ok.ensures.pages ∙ c.loop-step.invariant.5

pub returns-then-not-found-clause-place : goal.returns-then-not-found-clause-place
returns-then-not-found-clause-place g c = c.in-Ok.ensures.place ∙ c.loop-step.invariant.6

pub loop-step-preserved : goal.loop-step-preserved
loop-step-preserved g c = (
  walked_more (UnsealsRow g.L.Kms.link) g.D.Dice.left g.D.Dice.count c.args.replica
      c.args.report.last (g.A.Acts.caller c.args.acts.now) c.args.bench.now.links
      c.args.bench.now.dice c.loop-step.report (g.A.Acts.caller c.loop-step.acts)
      (g.A.Acts.caller c.rewrite_next.new.acts) c.loop-step.bench.links
      c.rewrite_next.new.bench.links c.loop-step.bench.dice c.rewrite_next.new.bench.dice
      c.loop-step.invariant.0 c.as_str.result.now c.as_str.ensures c.in-Ok.step
      c.count-found.result c.count-found.new.self c.count-found.ensures c.if-not-found.false
      c.in-Ok.ensures.steps c.in-Ok.ensures.adds,
  c.in-Ok.ensures.idle,
  path_next c.in-Ok.step c.count-found.result c.loop-step.report c.count-found.new.self
      c.count-found.ensures c.if-not-found.false c.in-Ok.ensures.path,
  asked_still g.L.Kms.link c.args.bench.now.links c.loop-step.bench.links
      c.rewrite_next.new.bench.links c.loop-step.invariant.3 c.in-Ok.ensures.asked,
  omega (arith, c.loop-step.invariant.4, c.in-Ok.ensures.later),
  c.in-Ok.ensures.pages ∙ c.loop-step.invariant.5,
  c.in-Ok.ensures.place ∙ c.loop-step.invariant.6,
  talk_more g.D.Dice.left g.D.Dice.count c.args.replica (Among g.L.Kms.step)
      c.args.bench.now.links c.loop-step.bench.links c.rewrite_next.new.bench.links
      c.args.report.last (g.A.Acts.caller c.args.acts.now) c.args.bench.now.cache
      c.args.bench.now.dice c.loop-step.report (g.A.Acts.caller c.loop-step.acts)
      (g.A.Acts.caller c.rewrite_next.new.acts) c.loop-step.bench.cache
      c.rewrite_next.new.bench.cache c.loop-step.bench.dice c.rewrite_next.new.bench.dice
      c.loop-step.invariant.7 c.as_str.result.now c.as_str.ensures c.in-Ok.step
      c.count-found.result c.count-found.new.self c.count-found.ensures c.if-not-found.false
      c.in-Ok.ensures.exchanged c.in-Ok.ensures.adds,
  in_turn_then (g.A.Acts.caller c.args.acts.now)
      (g.A.Acts.caller c.loop-step.acts) (g.A.Acts.caller c.rewrite_next.new.acts)
      c.loop-step.invariant.0.few.0 c.in-Ok.ensures.adds.0 (adoption_of c.args.bench.now)
      (adoption_of c.loop-step.bench) (adoption_of c.rewrite_next.new.bench)
      (ap (λ (x : Caller). x.mine) c.loop-step.invariant.0.few.1.new_is)
      (ap (λ (x : Caller). x.mine) c.in-Ok.ensures.adds.1.new_is) c.loop-step.invariant.1
      c.loop-step.invariant.8
      (record { leaves = c.in-Ok.ensures.keys; happens = c.in-Ok.ensures.moments }),
)

pub loop-step-smaller : goal.loop-step-smaller
loop-step-smaller g c = (takes_step (UnsealsRow g.L.Kms.link) g.D.Dice.left
    g.D.Dice.count
    c.args.replica c.as_str.result.now (g.A.Acts.caller c.loop-step.acts)
    (g.A.Acts.caller c.rewrite_next.new.acts) c.loop-step.bench.links
    c.rewrite_next.new.bench.links c.loop-step.bench.dice c.rewrite_next.new.bench.dice
    c.in-Ok.step c.in-Ok.ensures.steps).spends

pub returns-in-Err-clause-idle : goal.returns-in-Err-clause-idle
returns-in-Err-clause-idle g c = c.in-Err.ensures.idle

pub returns-then-not-found-clause-idle : goal.returns-then-not-found-clause-idle
returns-then-not-found-clause-idle g c = c.in-Ok.ensures.idle

pub returns-in-Err-clause-exchanged : goal.returns-in-Err-clause-exchanged
returns-in-Err-clause-exchanged g c = talk_cut g.D.Dice.left g.D.Dice.count c.args.replica
    (Among g.L.Kms.step)
    c.args.bench.now.links c.loop-step.bench.links c.rewrite_next.new.bench.links
    c.args.report.last (g.A.Acts.caller c.args.acts.now) c.args.bench.now.cache
    c.args.bench.now.dice c.loop-step.report (g.A.Acts.caller c.loop-step.acts)
    (g.A.Acts.caller c.rewrite_next.new.acts) c.loop-step.bench.cache
    c.rewrite_next.new.bench.cache c.loop-step.bench.dice c.rewrite_next.new.bench.dice
    c.loop-step.invariant.7 c.as_str.result.now c.as_str.ensures c.in-Err.why
    c.in-Err.ensures.exchanged c.in-Err.ensures.adds c.loop-step.invariant.4

pub returns-then-not-found-clause-exchanged : goal.returns-then-not-found-clause-exchanged
returns-then-not-found-clause-exchanged g c = talk_ends g.D.Dice.left g.D.Dice.count c.args.replica
    (Among g.L.Kms.step)
    c.args.bench.now.links c.loop-step.bench.links c.rewrite_next.new.bench.links
    c.args.report.last (g.A.Acts.caller c.args.acts.now) c.args.bench.now.cache
    c.args.bench.now.dice c.loop-step.report (g.A.Acts.caller c.loop-step.acts)
    (g.A.Acts.caller c.rewrite_next.new.acts) c.loop-step.bench.cache
    c.rewrite_next.new.bench.cache c.loop-step.bench.dice c.rewrite_next.new.bench.dice
    c.loop-step.invariant.7 c.as_str.result.now c.as_str.ensures c.in-Ok.step
    c.count-found.result c.count-found.new.self c.count-found.ensures c.if-not-found.true
    c.in-Ok.ensures.exchanged c.in-Ok.ensures.adds c.loop-step.invariant.4

pub returns-in-Err-clause-keys : goal.returns-in-Err-clause-keys
returns-in-Err-clause-keys g c = (in_turn_then (g.A.Acts.caller c.args.acts.now)
    (g.A.Acts.caller c.loop-step.acts) (g.A.Acts.caller c.rewrite_next.new.acts)
    c.loop-step.invariant.0.few.0 c.in-Err.ensures.adds.0 (adoption_of c.args.bench.now)
    (adoption_of c.loop-step.bench) (adoption_of c.rewrite_next.new.bench)
    (ap (λ (x : Caller). x.mine) c.loop-step.invariant.0.few.1.new_is)
    (ap (λ (x : Caller). x.mine) c.in-Err.ensures.adds.1.new_is) c.loop-step.invariant.1
    c.loop-step.invariant.8
    (record { leaves = c.in-Err.ensures.keys; happens = c.in-Err.ensures.moments })).leaves

pub returns-in-Err-clause-moments : goal.returns-in-Err-clause-moments
returns-in-Err-clause-moments g c = (in_turn_then (g.A.Acts.caller c.args.acts.now)
    (g.A.Acts.caller c.loop-step.acts) (g.A.Acts.caller c.rewrite_next.new.acts)
    c.loop-step.invariant.0.few.0 c.in-Err.ensures.adds.0 (adoption_of c.args.bench.now)
    (adoption_of c.loop-step.bench) (adoption_of c.rewrite_next.new.bench)
    (ap (λ (x : Caller). x.mine) c.loop-step.invariant.0.few.1.new_is)
    (ap (λ (x : Caller). x.mine) c.in-Err.ensures.adds.1.new_is) c.loop-step.invariant.1
    c.loop-step.invariant.8
    (record { leaves = c.in-Err.ensures.keys; happens = c.in-Err.ensures.moments })).happens

pub returns-then-not-found-clause-keys : goal.returns-then-not-found-clause-keys
returns-then-not-found-clause-keys g c = (in_turn_then (g.A.Acts.caller c.args.acts.now)
    (g.A.Acts.caller c.loop-step.acts) (g.A.Acts.caller c.rewrite_next.new.acts)
    c.loop-step.invariant.0.few.0 c.in-Ok.ensures.adds.0 (adoption_of c.args.bench.now)
    (adoption_of c.loop-step.bench) (adoption_of c.rewrite_next.new.bench)
    (ap (λ (x : Caller). x.mine) c.loop-step.invariant.0.few.1.new_is)
    (ap (λ (x : Caller). x.mine) c.in-Ok.ensures.adds.1.new_is) c.loop-step.invariant.1
    c.loop-step.invariant.8
    (record { leaves = c.in-Ok.ensures.keys; happens = c.in-Ok.ensures.moments })).leaves

pub returns-then-not-found-clause-moments : goal.returns-then-not-found-clause-moments
returns-then-not-found-clause-moments g c = (in_turn_then (g.A.Acts.caller c.args.acts.now)
    (g.A.Acts.caller c.loop-step.acts) (g.A.Acts.caller c.rewrite_next.new.acts)
    c.loop-step.invariant.0.few.0 c.in-Ok.ensures.adds.0 (adoption_of c.args.bench.now)
    (adoption_of c.loop-step.bench) (adoption_of c.rewrite_next.new.bench)
    (ap (λ (x : Caller). x.mine) c.loop-step.invariant.0.few.1.new_is)
    (ap (λ (x : Caller). x.mine) c.in-Ok.ensures.adds.1.new_is) c.loop-step.invariant.1
    c.loop-step.invariant.8
    (record { leaves = c.in-Ok.ensures.keys; happens = c.in-Ok.ensures.moments })).happens
