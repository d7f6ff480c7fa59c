-- `step`: what was looked for is rewritten.
use Rattle.std.proofs.Common.{[], Err, Ok, Some, arith, ap, subst, sym, ◌∙◌}
use Rattle.kr_provider.proofs.AskedLists.{asked_none}
use Rattle.kr_provider.specs.AskedLinks.{Among}
use Rattle.kr_provider.specs.Names.{names_of}
use Rattle.kr_store.specs.Rows.{IsRow}
use Rattle.kr_store.specs.declared.rows.Row.{Row}
use Rattle.kr_history.proofs.PartsAdd.{within_behind, within_more}
use Rattle.kr_rewrite.specs.declared.outcome.Step.TheVariants as step
use Rattle.kr_rewrite.specs.DriveExchanges.{ReadsRow, before, behind}
use Rattle.kr_rewrite.specs.Rewrites.{Rewrites, Steps, UnsealsRow}
use Rattle.kr_rewrite.specs.inner.Stages.{RewritesRowBy, StepsBy}
use Rattle.kr_rewrite.proofs.Looking.{IsFound}
use Rattle.kr_rewrite.proofs.Options.{holds_at, holds_of, is_there}
use Rattle.kr_rewrite.proofs.Rewriting.{looked_at_end, looked_at_row, looked_in_vain}
use Rattle.kr_rewrite.proofs.RowTalks.{nothing_by, talk_by}
use Rattle.kr_rewrite.proofs.step.step.Goals as goal

pub look_above-requires-clause-held : goal.look_above-requires-clause-held
look_above-requires-clause-held g c = is_there _ _ c.requires.held.held

pub returns-in-Err-clause-steps : goal.returns-in-Err-clause-steps
returns-in-Err-clause-steps g c =
    let h = c.requires.held in
    let old = g.A.Acts.caller c.args.acts.now in
    let new = g.A.Acts.caller c.look_above.new.acts in
    let b = c.args.bench.now in
    holds_at (λ p. Steps g.L.Kms.link g.D.Dice.left g.D.Dice.count p c.args.above
    old b.links b.dice (Err c.in-Err.why) new b.links b.dice) b.published h.p h.adopted
    (looked_in_vain (UnsealsRow g.L.Kms.link) g.D.Dice.left g.D.Dice.count h.p
    c.args.above old b.links b.dice c.in-Err.why new c.in-Err.ensures.looks)

pub returns-in-Err-clause-adds : goal.returns-in-Err-clause-adds
returns-in-Err-clause-adds g c = within_more 1 2 0 0 [] (g.A.Acts.caller c.args.acts.now)
    (g.A.Acts.caller c.look_above.new.acts) (omega arith) (omega arith) c.in-Err.ensures.adds

pub returns-in-Err-clause-asked : goal.returns-in-Err-clause-asked
returns-in-Err-clause-asked g c = asked_none g.L.Kms.link
    (names_of g.L.Kms.link c.args.bench.now.links) c.args.bench.now.links

pub returns-in_default-clause-steps : goal.returns-in_default-clause-steps
returns-in_default-clause-steps g c =
    let h = c.requires.held in
    let old = g.A.Acts.caller c.args.acts.now in
    let new = g.A.Acts.caller c.look_above.new.acts in
    let b = c.args.bench.now in
    holds_at (λ p. Steps g.L.Kms.link g.D.Dice.left g.D.Dice.count p c.args.above
    old b.links b.dice (Ok step.End) new b.links b.dice) b.published h.p h.adopted
    (looked_at_end (UnsealsRow g.L.Kms.link) g.D.Dice.left g.D.Dice.count h.p
    c.args.above old b.links b.dice c.in-Ok.found new c.in_default.is c.in-Ok.ensures.looks)

pub returns-in_default-clause-adds : goal.returns-in_default-clause-adds
returns-in_default-clause-adds g c = within_more 1 2 0 0 [] (g.A.Acts.caller c.args.acts.now)
    (g.A.Acts.caller c.look_above.new.acts) (omega arith) (omega arith) c.in-Ok.ensures.adds

pub returns-in_default-clause-asked : goal.returns-in_default-clause-asked
returns-in_default-clause-asked g c = asked_none g.L.Kms.link
    (names_of g.L.Kms.link c.args.bench.now.links) c.args.bench.now.links

pub rewrite-requires-clause-held : goal.rewrite-requires-clause-held
rewrite-requires-clause-held g c =
    let h = c.requires.held in record {
      number = h.number;
      p = h.p;
      adopted = h.adopted;
      held = c.in-Ok.ensures.holds ∙ h.held;
    }

pub rewrite-requires-clause-found : goal.rewrite-requires-clause-found
rewrite-requires-clause-found g c =
    let new = g.A.Acts.caller c.look_above.new.acts in
    let f = holds_of (IsFound new) c.in-Ok.found c.in-Some.row c.in-Some.is c.in-Ok.ensures.row in
    f.0 ∙ ap (λ r. Some r) (sym c.get.ensures)

pub rewrite-requires-clause-rules : goal.rewrite-requires-clause-rules
rewrite-requires-clause-rules g c =
    let new = g.A.Acts.caller c.look_above.new.acts in
    let f = holds_of (IsFound new) c.in-Ok.found c.in-Some.row c.in-Some.is c.in-Ok.ensures.row in
    subst (λ (r : Row). IsRow new.opening.format r) (sym c.get.ensures) f.1

pub returns-clause-steps : goal.returns-clause-steps
returns-clause-steps g c =
    let h = c.requires.held in
    let old = g.A.Acts.caller c.args.acts.now in
    let middle = g.A.Acts.caller c.look_above.new.acts in
    let new = g.A.Acts.caller c.rewrite.new.acts in
    let b = c.args.bench.now in
    let n = c.rewrite.new.bench in
    holds_at (λ p. Steps g.L.Kms.link g.D.Dice.left g.D.Dice.count p c.args.above
    old b.links b.dice c.rewrite.result new n.links n.dice) b.published h.p h.adopted
    (looked_at_row (UnsealsRow g.L.Kms.link) g.D.Dice.left g.D.Dice.count h.p
    c.args.above old b.links b.dice c.in-Ok.found c.in-Some.row c.get.result.now middle new n.links
    n.dice
    c.rewrite.result c.in-Some.is c.get.ensures c.in-Ok.ensures.looks
    (holds_of (λ p. Rewrites g.L.Kms.link g.D.Dice.left g.D.Dice.count p
    c.get.result.now middle b.links b.dice c.rewrite.result new n.links n.dice) b.published h.p
    h.adopted c.rewrite.ensures.rewrites))

pub returns-clause-adds : goal.returns-clause-adds
returns-clause-adds g c = within_behind 1 1 0 0 [] (g.A.Acts.caller c.args.acts.now)
    (g.A.Acts.caller c.look_above.new.acts) (g.A.Acts.caller c.rewrite.new.acts)
    c.in-Ok.ensures.adds c.rewrite.ensures.adds

pub returns-clause-holds : goal.returns-clause-holds
returns-clause-holds g c = c.rewrite.ensures.holds ∙ c.in-Ok.ensures.holds

pub returns-clause-place : goal.returns-clause-place
returns-clause-place g c = c.rewrite.ensures.place ∙ c.in-Ok.ensures.place

pub returns-in-Err-clause-exchanged : goal.returns-in-Err-clause-exchanged
returns-in-Err-clause-exchanged g c =
    let h = c.requires.held in
    let old = g.A.Acts.caller c.args.acts.now in
    let new = g.A.Acts.caller c.look_above.new.acts in
    let b = c.args.bench.now in
    nothing_by (Among g.L.Kms.step) b.published h.p h.adopted (λ p. StepsBy g.D.Dice.left
    g.D.Dice.count p c.args.above old b.cache b.dice (Err c.in-Err.why) new b.cache b.dice) b.links
    (looked_in_vain ReadsRow g.D.Dice.left g.D.Dice.count h.p c.args.above old (behind b.cache)
    b.dice c.in-Err.why new c.in-Err.ensures.looks)

pub returns-in_default-clause-exchanged : goal.returns-in_default-clause-exchanged
returns-in_default-clause-exchanged g c =
    let h = c.requires.held in
    let old = g.A.Acts.caller c.args.acts.now in
    let new = g.A.Acts.caller c.look_above.new.acts in
    let b = c.args.bench.now in
    nothing_by (Among g.L.Kms.step) b.published h.p h.adopted (λ p. StepsBy g.D.Dice.left
    g.D.Dice.count p c.args.above old b.cache b.dice (Ok step.End) new b.cache b.dice) b.links
    (looked_at_end ReadsRow g.D.Dice.left g.D.Dice.count h.p c.args.above old (behind b.cache)
    b.dice c.in-Ok.found new c.in_default.is c.in-Ok.ensures.looks)

pub returns-clause-exchanged : goal.returns-clause-exchanged
returns-clause-exchanged g c =
    let h = c.requires.held in
    let old = g.A.Acts.caller c.args.acts.now in
    let middle = g.A.Acts.caller c.look_above.new.acts in
    let new = g.A.Acts.caller c.rewrite.new.acts in
    let b = c.args.bench.now in
    let n = c.rewrite.new.bench in
    talk_by (Among g.L.Kms.step) b.published h.p h.adopted
    (λ p. RewritesRowBy g.D.Dice.left g.D.Dice.count p c.get.result.now middle b.cache b.dice
    c.rewrite.result new n.cache n.dice)
    (λ p. StepsBy g.D.Dice.left g.D.Dice.count p c.args.above old b.cache b.dice c.rewrite.result
    new n.cache n.dice) b.links n.links c.rewrite.ensures.exchanged
    (λ es r. looked_at_row ReadsRow g.D.Dice.left g.D.Dice.count h.p c.args.above old
    (before b.cache es) b.dice c.in-Ok.found c.in-Some.row c.get.result.now middle new
    (behind n.cache) n.dice c.rewrite.result c.in-Some.is c.get.ensures c.in-Ok.ensures.looks r)
