-- `reseal`: what was sealed is offered in the row's place.
use Rattle.std.proofs.Common.{[], Err, inr, refl, ◌∙◌}
use Rattle.kr_provider.specs.Publication.{list_at}
use Rattle.kr_provider.specs.Reading.{HasSomeReading, data_of}
use Rattle.kr_provider.specs.Sealing.{IsSealing}
use Rattle.kr_history.specs.declared.call.CallNo.TheVariants as refusal
use Rattle.kr_history.proofs.PartsAdd.{nothing_within}
use Rattle.kr_rewrite.specs.inner.Stages.{ResealsRow}
use Rattle.kr_rewrite.proofs.Options.{holds_at, holds_of, is_there}
use Rattle.kr_rewrite.proofs.Replacing.{may_replace, replaces_to, reseals_done, reseals_nothing, unsealed_to}
use Rattle.kr_rewrite.proofs.row.reseal.Goals as goal

pub returns-in_default-clause-reseals : goal.returns-in_default-clause-reseals
returns-in_default-clause-reseals g c =
    let h = c.requires.held in
    let old = g.A.Acts.caller c.args.acts.now in
    holds_at (λ p. ResealsRow g.D.Dice.left g.D.Dice.count p c.args.row.now c.args.plain old
    c.args.bench.now.dice (Err refusal.NoMemory) old c.args.bench.now.dice)
    c.args.bench.now.published h.p h.adopted (inr (refl, refl, refl))

pub returns-in_default-clause-adds : goal.returns-in_default-clause-adds
returns-in_default-clause-adds g c = nothing_within 1 0 [] (g.A.Acts.caller c.args.acts.now)

pub seal_in_place-requires-clause-adopted : goal.seal_in_place-requires-clause-adopted
seal_in_place-requires-clause-adopted g c = is_there _ _ c.requires.held.adopted

pub seal_in_place-requires-clause-path : goal.seal_in_place-requires-clause-path
seal_in_place-requires-clause-path g c = c.requires.rules.0.1

pub returns-in-Err-clause-reseals : goal.returns-in-Err-clause-reseals
returns-in-Err-clause-reseals g c = reseals_nothing c.requires.held g.D.Dice.left g.D.Dice.count
    c.args.row.now c.args.path c.args.plain c.requires.path (g.A.Acts.caller c.args.acts.now)
    (g.A.Acts.caller c.args.acts.now) c.args.bench.now.dice c.seal_in_place.new.bench.dice
    c.in-Err.why c.unsealed_step.result c.in-Err.ensures.sealed c.unsealed_step.ensures refl

pub returns-in-Err-clause-path : goal.returns-in-Err-clause-path
returns-in-Err-clause-path g c = unsealed_to c.args.path c.args.row.now.path c.in-Err.why
    c.unsealed_step.result c.requires.path c.requires.rules.0 c.unsealed_step.ensures

pub returns-in-Err-clause-adds : goal.returns-in-Err-clause-adds
returns-in-Err-clause-adds g c = nothing_within 1 0 [] (g.A.Acts.caller c.args.acts.now)

pub replace-requires : goal.replace-requires
replace-requires g c =
    let h = c.requires.held in
    let old = g.A.Acts.caller c.args.acts.now in
    record {
      may = may_replace old.opening old.seat old.mine h.number h.p c.args.row.now
          c.args.plain c.in-Ok.copy c.in-Ok-seal_in_place.stored c.requires.rules.0 h.held
          c.requires.found (c.in-Ok.ensures ∙ c.as_str.ensures)
          (holds_of (λ p. HasSomeReading (list_at p c.args.row.now.resource) c.args.row.now.path
          c.args.row.now.stored (data_of c.args.plain)) c.args.bench.now.published h.p h.adopted
          c.requires.reads)
          (holds_of (λ p. IsSealing p c.args.row.now.resource c.args.row.now.path c.args.plain
          c.in-Ok-seal_in_place.stored) c.args.bench.now.published h.p h.adopted
          c.in-Ok-seal_in_place.ensures.sealing);
    }

pub returns-clause-reseals : goal.returns-clause-reseals
returns-clause-reseals g c = reseals_done c.requires.held g.D.Dice.left g.D.Dice.count
    c.args.row.now c.args.path c.args.plain c.requires.path (g.A.Acts.caller c.args.acts.now)
    (g.A.Acts.caller c.replace.new.acts) c.args.bench.now.dice c.seal_in_place.new.bench.dice
    c.in-Ok.copy c.in-Ok-seal_in_place.stored c.replace.result c.replaced_step.result
    c.in-Ok-seal_in_place.ensures.sealed c.in-Ok-seal_in_place.ensures.sealing
    (c.in-Ok.ensures ∙ c.as_str.ensures) c.replace.ensures.replaces c.replaced_step.ensures

pub returns-clause-path : goal.returns-clause-path
returns-clause-path g c = replaces_to c.args.path c.args.row.now.path
    c.replace.result c.replaced_step.result c.requires.path c.requires.rules.0
    c.replaced_step.ensures
