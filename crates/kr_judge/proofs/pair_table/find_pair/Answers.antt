use Rattle.std.proofs.Common.{get_or, refl, sym, ◌∙◌, arith}
use Rattle.kr_judge.proofs.Groups.{among_begin, among_within, among_more, among_found, among_end}
use Rattle.kr_judge.proofs.pair_table.find_pair.Goals as goal

pub bounds-pairs-place : goal.bounds-pairs-place
bounds-pairs-place c = among_within c.args.pairs.now c.args.places.now c.loop-place.place-index
    (get_or c.args.places.now c.loop-place.place-index 0) c.requires c.loop-place-test.true refl

pub loop-place-init : goal.loop-place-init
loop-place-init c =
    among_begin c.args.pairs.now c.args.places.now c.args.resource.now c.args.who.now

pub loop-place-preserved : goal.loop-place-preserved
loop-place-preserved c = among_more c.args.pairs.now c.args.places.now c.args.resource.now
    c.args.who.now c.loop-place.place-index
    (get_or c.args.places.now c.loop-place.place-index 0) c.index-pairs-place.result
    c.loop-place.invariant c.requires c.loop-place-test.true refl c.index-pairs-place.is
    (sym c.matches_labels.ensures ∙ c.if-matches_labels.false)

pub returns-clause-none : goal.returns-clause-none
returns-clause-none c = among_end c.args.pairs.now c.args.places.now c.args.resource.now
    c.args.who.now c.loop-place.place-index c.loop-place.invariant
    (omega (arith, c.loop-place-test.false))

pub returns-then-matches_labels-clause-some : goal.returns-then-matches_labels-clause-some
returns-then-matches_labels-clause-some c =
    let place = get_or c.args.places.now c.loop-place.place-index 0 in
    let h = among_within c.args.pairs.now c.args.places.now c.loop-place.place-index place
    c.requires c.loop-place-test.true refl in (
      h,
      among_found c.args.pairs.now place c.args.resource.now c.args.who.now
          c.index-pairs-place.result h c.index-pairs-place.is
          (sym c.matches_labels.ensures ∙ c.if-matches_labels.true),
    )
