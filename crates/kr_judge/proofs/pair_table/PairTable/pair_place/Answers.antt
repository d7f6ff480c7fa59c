use Rattle.std.proofs.Common.{sym, ap, ◌∙◌, arith}
use Rattle.kr_judge.specs.declared.pair.Pair.{Pair}
use Rattle.kr_judge.specs.inner.Indexes.{labels_of, kept_paths}
use Rattle.kr_judge.proofs.Scans.{found_place}
use Rattle.kr_judge.proofs.Groups.{grouped_still, given_before, given_label, given_apart, added_apart, added_grows}
use Rattle.kr_judge.proofs.Frees.{free_given}
use Rattle.kr_judge.proofs.pair_table.PairTable.pair_place.Goals as goal

pub returns-in-Some-clause-place : goal.returns-in-Some-clause-place
returns-in-Some-clause-place c = found_place c.args.self.now c.args.resource.now c.args.who.now c.in-Some.place (sym c.in-Some.ensures)

pub give_place-requires-clause-grouped : goal.give_place-requires-clause-grouped
give_place-requires-clause-grouped c = grouped_still c.self.inside.groups c.self.inside.pairs.items c.find_free-free.new.pairs.items c.self.invariant.0 c.find_free-free.ensures.labels

pub invariant_of-self-in-Some-free : goal.invariant_of-self-in-Some-free
invariant_of-self-in-Some-free c = (
  c.give_place.ensures.grouped,
  free_given c.find_free-free.new.free.items c.find_free-free.new.pairs.items c.give_place.new.pairs.items c.in-Some-free.place c.in_ok-pair.pair c.find_free-free.ensures.free c.in-Some-free.ensures.some.0 c.in-Some-free.ensures.some.1
      (ap (λ (p : Pair). p.listed) c.in_ok-pair.ensures) c.in_ok-give_place-in-Some-free.ensures.ok,
  omega (arith, c.give_place.ensures.length, c.find_free-free.ensures.length, c.find_free-free.ensures.room, c.self.invariant.2),
)

pub add_pair-requires-clause-grouped : goal.add_pair-requires-clause-grouped
add_pair-requires-clause-grouped c = grouped_still c.self.inside.groups c.self.inside.pairs.items c.find_free-free.new.pairs.items c.self.invariant.0 c.find_free-free.ensures.labels

pub returns-in_ok-give_place-in-Some-free-clause-place : goal.returns-in_ok-give_place-in-Some-free-clause-place
returns-in_ok-give_place-in-Some-free-clause-place c = given_label c.find_free-free.new.pairs.items c.give_place.new.pairs.items c.in-Some-free.place c.in_ok-pair.pair c.args.resource.now c.args.who.now c.in-Some-free.ensures.some.0
    (ap (λ (p : Pair). p.resource) c.in_ok-pair.ensures) (ap (λ (p : Pair). p.who) c.in_ok-pair.ensures) c.in_ok-give_place-in-Some-free.ensures.ok

pub returns-in_ok-give_place-in-Some-free-clause-before : goal.returns-in_ok-give_place-in-Some-free-clause-before
returns-in_ok-give_place-in-Some-free-clause-before c = given_before c.args.self.now c.find_free-free.new.pairs.items c.give_place.new.pairs.items c.in-Some-free.place c.in_ok-pair.pair
    (c.find_free-free.ensures.labels ∙ ap labels_of c.self.view_is) (c.find_free-free.ensures.paths ∙ ap kept_paths c.self.view_is) c.in-Some-free.ensures.some.1 (ap (λ (p : Pair). p.paths) c.in_ok-pair.ensures) c.in_ok-give_place-in-Some-free.ensures.ok

pub returns-in_ok-give_place-in-Some-free-clause-apart : goal.returns-in_ok-give_place-in-Some-free-clause-apart
returns-in_ok-give_place-in-Some-free-clause-apart c = given_apart c.args.self.now c.find_free-free.new.pairs.items c.give_place.new.pairs.items c.in-Some-free.place c.in_ok-pair.pair c.args.resource.now c.args.who.now c.requires
    (c.find_free-free.ensures.labels ∙ ap labels_of c.self.view_is) c.in_default.ensures c.in-Some-free.ensures.some.0 (ap (λ (p : Pair). p.resource) c.in_ok-pair.ensures) (ap (λ (p : Pair). p.who) c.in_ok-pair.ensures)
    c.in_ok-give_place-in-Some-free.ensures.ok

pub returns-in_ok-add_pair-in-None-clause-apart : goal.returns-in_ok-add_pair-in-None-clause-apart
returns-in_ok-add_pair-in-None-clause-apart c = added_apart c.args.self.now c.find_free-free.new.pairs.items c.add_pair.new.pairs.items c.in_ok-pair.pair c.args.resource.now c.args.who.now c.requires
    (c.find_free-free.ensures.labels ∙ ap labels_of c.self.view_is) c.in_default.ensures (ap (λ (p : Pair). p.resource) c.in_ok-pair.ensures) (ap (λ (p : Pair). p.who) c.in_ok-pair.ensures) c.in_ok-add_pair-in-None.ensures.ok

pub returns-in_ok-add_pair-in-None-clause-grows : goal.returns-in_ok-add_pair-in-None-clause-grows
returns-in_ok-add_pair-in-None-clause-grows c = added_grows c.args.self.now c.find_free-free.new.pairs.items c.add_pair.new.pairs.items c.in_ok-pair.pair
    (c.find_free-free.ensures.labels ∙ ap labels_of c.self.view_is) (c.find_free-free.ensures.paths ∙ ap kept_paths c.self.view_is) c.in-None.ensures.none c.in_ok-add_pair-in-None.ensures.ok
