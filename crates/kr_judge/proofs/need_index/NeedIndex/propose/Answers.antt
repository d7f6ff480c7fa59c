use Rattle.std.proofs.Common.{refl}
use Rattle.kr_judge.proofs.IndexViews.{on_err, before_view, made_view, grown}
use Rattle.kr_judge.proofs.need_index.NeedIndex.propose.Goals as goal

pub returns-in_err-place-clause-err : goal.returns-in_err-place-clause-err
returns-in_err-place-clause-err c = on_err c.from_residual.result (before_view c.self.inside.places c.self.inside.places c.self.inside.pairs c.pair_place.new.self c.pair_place.new.self c.self.inside.proposal c.args.self.now
    c.self.view_is c.requires c.self.invariant.0 c.pair_place.ensures.before refl refl)

pub returns-in_err-made-clause-err : goal.returns-in_err-made-clause-err
returns-in_err-made-clause-err c = on_err c.from_residual-in_err-made.result (before_view c.self.inside.places c.make_proposal.new.places c.self.inside.pairs c.pair_place.new.self c.make_proposal.new.pairs c.self.inside.proposal
    c.args.self.now c.self.view_is c.requires c.self.invariant.0 c.pair_place.ensures.before c.make_proposal.ensures.labels c.in_err-made.ensures.same)

pub returns-clause-ok : goal.returns-clause-ok
returns-clause-ok c = made_view c.self.inside.places c.make_proposal.new.places c.self.inside.pairs c.pair_place.new.self c.make_proposal.new.pairs c.self.inside.proposal c.args.self.now c.in_ok-made.made
    c.args.path.now c.args.resource.now c.args.who.now c.in_ok-place.place c.self.view_is c.requires c.self.invariant.0 c.pair_place.ensures.before c.make_proposal.ensures.labels c.in_ok-made.ensures.fresh
    c.in_ok-made.ensures.is.0 c.in_ok-made.ensures.is.1 c.in_ok-place.ensures.place.1

pub returns-in_err-place-clause-grows : goal.returns-in_err-place-clause-grows
returns-in_err-place-clause-grows c = grown c.self.inside.places c.self.inside.pairs c.pair_place.new.self c.pair_place.new.self c.self.inside.proposal c.args.self.now c.self.view_is c.requires c.self.invariant.0 c.self.invariant.1 refl c.pair_place.ensures.grows

pub returns-in_err-made-clause-grows : goal.returns-in_err-made-clause-grows
returns-in_err-made-clause-grows c = grown c.self.inside.places c.self.inside.pairs c.pair_place.new.self c.make_proposal.new.pairs c.self.inside.proposal c.args.self.now c.self.view_is c.requires c.self.invariant.0 c.self.invariant.1
    c.make_proposal.ensures.labels c.pair_place.ensures.grows

pub returns-clause-grows : goal.returns-clause-grows
returns-clause-grows c = grown c.self.inside.places c.self.inside.pairs c.pair_place.new.self c.make_proposal.new.pairs c.self.inside.proposal c.args.self.now c.self.view_is c.requires c.self.invariant.0 c.self.invariant.1
    c.make_proposal.ensures.labels c.pair_place.ensures.grows
