use Rattle.std.proofs.Common.{Some, sym, ap, subst, ◌∙◌}
use Rattle.std.specs.Map.{lookup, remove_entry}
use Rattle.std.specs.Set.{remove_key}
use Rattle.std.specs.BTreeMap.{is_at}
use Rattle.kr_config.specs.Nexts.{name_cmp}
use Rattle.kr_judge.specs.inner.Indexes.{IsChangedAt}
use Rattle.kr_judge.proofs.IndexSteps.{apart, gone_fresh, gone_there, taken_fresh, taken_there}
use Rattle.kr_judge.proofs.Indexed.{gone_own}
use Rattle.kr_judge.proofs.proposal.unmake_proposal.Goals as goal

pub returns-clause-indexed : goal.returns-clause-indexed
returns-clause-indexed c = gone_there c.args.places.now c.args.pairs.now c.take_path-2.new.self c.args.proposal c.in-Some.own c.requires
    (c.in-Some.ensures ∙ ap (λ p. lookup (is_at (name_cmp p)) c.args.places.now) c.as_str-2.ensures) (apart c.in-Some.own c.args.proposal.place c.if-own-proposal.false)
    (subst (λ p. IsChangedAt (remove_key (is_at (name_cmp p))) c.args.proposal.place c.args.pairs.now c.take_path-2.new.self) c.as_str-3.ensures c.take_path-2.ensures.taken)

pub returns-then-proposal-clause-indexed : goal.returns-then-proposal-clause-indexed
returns-then-proposal-clause-indexed c = gone_fresh c.args.places.now c.remove-own.new.self
    c.args.pairs.now c.take_path.new.self c.args.proposal c.requires c.if-proposal.true
    (c.remove-own.ensures.removed
    ∙ ap (λ p. remove_entry (is_at (name_cmp p)) c.args.places.now) c.as_str.ensures)
    c.remove-own.ensures.sorted
    (subst (λ p. IsChangedAt (remove_key (is_at (name_cmp p))) c.args.proposal.place
    c.args.pairs.now c.take_path.new.self) c.as_str-then-proposal.ensures
    c.take_path.ensures.taken)

pub returns-then-proposal-clause-places : goal.returns-then-proposal-clause-places
returns-then-proposal-clause-places c = taken_fresh c.args.places.now c.remove-own.new.self
    c.args.proposal c.if-proposal.true (c.remove-own.ensures.removed
    ∙ ap (λ p. remove_entry (is_at (name_cmp p)) c.args.places.now) c.as_str.ensures)

pub returns-then-own-proposal-clause-indexed : goal.returns-then-own-proposal-clause-indexed
returns-then-own-proposal-clause-indexed c = gone_own c.args.places.now c.args.pairs.now
    c.args.proposal c.requires (sym (c.in-Some.ensures
    ∙ ap (λ p. lookup (is_at (name_cmp p)) c.args.places.now) c.as_str-2.ensures)
    ∙ ap Some c.if-own-proposal.true)

pub returns-then-own-proposal-clause-places : goal.returns-then-own-proposal-clause-places
returns-then-own-proposal-clause-places c =
    taken_there c.args.places.now c.args.proposal c.if-proposal.false

pub returns-clause-places : goal.returns-clause-places
returns-clause-places c =
    taken_there c.args.places.now c.args.proposal c.if-proposal.false
