use Rattle.std.proofs.Common.{ap, subst, ◌∙◌}
use Rattle.std.specs.Map.{lookup}
use Rattle.std.specs.Set.{remove_key}
use Rattle.std.specs.BTreeMap.{is_at}
use Rattle.kr_config.specs.Nexts.{name_cmp}
use Rattle.kr_judge.specs.inner.Indexes.{IsMoved}
use Rattle.kr_judge.proofs.IndexSteps.{kept}
use Rattle.kr_judge.proofs.proposal.keep_proposal.Goals as goal

pub returns-clause-indexed : goal.returns-clause-indexed
returns-clause-indexed c = kept c.args.places.now c.insert.new.self c.args.pairs.now c.take_unless.new.self c.args.proposal c.in-Some.own c.requires
    (c.in-Some.ensures ∙ ap (λ p. lookup (is_at (name_cmp p)) c.args.places.now) c.as_str.ensures)
    (subst (λ p. IsMoved (remove_key (is_at (name_cmp p))) c.in-Some.own c.args.proposal.place c.args.pairs.now c.take_unless.new.self) c.as_str-2.ensures c.take_unless.ensures.moved)
    c.in-Ok.ensures.ok c.in-Ok.ensures.sorted
