use Rattle.std.proofs.Common.{refl, sym, ◌∙◌}
use Rattle.kr_judge.proofs.IndexSteps.{made_there, made_fresh, made_and_gone, without_fresh}
use Rattle.kr_judge.proofs.proposal.make_proposal.Goals as goal

pub returns-in-Ok-insert-clause-made : goal.returns-in-Ok-insert-clause-made
returns-in-Ok-insert-clause-made c = made_fresh c.args.places.now c.insert.new.self c.args.pairs.now c.put_path.new.self c.as_str-text.result.now c.in_ok-kept.kept c.in-Ok.key c.args.place c.requires.indexed
    c.requires.place c.put_path.ensures.length c.in-None.ensures (c.in_ok-kept.ensures ∙ sym c.as_str-text.ensures) c.in-Ok.ensures c.in-Ok-put_path.ensures.ok c.in-Ok-insert.ensures.ok c.in-Ok-insert.ensures.sorted

pub returns-in-Err-insert-clause-indexed : goal.returns-in-Err-insert-clause-indexed
returns-in-Err-insert-clause-indexed c = made_and_gone c.args.places.now c.insert.new.self c.args.pairs.now c.put_path.new.self c.take_path.new.self c.as_str-text.result.now c.in_ok-kept.kept c.args.place c.requires.indexed
    c.in-None.ensures (c.in_ok-kept.ensures ∙ sym c.as_str-text.ensures) c.in-Ok-put_path.ensures.ok c.take_path.ensures.taken c.in-Err-insert.ensures.err

pub returns-in-Some-clause-made : goal.returns-in-Some-clause-made
returns-in-Some-clause-made c = made_there c.args.places.now c.args.pairs.now
    c.put_path.new.self c.as_str-text.result.now c.in_ok-kept.kept c.args.place c.in-Some._own
    c.requires.indexed c.requires.place c.put_path.ensures.length c.in-Some.ensures
    (c.in_ok-kept.ensures ∙ sym c.as_str-text.ensures) c.in-Ok-put_path.ensures.ok

pub returns-in-Some-clause-fresh : goal.returns-in-Some-clause-fresh
returns-in-Some-clause-fresh c = refl

pub returns-in-Ok-insert-clause-fresh : goal.returns-in-Ok-insert-clause-fresh
returns-in-Ok-insert-clause-fresh c = without_fresh c.args.places.now c.insert.new.self
    c.as_str-text.result.now c.in_ok-kept.kept c.in-Ok.key c.args.place c.in-None.ensures
    (c.in_ok-kept.ensures ∙ sym c.as_str-text.ensures) c.in-Ok.ensures
    c.in-Ok-insert.ensures.ok
