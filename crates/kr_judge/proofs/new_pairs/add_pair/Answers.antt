use Rattle.std.proofs.Common.{◌∷◌, [], ◌++◌, ap, ◌∙◌, arith}
use Rattle.kr_judge.proofs.Groups.{grouped_added}
use Rattle.kr_judge.proofs.Frees.{free_fits, free_added}
use Rattle.kr_judge.proofs.new_pairs.add_pair.Goals as goal

pub overflow_sub-more : goal.overflow_sub-more
overflow_sub-more c = omega (arith, free_fits c.args.free.now.items c.args.pairs.now.items c.requires.free, c.len.ensures, c.len-place.ensures, c.args.free.now.ok.0, c.args.pairs.now.ok.0)

pub push_reserved-requires-2 : goal.push_reserved-requires-2
push_reserved-requires-2 c = omega (
  arith,
  free_fits c.args.free.now.items c.args.pairs.now.items c.requires.free,
  c.len.ensures,
  c.len-place.ensures,
  c.args.free.now.ok.0,
  c.args.pairs.now.ok.0,
  c.in-Ok-reserve.ensures.ok,
  c.reserve-2.ensures.len,
)

pub returns-clause-grouped : goal.returns-clause-grouped
returns-clause-grouped c = grouped_added c.args.groups.now c.add.new.self c.args.pairs.now.items c.push_reserved.new.self.items c.args.pair c.as_str.result.now c.len-place.result c.requires.grouped c.as_str.ensures
    (omega (arith, c.len-place.ensures, c.args.pairs.now.ok.0)) c.in-Ok-add.ensures.ok (c.push_reserved.ensures.items ∙ ap (λ l. l ++ c.args.pair ∷ []) c.reserve.ensures.items)

pub returns-clause-free : goal.returns-clause-free
returns-clause-free c = free_added c.args.free.now.items c.push_reserved-2.new.self.items c.args.pairs.now.items c.push_reserved.new.self.items c.args.pair c.len-place.result c.requires.free c.requires.listed
    (omega (arith, c.len-place.ensures, c.args.pairs.now.ok.0)) (c.push_reserved-2.ensures.items ∙ ap (λ l. l ++ c.len-place.result ∷ []) c.reserve-2.ensures.items)
    (c.push_reserved.ensures.items ∙ ap (λ l. l ++ c.args.pair ∷ []) c.reserve.ensures.items)
