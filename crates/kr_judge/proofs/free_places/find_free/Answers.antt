use Rattle.std.proofs.Common.{◌∙◌, arith}
use Rattle.kr_judge.proofs.Pairs.{labels_same, paths_same}
use Rattle.kr_judge.proofs.Frees.{free_within, free_again, empty_at, free_left, free_none, none_left, still_some, unlisted}
use Rattle.kr_judge.proofs.free_places.find_free.Goals as goal

pub returns-then-is_free-clause-free : goal.returns-then-is_free-clause-free
returns-then-is_free-clause-free c = free_again c.loop-place.free.items c.pop.new.self.items c.push_reserved.new.self.items c.loop-place.pairs.items c.in-Some.place c.loop-place.invariant.0 c.in-Some.ensures.items c.push_reserved.ensures.items

pub loop-place-preserved : goal.loop-place-preserved
loop-place-preserved c =
    let h = free_within c.loop-place.free.items c.pop.new.self.items c.loop-place.pairs.items c.in-Some.place c.loop-place.invariant.0 c.in-Some.ensures.items in
    let kept = unlisted c.index_mut.result.now c.unlist.new.self c.unlist.ensures in (
      free_left c.loop-place.free.items c.pop.new.self.items c.loop-place.pairs.items c.in-Some.place c.unlist.new.self c.loop-place.invariant.0 c.in-Some.ensures.items kept.0
          (still_some c.loop-place.pairs.items c.in-Some.place c.index.result.now c.index_mut.result.now c.unlist.new.self h c.index.ensures c.index_mut.ensures.value (c.is_free.ensures.no c.if-is_free.false) kept.3),
      labels_same c.loop-place.pairs.items c.in-Some.place c.index_mut.result.now c.unlist.new.self c.index_mut.ensures.value kept.1 kept.2 ∙ c.loop-place.invariant.1,
      paths_same c.loop-place.pairs.items c.in-Some.place c.index_mut.result.now c.unlist.new.self c.index_mut.ensures.value kept.3 ∙ c.loop-place.invariant.2,
      c.loop-place.invariant.3,
      c.pop.ensures.capacity ∙ c.loop-place.invariant.4,
    )

pub returns-clause-none : goal.returns-clause-none
returns-clause-none c = free_none c.loop-place.free.items c.loop-place.pairs.items c.loop-place.invariant.0 (none_left c.loop-place.free.items (omega (arith, c.in_default.ensures.cases.0, c.loop-place.free.ok.0)))

pub index-requires : goal.index-requires
index-requires c =
    let h = free_within c.loop-place.free.items c.pop.new.self.items
    c.loop-place.pairs.items c.in-Some.place c.loop-place.invariant.0 c.in-Some.ensures.items in
    omega (arith, h, c.loop-place.pairs.ok.0)

pub index_mut-requires : goal.index_mut-requires
index_mut-requires c =
    let h = free_within c.loop-place.free.items c.pop.new.self.items
    c.loop-place.pairs.items c.in-Some.place c.loop-place.invariant.0 c.in-Some.ensures.items in
    omega (arith, h, c.loop-place.pairs.ok.0)

pub returns-then-is_free-clause-some : goal.returns-then-is_free-clause-some
returns-then-is_free-clause-some c =
    let h = free_within c.loop-place.free.items c.pop.new.self.items
    c.loop-place.pairs.items c.in-Some.place c.loop-place.invariant.0 c.in-Some.ensures.items in (
      h,
      empty_at c.loop-place.pairs.items c.in-Some.place c.index.result.now h c.index.ensures
          (c.is_free.ensures.yes c.if-is_free.true),
    )
