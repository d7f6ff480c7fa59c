use Rattle.std.proofs.Common.{◌≡◌, false, set, sym, subst, ◌∙◌, arith}
use Rattle.std.specs.Set.{remove_key}
use Rattle.std.specs.BTreeMap.{is_at}
use Rattle.kr_config.specs.Nexts.{name_cmp}
use Rattle.kr_judge.specs.inner.Places.{is_listed, AreFree}
use Rattle.kr_judge.proofs.Pairs.{changed}
use Rattle.kr_judge.proofs.Frees.{listed_here, free_room, free_listed, free_set}
use Rattle.kr_judge.proofs.free_places.take_path.Goals as goal

pub push_reserved-requires : goal.push_reserved-requires
push_reserved-requires c =
    let was : is_listed c.args.pairs.now.items c.args.place ≡ false = listed_here c.args.pairs.now.items c.args.place c.index_mut.result.now c.requires.place c.index_mut.ensures.value ∙ (c.take.ensures.now c.if-take.true).0 in
    omega (arith, free_room c.args.free.now.items c.args.pairs.now.items c.args.place c.requires.free c.requires.place was, c.requires.room)

pub returns-then-take-clause-free : goal.returns-then-take-clause-free
returns-then-take-clause-free c =
    let now = c.take.ensures.now c.if-take.true in
    subst (λ l. AreFree l (set c.args.pairs.now.items c.args.place c.take.new.self)) (sym c.push_reserved.ensures.items) (free_listed c.args.free.now.items c.args.pairs.now.items c.args.place c.take.new.self c.requires.free c.requires.place
    (listed_here c.args.pairs.now.items c.args.place c.index_mut.result.now c.requires.place c.index_mut.ensures.value ∙ now.0) now.1)

pub returns-then-take-clause-taken : goal.returns-then-take-clause-taken
returns-then-take-clause-taken c = changed (remove_key (is_at (name_cmp c.args.path.now))) c.args.pairs.now.items c.args.place c.index_mut.result.now c.take.new.self c.index_mut.ensures.value c.requires.place
    c.take.ensures.resource c.take.ensures.who c.take.ensures.paths

pub returns-else-take-clause-free : goal.returns-else-take-clause-free
returns-else-take-clause-free c = free_set c.args.free.now.items c.args.pairs.now.items c.args.place c.take.new.self c.requires.free c.requires.place
    (c.take.ensures.stays c.if-take.false ∙ sym (listed_here c.args.pairs.now.items c.args.place c.index_mut.result.now c.requires.place c.index_mut.ensures.value)) (c.take.ensures.empty c.if-take.false)

pub returns-else-take-clause-taken : goal.returns-else-take-clause-taken
returns-else-take-clause-taken c = changed (remove_key (is_at (name_cmp c.args.path.now))) c.args.pairs.now.items c.args.place c.index_mut.result.now c.take.new.self c.index_mut.ensures.value c.requires.place
    c.take.ensures.resource c.take.ensures.who c.take.ensures.paths
