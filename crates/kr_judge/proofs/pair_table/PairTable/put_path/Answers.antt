use Rattle.std.proofs.Common.{◌<◌, List, length, set, OnOk, refl, sym, subst}
use Rattle.std.specs.BTreeSet.{insert_key}
use Rattle.std.proofs.lemmas.List.{length-set}
use Rattle.kr_config.specs.Nexts.{name_cmp}
use Rattle.kr_judge.specs.declared.pair.Pair.{Pair}
use Rattle.kr_judge.specs.inner.Indexes.{IsChangedAt}
use Rattle.kr_judge.proofs.Pairs.{labels_same, put_changed}
use Rattle.kr_judge.proofs.Groups.{same_grouped}
use Rattle.kr_judge.proofs.Frees.{put_free}
use Rattle.kr_judge.proofs.pair_table.PairTable.put_path.Goals as goal

pub invariant_of-self : goal.invariant_of-self
invariant_of-self c =
    let pairs : List Pair = c.self.inside.pairs.items in
    let own : Pair = c.index_mut.result.now in
    let new : Pair = record { resource = own.resource; who = own.who; paths = c.insert.new.self; listed = own.listed } in
    let h : c.args.place < length pairs = subst (λ (l : List Pair). c.args.place < length l) (sym c.self.view_is) c.requires in (
      same_grouped c.self.inside.groups pairs _ c.self.invariant.0 (labels_same pairs c.args.place own new c.index_mut.ensures.value refl refl) (length-set pairs c.args.place new),
      put_free c.insert.result c.self.inside.free.items pairs c.args.place own new c.args.path.now c.self.invariant.1 h c.index_mut.ensures.value refl c.insert.ensures.ok c.insert.ensures.err,
      c.self.invariant.2,
    )

pub returns-clause-ok : goal.returns-clause-ok
returns-clause-ok c =
    let pairs : List Pair = c.self.inside.pairs.items in
    let own : Pair = c.index_mut.result.now in
    let new : Pair = record { resource = own.resource; who = own.who; paths = c.insert.new.self; listed = own.listed } in
    let h : c.args.place < length pairs = subst (λ (l : List Pair). c.args.place < length l) (sym c.self.view_is) c.requires in
    subst (λ (l : List Pair). OnOk c.insert.result (IsChangedAt (λ paths. insert_key name_cmp paths c.args.path.now) c.args.place l (set pairs c.args.place new))) c.self.view_is
    (put_changed c.insert.result (λ paths. insert_key name_cmp paths c.args.path.now) pairs c.args.place own new c.index_mut.ensures.value h refl refl c.insert.ensures.ok)
