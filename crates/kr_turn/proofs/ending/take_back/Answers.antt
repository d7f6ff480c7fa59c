-- What the tactic leaves open of `take_back`.
use Rattle.std.proofs.Common.{rules, arith, ◌≡◌, false, slice_index_or, sym, ◌∙◌, ap, subst, Option, Some}
use Rattle.std.proofs.lemmas.Grind.{get_or-set_at}
use Rattle.std.specs.Slots.{slots_counts, slots_filled}
use mathlib.Core.Option.{some-injective}
use Rattle.std.specs.Prelude.{IsSome}
use Rattle.kr_turn.specs.inner.Endings.{IsEnd}
use Rattle.kr_turn.specs.Keys.{terms_of}
use Rattle.kr_turn.proofs.Acts.{some_same}
use Rattle.kr_turn.proofs.Ends.{ends}
use Rattle.kr_turn.proofs.ending.take_back.Goals as goal

-- the one slot is full, and empty once its state is taken
pub take-requires : goal.take-requires
take-requires g c =
    let closed = c.close_with-closed.ensures in
    let one = closed.counts.1 ∙ c.requires.table.1.1 in
    (omega (arith, one), closed.values.1 0 (omega arith) (omega (arith, one)))

pub free-requires : goal.free-requires
free-requires g c = λ k low.
    let one = c.close_with-closed.ensures.counts.1 ∙ c.requires.table.1.1 in
    let was = c.close_with-closed.result.slots in
    let taken = c.take.ensures.others in
    ap (λ full. slice_index_or full k false) taken.1
    ∙ get_or-set_at (slots_filled was) 0 k false false (omega (arith, low, taken.2, one))
    (omega (arith, one, (slots_counts was).1))

pub unwrap-state-requires : goal.unwrap-state-requires
unwrap-state-requires g c =
    let T = g.S.Turned in
    let end = ends T.lines T.basis T.room T.seat_of
    (terms_of T.basis T.room c.args.table.shared.key) _ _ c.args.token.id c.args.token.me.0
    c.requires.rests c.requires.all c.close_with-closed.ensures.values.2 in
    let taken : Some end.0 ≡ c.take.result =
    some-injective _ _ (sym end.1 ∙ c.take.ensures.value) in
    subst (λ (o : Option g.row.S.Denot). IsSome o) taken (search rules)

pub returns : goal.returns
returns g c =
    let T = g.S.Turned in
    let terms = terms_of T.basis T.room c.args.table.shared.key in
    let end = ends T.lines T.basis T.room T.seat_of terms _ _ c.args.token.id c.args.token.me.0
    c.requires.rests c.requires.all c.close_with-closed.ensures.values.2 in
    let taken : Some end.0 ≡ c.take.result =
    some-injective _ _ (sym end.1 ∙ c.take.ensures.value) in
    subst (λ (y : g.row.S.Denot). IsEnd T.lines T.basis T.room T.seat_of terms c.args.token.me.0 y)
    (some_same _ _ (taken ∙ c.unwrap-state.ensures)) end.2
