-- Answers of load_rows.
use Rattle.std.proofs.Common.{List, length, ◌+◌, Err, subst, sym, ◌∙◌, ap}
use Rattle.kr_store.specs.declared.answers.StoreNo.{StoreNo}
use Rattle.kr_store.specs.declared.format.Format.{Format}
use Rattle.kr_store.specs.declared.format.Format.TheVariants.{Two}
use Rattle.kr_store.specs.declared.kept_row.KeptRow.{KeptRow}
use Rattle.kr_store.specs.inner.Reading.{Moves, AreLoaded, LoadsRows, kept_bytes}
use Rattle.kr_store.specs.Stores.{load_failed}
use Rattle.kr_store.proofs.Steps.{moves_both}
use Rattle.kr_store.proofs.Loading.{IsReadTo, nothing_loaded, loading_more, loading_ended, row_stops, row_refused, next_small, refusal_failed}
use Rattle.kr_store.proofs.load.load_rows.Goals as goal

pub returns-then-is_at_end-clause-advances : goal.returns-then-is_at_end-clause-advances
returns-then-is_at_end-clause-advances g c = c.is_at_end.ensures.moves

-- the row's reading stops, and so does that of all
pub returns-in-Err-clause-advances : goal.returns-in-Err-clause-advances
returns-in-Err-clause-advances g c =
    let at = c.place-at.result in
    subst (λ (no : StoreNo). Moves (load_failed no) c.args.reader.now c.row.new.self)
    (sym c.load_refusal.ensures)
    (subst (λ failed. Moves failed c.args.reader.now c.row.new.self)
    (sym (refusal_failed c.in-Err.stop at))
    (moves_both c.args.reader.now c.loop-alloc.reader c.row.new.self c.loop-alloc.invariant.moves
    c.in-Err.ensures.reads.advances))

pub returns-then-is_at_end-clause-loads : goal.returns-then-is_at_end-clause-loads
returns-then-is_at_end-clause-loads g c =
    let first = c.args.reader.now in
    let none = c.no_rows.result in
    subst (λ (format : Format). AreLoaded first format none.rows.0 none.index)
    (sym c.no_rows.ensures.format)
    (subst (λ (rows : List KeptRow). AreLoaded first Two rows none.index)
    (sym c.no_rows.ensures.rows)
    (nothing_loaded first none.index c.is_at_end.ensures.moves c.requires
    (c.is_at_end.ensures.at.0 c.if-is_at_end.true) c.no_rows.ensures.index))

pub returns-in-Err-clause-loads : goal.returns-in-Err-clause-loads
returns-in-Err-clause-loads g c =
    let l = c.loop-alloc in
    let k = length c.as_slice.result.now + 1 in
    subst (λ (no : StoreNo). LoadsRows c.args.reader.now (Err no)) (sym c.load_refusal.ensures)
    (row_stops c.args.reader.now l.reader c.row.new.self c.in_ok-format.format l.rows.0 l.index k
    (kept_bytes k) c.in-Err.stop c.place-at.result l.invariant
    (ap (λ (l : List KeptRow). length l + 1) c.as_slice.ensures)
    (λ e. let t = c.is_at_end-in-loop-alloc.ensures.at.1 e in let f = c.loop-alloc-test.true in cc)
    c.place-at.ensures c.in-Err.ensures.reads.gives)

pub returns-then-not-allows-clause-loads : goal.returns-then-not-allows-clause-loads
returns-then-not-allows-clause-loads g c =
    let l = c.loop-alloc in
    let k = length c.as_slice.result.now + 1 in
    let next_is = ap (λ (l : List KeptRow). length l + 1) c.as_slice.ensures in
    row_refused c.args.reader.now l.reader c.row.new.self c.in_ok-format.format l.rows.0 l.index
    c.in-Ok.row k c.place-at.result l.invariant
    next_is (next_small c.args.reader.now l.reader c.in_ok-format.format l.rows.0 l.index k
    c.place-at.result l.invariant next_is c.place-at.ensures c.place-at.type_inv)
    c.place-at.ensures c.in-Ok.ensures.reads.gives c.in-Ok.ensures.reads.advances
    c.in-Ok.ensures.rule (sym c.allows.ensures ∙ c.if-not-allows.true)

pub loop-alloc-preserved : goal.loop-alloc-preserved
loop-alloc-preserved g c =
    let l = c.loop-alloc in
    let k = length c.as_slice.result.now + 1 in
    let next_is = ap (λ (l : List KeptRow). length l + 1) c.as_slice.ensures in
    subst (λ (rows : List KeptRow). IsReadTo c.args.reader.now c.row.new.self c.in_ok-format.format
    rows c.add_row.new.index) (sym c.in-Ok-add_row.ensures.rows)
    (loading_more c.args.reader.now l.reader c.row.new.self c.in_ok-format.format l.rows.0 l.index
    c.add_row.new.index c.in-Ok.row k l.invariant
    next_is (next_small c.args.reader.now l.reader c.in_ok-format.format l.rows.0 l.index k
    c.place-at.result l.invariant next_is c.place-at.ensures c.place-at.type_inv)
    c.in-Ok.ensures.reads.advances c.in-Ok.ensures.reads.gives c.in-Ok.ensures.rule
    (sym c.allows.ensures ∙ c.if-not-allows.false) c.in-Ok-add_row.ensures.index)

pub returns-clause-loads : goal.returns-clause-loads
returns-clause-loads g c =
    let l = c.loop-alloc in
    loading_ended c.args.reader.now l.reader c.in_ok-format.format l.rows.0 l.index l.invariant
    (c.is_at_end-in-loop-alloc.ensures.at.0 c.loop-alloc-test.false)
