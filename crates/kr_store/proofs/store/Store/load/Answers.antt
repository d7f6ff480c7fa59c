-- Answers of Store::load.
use Rattle.std.proofs.Common.{ℕ, Err, subst, sym, ap, ◌∙◌, arith}
use Rattle.kr_base.specs.Faults.{Rose, counted}
use Rattle.kr_store.specs.inner.Reading.{Ahead}
use Rattle.kr_store.specs.Stores.{Loads, load_failed}
use Rattle.kr_store.proofs.Refusals.{load_refused, too_long}
use Rattle.kr_store.proofs.store.Store.load.Goals as goal

pub returns-then-length-limit-clause-loads : goal.returns-then-length-limit-clause-loads
returns-then-length-limit-clause-loads g c = too_long (g.T.Tape.told c.args.tape) c.args.limit
    c.in-Ok.length c.in-Ok.ensures.length c.if-length-limit.true

pub returns-in-Err-load_rows-clause-loads : goal.returns-in-Err-load_rows-clause-loads
returns-in-Err-load_rows-clause-loads g c =
    subst (λ t. Loads t c.args.limit
    (Err (c.in-Err-load_rows.no, c.into_tape-in-Err-load_rows.result)))
    (ap (λ (r : Ahead). r.left) c.in-Ok-new.ensures.ok ∙ c.in-Ok.ensures.same)
    (load_refused c.in-Ok-new.reader c.args.limit c.in-Err-load_rows.no
    c.into_tape-in-Err-load_rows.result
    (omega (arith, ap (λ (r : Ahead). r.end) c.in-Ok-new.ensures.ok))
    c.in-Err-load_rows.ensures.loads)

-- a fault is told, once
pub returns-in-Err-load_rows-clause-failed : goal.returns-in-Err-load_rows-clause-failed
returns-in-Err-load_rows-clause-failed g c = λ e.
    let first = ap (λ (r : Ahead). r.count) c.in-Ok-new.ensures.ok ∙ c.in-Ok.ensures.cause.once in
    subst (λ (n : ℕ). Rose n (g.T.Tape.count c.into_tape-in-Err-load_rows.result)) first
    (subst (λ (n : ℕ). Rose c.in-Ok-new.reader.count n)
    (sym c.into_tape-in-Err-load_rows.ensures.count)
    (c.in-Err-load_rows.ensures.advances.rose (ap load_failed e)))

pub returns-in-Err-load_rows-clause-once : goal.returns-in-Err-load_rows-clause-once
returns-in-Err-load_rows-clause-once g c =
    c.into_tape-in-Err-load_rows.ensures.count ∙ c.in-Err-load_rows.ensures.advances.once
    ∙ ap (counted (load_failed c.in-Err-load_rows.no))
    (ap (λ (r : Ahead). r.count) c.in-Ok-new.ensures.ok ∙ c.in-Ok.ensures.cause.once)
