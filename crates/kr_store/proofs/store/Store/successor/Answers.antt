-- Answers of Store::successor.
use Rattle.std.proofs.Common.{◌-◌, IfOk, IfSome, subst}
use Rattle.kr_store.specs.Rows.{live, IsRow}
use Rattle.kr_store.specs.Stores.{Kept, IsNext}
use Rattle.kr_store.specs.inner.KeptRows.{log_rows_of}
use Rattle.kr_store.proofs.Shared.{shared_at, lies_in, put_at, shares_rules, shares_it, shares_next, next_is}
use Rattle.kr_store.proofs.store.Store.successor.Goals as goal

pub share-requires : goal.share-requires
share-requires g c = lies_in (shared_at c.self.invariant c.in-Some.ensures.0 c.in-Some.ensures.2)
    c.as_slice.ensures

pub returns-in-Some-clause-next : goal.returns-in-Some-clause-next
returns-in-Some-clause-next g c =
    let r = c.self.inside in
    let n = c.in-Some.ensures in
    let target = live (log_rows_of r.rows.0) n.0 in
    shares_next c.share.result c.args.self.now.rows c.args.path.now target
    (shares_it c.share.result c.as_slice.result.now (c.in-Some.revision - 1) target
    c.share.ensures c.as_slice.ensures (shared_at c.self.invariant n.0 n.2).shares)
    (subst (λ (k : Kept). IsNext k.rows c.args.path.now target) c.self.view_is
    (next_is r.rows.0 r.index c.args.path.now n.0 c.in-Some.revision c.self.invariant.indexed
    n.1 n.2 n.3))

pub returns-in-Some-clause-rules : goal.returns-in-Some-clause-rules
returns-in-Some-clause-rules g c =
    let p = put_at c.self.invariant c.in-Some.ensures.0 c.in-Some.ensures.2 in
    subst (λ (k : Kept). IfOk c.share.result (λ found. IfSome found (IsRow k.format)))
    c.self.view_is (shares_rules c.self.inside.format c.share.result c.as_slice.result.now
    (c.in-Some.revision - 1) p.0 c.share.ensures c.as_slice.ensures p.1.shares p.1.rules)
