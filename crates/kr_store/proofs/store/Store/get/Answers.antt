-- Answers of Store::get.
use Rattle.std.proofs.Common.{◌-◌, IfOk, IfSome, subst, sym, ap, ◌∙◌}
use Rattle.kr_store.specs.Rows.{live, IsRow}
use Rattle.kr_store.specs.Stores.{Kept}
use Rattle.kr_store.proofs.Shared.{shared_at, lies_in, put_at, shares_rules, shares_it}
use Rattle.kr_store.proofs.store.Store.get.Goals as goal

pub share-requires : goal.share-requires
share-requires g c = lies_in
    (shared_at c.self.invariant c.args.path.now (sym c.live.ensures ∙ c.in-Some.is))
    c.as_slice.ensures

pub returns-in-Some-clause-live : goal.returns-in-Some-clause-live
returns-in-Some-clause-live g c =
    let s = shared_at c.self.invariant c.args.path.now (sym c.live.ensures ∙ c.in-Some.is) in
    shares_it c.share.result c.as_slice.result.now (c.in-Some.revision - 1)
    (live c.args.self.now.rows c.args.path.now) c.share.ensures c.as_slice.ensures
    (λ d. s.shares d ∙ ap (λ (k : Kept). live k.rows c.args.path.now) c.self.view_is)

pub returns-in-Some-clause-rules : goal.returns-in-Some-clause-rules
returns-in-Some-clause-rules g c =
    let p = put_at c.self.invariant c.args.path.now (sym c.live.ensures ∙ c.in-Some.is) in
    subst (λ (k : Kept). IfOk c.share.result (λ found. IfSome found (IsRow k.format)))
    c.self.view_is (shares_rules c.self.inside.format c.share.result c.as_slice.result.now
    (c.in-Some.revision - 1) p.0 c.share.ensures c.as_slice.ensures p.1.shares p.1.rules)
