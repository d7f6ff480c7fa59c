-- Answers of Store::live_count.
use Rattle.std.proofs.Common.{subst, sym}
use Rattle.kr_store.specs.Stores.{Kept, IsLiveCount}
use Rattle.kr_store.specs.inner.KeptRows.{log_rows_of}
use Rattle.kr_store.proofs.Listings.{counted}
use Rattle.kr_store.proofs.store.Store.live_count.Goals as goal

pub returns : goal.returns
returns g c =
    let r = c.self.inside in
    subst (λ (s : Kept). IsLiveCount s.rows c.live_count.result) c.self.view_is
    (subst (λ n. IsLiveCount (log_rows_of r.rows.0) n) (sym c.live_count.ensures.count)
    (counted (log_rows_of r.rows.0) r.index c.self.invariant.indexed
    c.live_count.ensures.ordered))
