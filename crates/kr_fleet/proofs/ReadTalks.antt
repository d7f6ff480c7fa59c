-- The exchanges by which `read` finds what it answers.
use Rattle.std.proofs.Common.{◌≡◌, inr, ℕ, List, [], Option, None, Some, Result, Ok, Err, refl, sym, ap, subst, ◌∙◌}
use Rattle.std.specs.Prelude.{IfSome}
use Rattle.kr_base.specs.Walks.{Talk}
use Rattle.kr_base.proofs.Walks.{talk_none, talk_so}
use Rattle.kr_kms.specs.Cache.{CacheState}
use Rattle.kr_kms.specs.Exchanges.{Exchange}
use Rattle.kr_provider.specs.BenchState.{BenchState}
use Rattle.kr_provider.specs.Exchanges.{ReadsBy}
use Rattle.kr_provider.specs.Publication.{Publication, list_at}
use Rattle.kr_provider.specs.declared.refusal.Opened.{Opened}
use Rattle.kr_provider.specs.declared.refusal.UnsealNo.{UnsealNo}
use Rattle.kr_store.specs.declared.rows.Row.{Row}
use Rattle.kr_rollout.specs.declared.answer.Answer.TheVariants as answer
use Rattle.kr_rollout.specs.declared.event.Event.TheVariants as event
use Rattle.kr_history.specs.Acting.{Caller, AddsEntry, IsCaller}
use Rattle.kr_history.specs.Asking.{AsksFetch}
use Rattle.kr_history.specs.Calls.{HoldsAdopted, LetsGo}
use Rattle.kr_history.specs.declared.call.CallNo.{CallNo}
use Rattle.kr_history.specs.TakingUp.{HasTakenUp}
use Rattle.kr_history.proofs.HeldFacts.{held_is_named}
use Rattle.kr_history.proofs.Meanwhile.{held_meanwhile, of_taken}
use Rattle.kr_fleet.specs.CallExchanges.{AsksNone, FindsBy, FindsRowBy, IsReadBy}
use Rattle.kr_fleet.specs.declared.outcome.Read.{Read}
use Rattle.kr_fleet.specs.declared.outcome.Read.TheVariants.{Absent}
use Rattle.kr_fleet.specs.inner.Stages.{row_value}
use Rattle.kr_fleet.proofs.Finding.{IsAt, absent_fetched, none_fetched, value_found}

module _ {S : Type 0} (step : S → Exchange → S → Type 0) (path : List ℕ) (old new : Caller)
    (links news : S) (cache after : CacheState) where
  -- nothing was fetched, and no link was asked
  pub refused_talk : (p : Publication) (why : CallNo) → AsksFetch path old (Err why) new
      → Talk step links links (FindsBy path p old cache (Err why) new cache)
  refused_talk p why a = talk_none step (FindsBy path p old cache (Err why) new cache) links
      (none_fetched path old new
      (λ row opened. FindsRowBy path p old cache row opened new cache []) (AsksNone cache cache [])
      why a (refl, refl))

  pub absent_talk : (p : Publication) (found : Option Row) → found ≡ None
      → AsksFetch path old (Ok found) new
      → Talk step links links (FindsBy path p old cache (Ok Absent) new cache)
  absent_talk p found is a = talk_none step (FindsBy path p old cache (Ok Absent) new cache) links
      (absent_fetched path old new
      (λ row opened. FindsRowBy path p old cache row opened new cache []) (AsksNone cache cache [])
      found is a (refl, refl))

  -- the row as it was lent
  pub found_talk : (published : Option Publication) (found : Option Row) (row lent : Row)
      (opened : Result Opened UnsealNo) (result : Result Read CallNo) → IsCaller old
      → HoldsAdopted published old.mine
      → AsksFetch path old (Ok found) new → found ≡ Some row → IsAt path row → lent ≡ row
      → IfSome published (λ p. Talk step links news (ReadsBy p.seeds (list_at p lent.resource)
      lent.path lent.stored cache opened after))
      → result ≡ row_value lent.revision opened
      → IfSome published (λ p. Talk step links news (FindsBy path p old cache result new after))
  found_talk published found row lent opened result k h fetched is at same unsealed e =
      let p = h.p in
      let f : AddsEntry old (event.Fetch path) (answer.Found row) new =
      subst (λ f. AsksFetch path old (Ok f) new) is fetched in
      let u : Talk step links news (ReadsBy p.seeds (list_at p row.resource) path row.stored cache
      opened after) =
      subst (λ q. Talk step links news (ReadsBy p.seeds (list_at p row.resource) q row.stored cache
      opened after)) at.0
      (subst (λ (r : Row). Talk step links news (ReadsBy p.seeds (list_at p r.resource) r.path
      r.stored cache opened after)) same
      (subst (λ o. IfSome o (λ p. Talk step links news (ReadsBy p.seeds (list_at p lent.resource)
      lent.path lent.stored cache opened after))) h.adopted unsealed)) in
      subst (λ o. IfSome o (λ p. Talk step links news (FindsBy path p old cache result new after)))
      (sym h.adopted)
      (subst (λ r. Talk step links news (FindsBy path p old cache r new after))
      (sym (e ∙ ap (λ (r : Row). row_value r.revision opened) same))
      (talk_so step (ReadsBy p.seeds (list_at p row.resource) path row.stored cache opened after)
      (FindsBy path p old cache (row_value row.revision opened) new after) links news u
      (λ es reads. value_found path old new
      (λ row opened. FindsRowBy path p old cache row opened new after es) (AsksNone cache after es)
      row opened (record {
        found = f;
        named = (held_is_named old new (event.Fetch path) (answer.Found row) h.number p k f
            h.held).published;
        reads = reads;
      }))))

-- the stages of a call, one behind another
pub read_talk : {L D : Type 0} {replica : ℕ} {old adopted : Caller} {before taken : BenchState L D}
    (t : HasTakenUp replica old before adopted taken) (step : List L → Exchange → List L → Type 0)
    (path copy : List ℕ) (acted new : Caller) (worked : BenchState L D)
    (done result : Result Read CallNo) → copy ≡ path
    → IfSome taken.published (λ p. Talk step taken.links worked.links
    (FindsBy copy p adopted taken.cache done acted worked.cache))
    → LetsGo acted done result new
    → Talk step taken.links worked.links
    (IsReadBy path replica old taken.cache result new worked.cache)
read_talk {L} {D} {replica} {old} {adopted} {before} {taken} t step path copy acted new worked done
    result own f g =
    talk_so step (FindsBy copy t.p adopted taken.cache done acted worked.cache)
    (IsReadBy path replica old taken.cache result new worked.cache) taken.links worked.links
    (of_taken t (λ p. Talk step taken.links worked.links
    (FindsBy copy p adopted taken.cache done acted worked.cache)) f)
    (λ es does. inr (held_meanwhile
    (λ number p from done to. FindsBy path p from taken.cache done to worked.cache es)
    replica (t.number, t.p) old adopted acted new done result t.adopts
    (subst (λ q. FindsBy q t.p adopted taken.cache done acted worked.cache es) own does) g))
