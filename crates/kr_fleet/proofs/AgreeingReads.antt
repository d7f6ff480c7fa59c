-- By what agrees with its exchanges, a read tells the content.
use Rattle.std.proofs.Common.{◌≡◌, inl, inr, ℕ, List, [], ◌∷◌, ◌++◌, Option, None, Some, Result, Ok, Err, sym, ap, subst, ◌∙◌, append_assoc}
use Rattle.kr_kms.specs.Cache.{AreOpenBy, CacheState}
use Rattle.kr_kms.specs.Exchanges.{AgreeAll, Exchange}
use Rattle.kr_kms.specs.Opens.{Opens}
use Rattle.kr_provider.specs.Publication.{Publication, list_at}
use Rattle.kr_provider.specs.Reading.{Reading, data_of, refused}
use Rattle.kr_provider.specs.declared.refusal.Opened.{Opened}
use Rattle.kr_provider.specs.declared.refusal.UnsealNo.{UnsealNo}
use Rattle.kr_provider.specs.declared.refusal.UnsealNo.TheVariants as unsealing
use Rattle.kr_provider.specs.declared.refusal.ValueNo.{ValueNo}
use Rattle.kr_provider.proofs.AgreeTalks.{reading_agrees}
use Rattle.kr_store.specs.declared.rows.Row.{Row}
use Rattle.kr_rollout.specs.declared.answer.Answer.{Answer}
use Rattle.kr_rollout.specs.declared.answer.Answer.TheVariants as answer
use Rattle.kr_rollout.specs.declared.event.Event.TheVariants as event
use Rattle.kr_rollout.specs.declared.opening.Opening.{Opening}
use Rattle.kr_rollout.specs.Callers.{holding}
use Rattle.kr_history.specs.Acting.{Caller, AddsEntry, IsCaller}
use Rattle.kr_history.specs.Calls.{AdoptsNothing, LetsGo}
use Rattle.kr_history.specs.Contents.{IsContent}
use Rattle.kr_history.specs.Honesty.{IsHonest}
use Rattle.kr_history.specs.declared.call.CallNo.{CallNo}
use Rattle.kr_history.specs.declared.call.CallNo.TheVariants as refusal
use Rattle.kr_history.proofs.Following.{adopted_law}
use Rattle.kr_history.proofs.HonestPaths.{honest_at_each}
use Rattle.kr_history.proofs.KeptSeeds.{kept_open}
use Rattle.kr_history.proofs.Nexts.{caller_next, opening_is, seat_is, seen_is}
use Rattle.kr_fleet.specs.CallExchanges.{AsksNone, FindsBy, FindsRowBy}
use Rattle.kr_fleet.specs.CallForms.{FindsWhere}
use Rattle.kr_fleet.specs.ExchangeLaws.{IsContentBefore, ReadsAgree, TellsContent}
use Rattle.kr_fleet.specs.declared.outcome.Read.{Read}
use Rattle.kr_fleet.specs.declared.outcome.Read.TheVariants.{Absent, Value}
use Rattle.kr_fleet.proofs.Finding.{found_content, seeds_open}

-- what holds where a row is read, and where nothing is asked, holds
found_so : (path : List ℕ) (old new : Caller) (Reads : Row → Result Opened UnsealNo → Type 0)
    (Quiet P : Type 0) → ((row : Row) (opened : Result Opened UnsealNo) → Reads row opened → P)
    → (Quiet → P) → (result : Result Read CallNo) → FindsWhere path old new Reads Quiet result → P
found_so path old new Reads Quiet P some none (Ok Absent) f = none f.1
found_so path old new Reads Quiet P some none (Ok (Value revision plain stale)) f =
    some f.0 (Ok (record { plain = plain; stale = stale })) f.1
found_so path old new Reads Quiet P some none (Err (refusal.Value why)) f =
    some f.0 (Err (unsealing.Refused why)) f.1
found_so path old new Reads Quiet P some none (Err (refusal.PluginFailed name)) f =
    some f.0 (Err (unsealing.PluginFailed name)) f.1
found_so path old new Reads Quiet P some none (Err refusal.Spent) f = none f.1
found_so path old new Reads Quiet P some none (Err refusal.NoMemory) (inl f) =
    some f.0 (Err unsealing.NoMemory) f.1
found_so path old new Reads Quiet P some none (Err refusal.NoMemory) (inr f) = none f.1
found_so path old new Reads Quiet P some none (Err other) f = absurd f

module _ (opens : Opens) (cache after : CacheState) (es : List Exchange) (agree : AgreeAll opens es)
    (so : AreOpenBy opens cache.rows) where
  same_open : after ≡ cache → AreOpenBy opens after.rows
  same_open same = subst (λ (c : CacheState). AreOpenBy opens c.rows) (sym same) so

  -- ---- what is kept

  finds_open : (path : List ℕ) (p : Publication) (old new : Caller) (result : Result Read CallNo)
      → FindsBy path p old cache result new after es → AreOpenBy opens after.rows
  finds_open path p old new result f = found_so path old new
      (λ row opened. FindsRowBy path p old cache row opened new after es) (AsksNone cache after es)
      (AreOpenBy opens after.rows) (λ row opened r. kept_open opens p.seeds
      (list_at p row.resource) path row.stored cache opened after es r.reads agree so)
      (λ none. same_open none.0) result f

  -- ---- the content

  module _ (path : List ℕ) (number : ℕ) (p : Publication) (old new : Caller) (k : IsCaller old)
      (held : holding old.mine ≡ Some (number, p)) where
    -- what was read of a row, where what stands before is honest
    pub value_is : (row : Row) (opened : Opened)
        → (r : FindsRowBy path p old cache row (Ok opened) new after es)
        → IsHonest opens old.opening (old.seen ++ r.found.others)
        → IsContent opens old.opening (old.seen ++ r.found.others) path
        (Some (data_of opened.plain))
    value_is row opened r honest =
        let front = old.seen ++ r.found.others in
        let given = answer.Found row in
        let all = seeds_open old k number p held path new given r.found opens honest in
        let got = (reading_agrees opens p.seeds (list_at p row.resource) path row.stored cache
        (Ok opened) after es r.reads agree all so).1 in
        found_content old k number p held path new opens row r.found (data_of opened.plain)
        (honest_at_each opens old.opening front path r.found.legal honest)
        (got.0, got.1, got.2.0)

    pub refusal_is : (row : Row) (why : ValueNo)
        → (r : FindsRowBy path p old cache row (Err (unsealing.Refused why)) new after es)
        → IsHonest opens old.opening (old.seen ++ r.found.others)
        → IsContent opens old.opening (old.seen ++ r.found.others) path (Some (refused why))
    refusal_is row why r honest =
        let front = old.seen ++ r.found.others in
        let given = answer.Found row in
        let all = seeds_open old k number p held path new given r.found opens honest in
        let got = (reading_agrees opens p.seeds (list_at p row.resource) path row.stored cache
        (Err (unsealing.Refused why)) after es r.reads agree all so).1 in
        found_content old k number p held path new opens row r.found (refused why)
        (honest_at_each opens old.opening front path r.found.legal honest)
        (got.0, got.1, got.2)

  module _ (path : List ℕ) (replica number : ℕ) (p : Publication) (old adopted acted new : Caller)
      (k : IsCaller old)
      (a : AddsEntry old (event.Adopt replica) (answer.Adopted number p) adopted)
      (g : AddsEntry acted event.LetGo answer.Released new) where
    -- the Fetch stands between the Adopt and the LetGo
    told_before : (given : Answer) (f : AddsEntry adopted (event.Fetch path) given acted)
        (content : Option Reading)
        → (IsHonest opens adopted.opening (adopted.seen ++ f.others)
        → IsContent opens adopted.opening (adopted.seen ++ f.others) path content)
        → IsContentBefore opens path old new content
    told_before given f content is =
        let Adopt = event.Adopt replica in
        let Adopted = answer.Adopted number p in
        record {
          front = adopted.seen ++ f.others;
          before = record {
            more = (a.others ++ a.entry ∷ []) ++ f.others;
            fetch = f.entry;
            rest = g.others ++ g.entry ∷ [];
            front_is = ap (λ l. l ++ f.others) (seen_is old adopted Adopt Adopted a
                ∙ append_assoc old.seen a.others (a.entry ∷ []))
                ∙ append_assoc old.seen (a.others ++ a.entry ∷ []) f.others;
            there = seen_is acted new event.LetGo answer.Released g
                ∙ append_assoc acted.seen g.others (g.entry ∷ [])
                ∙ ap (λ l. l ++ (g.others ++ g.entry ∷ []))
                (seen_is adopted acted (event.Fetch path) given f)
                ∙ append_assoc (adopted.seen ++ f.others) (f.entry ∷ [])
                (g.others ++ g.entry ∷ []);
            own = f.records.seat_is ∙ seat_is old adopted Adopt Adopted a;
            fetches = f.records.did_is;
          };
          is = subst (λ (o : Opening). IsHonest opens o (adopted.seen ++ f.others)
              → IsContent opens o (adopted.seen ++ f.others) path content)
              (opening_is old adopted Adopt Adopted a) is;
        }

    is_caller : IsCaller adopted
    is_caller = caller_next old adopted (event.Adopt replica) (answer.Adopted number p) a k

    finds_tells : (done : Result Read CallNo) → FindsBy path p adopted cache done acted after es
        → TellsContent done (IsContentBefore opens path old new)
    finds_tells (Ok Absent) f =
        told_before answer.Absent f.0.absent None (λ honest. f.0.content opens)
    finds_tells (Ok (Value revision plain stale)) f =
        let opened : Opened = record { plain = plain; stale = stale } in
        told_before (answer.Found f.0) f.1.found (Some (data_of plain))
        (value_is path number p adopted acted is_caller (adopted_law old adopted replica number p a)
        f.0 opened f.1)
    finds_tells (Err (refusal.Value why)) f =
        told_before (answer.Found f.0) f.1.found (Some (refused why))
        (refusal_is path number p adopted acted is_caller
        (adopted_law old adopted replica number p a) f.0 why f.1)
    finds_tells (Err other) f = tt

  held_tells : (path : List ℕ) (replica number : ℕ) (p : Publication)
      (old adopted acted new : Caller) (done result : Result Read CallNo) → IsCaller old
      → AddsEntry old (event.Adopt replica) (answer.Adopted number p) adopted
      → FindsBy path p adopted cache done acted after es → LetsGo acted done result new
      → TellsContent result (IsContentBefore opens path old new)
  held_tells path replica number p old adopted acted new done result k a f (inl g) =
      subst (λ r. TellsContent r (IsContentBefore opens path old new)) (sym g.1)
      (finds_tells path replica number p old adopted acted new k a g.0 done f)
  held_tells path replica number p old adopted acted new done result k a f (inr n) =
      subst (λ r. TellsContent r (IsContentBefore opens path old new)) (sym n.1) tt

  early_tells : (path : List ℕ) (replica : ℕ) (old new : Caller) (why : CallNo)
      → AdoptsNothing replica old why new
      → TellsContent (Err why) (IsContentBefore opens path old new)
  early_tells path replica old new (refusal.Value x) e = absurd e
  early_tells path replica old new other e = tt

pub reads_agree : ReadsAgree
reads_agree opens path replica old cache (Ok done) new after es k (inl e) agree so = absurd e
reads_agree opens path replica old cache (Err why) new after es k (inl e) agree so = (
  same_open opens cache after es agree so e.1.0,
  early_tells opens cache after es agree so path replica old new why e.0,
)
reads_agree opens path replica old cache result new after es k (inr h) agree so = (
  finds_open opens cache after es agree so path h.p h.adopted h.acted h.done h.does,
  held_tells opens cache after es agree so path replica h.number h.p old h.adopted h.acted new
      h.done result k h.adopts h.does h.lets_go,
)
