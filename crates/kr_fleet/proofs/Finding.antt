-- What `read` finds is the content at its path.
use Rattle.std.proofs.Common.{◌≡◌, inl, inr, ℕ, List, ◌++◌, length, Option, None, Some, Result, Ok, Err, refl, sym, ap, subst, ◌∙◌}
use Rattle.std.specs.Prelude.{IfSome, ◌≤◌}
use Rattle.kr_base.specs.Limits.{value_limit}
use Rattle.kr_base.specs.Lines.{of_seat}
use Rattle.kr_config.specs.Lists.{list_of}
use Rattle.kr_kms.specs.Calls.{Link}
use Rattle.kr_kms.specs.Opens.{Opens}
use Rattle.kr_provider.specs.BenchState.{BenchState}
use Rattle.kr_provider.specs.Publication.{Publication, list_at}
use Rattle.kr_provider.specs.Reading.{Reading, data_of, refused, HasReading, HasSomeReading}
use Rattle.kr_provider.specs.Unsealing.{UnsealsBy}
use Rattle.kr_provider.specs.declared.refusal.Opened.{Opened}
use Rattle.kr_provider.specs.declared.refusal.UnsealNo.{UnsealNo}
use Rattle.kr_provider.specs.declared.refusal.UnsealNo.TheVariants as unsealing
use Rattle.kr_provider.specs.declared.refusal.ValueNo.{ValueNo}
use Rattle.kr_store.specs.declared.rows.Row.{Row}
use Rattle.kr_rollout.specs.declared.answer.Answer.{Answer}
use Rattle.kr_rollout.specs.declared.answer.Answer.TheVariants as answer
use Rattle.kr_rollout.specs.declared.event.Event.TheVariants as event
use Rattle.kr_rollout.specs.declared.opening.Entry.{Entry}
use Rattle.kr_history.specs.Acting.{Caller, AddsEntry, IsCaller}
use Rattle.kr_rollout.specs.Callers.{holding}
use Rattle.kr_history.specs.Contents.{IsContent}
use Rattle.kr_rollout.specs.Entries.{seat_of}
use Rattle.kr_rollout.specs.Histories.{state_of}
use Rattle.kr_history.specs.Honesty.{IsHonest, IsHonestAt, SeedsOpen}
use Rattle.kr_history.specs.TakingUp.{HasTakenUp}
use Rattle.kr_rollout.specs.States.{IsLive}
use Rattle.kr_history.proofs.FoundRows.{absent_is_nothing, found_reads}
use Rattle.kr_history.proofs.HeldFacts.{held_is_named, held_opens}
use Rattle.kr_history.proofs.HonestPaths.{honest_at_each}
use Rattle.kr_history.proofs.Meanwhile.{held_meanwhile, of_taken}
use Rattle.kr_history.proofs.Judging.{holding_is_live}
use Rattle.kr_history.proofs.NeedsLive.{live_is_readable}
use Rattle.kr_history.proofs.WithoutPlugin.{honest_without_plugin}
use Rattle.kr_history.specs.declared.call.CallNo.{CallNo}
use Rattle.kr_history.specs.declared.call.CallNo.TheVariants as refusal
use Rattle.kr_fleet.specs.declared.outcome.Read.{Read}
use Rattle.kr_fleet.specs.declared.outcome.Read.TheVariants.{Absent}
use Rattle.kr_history.specs.Asking.{AsksFetch}
use Rattle.kr_history.specs.Calls.{HoldsAdopted, LetsGo}
use Rattle.kr_fleet.specs.CallForms.{FindsWhere}
use Rattle.kr_fleet.specs.ReadCalls.{FindsRow, Finds, IsContentOf, IsKnownContent, IsOfValue, IsRead, IsReadByAny}
use Rattle.kr_fleet.specs.inner.Stages.{row_value}
use Rattle.kr_fleet.proofs.Allowed.{refused_allowed}
use Rattle.kr_fleet.proofs.Bare.{reads_bare}
use Rattle.kr_history.proofs.Nexts.{front_own, found_row, legal_now}

-- ---- what the bench answers is the answer

module _ (path : List ℕ) (old new : Caller) (Reads : Row → Result Opened UnsealNo → Type 0)
    (AsksNone : Type 0) where
  pub value_found : (row : Row) (opened : Result Opened UnsealNo) → Reads row opened
      → FindsWhere path old new Reads AsksNone (row_value row.revision opened)
  value_found row (Ok opened) f = (row, f, refl)
  value_found row (Err (unsealing.Refused why)) f = (row, f)
  value_found row (Err (unsealing.PluginFailed name)) f = (row, f)
  value_found row (Err unsealing.NoMemory) f = inl (row, f)

  pub none_fetched : (why : CallNo) → AsksFetch path old (Err why) new → AsksNone
      → FindsWhere path old new Reads AsksNone (Err why)
  none_fetched refusal.Spent a none = (a, none)
  none_fetched refusal.NoMemory a none = inr (a, none)
  none_fetched other a none = absurd a

  pub absent_fetched : (found : Option Row) → found ≡ None → AsksFetch path old (Ok found) new
      → AsksNone → FindsWhere path old new Reads AsksNone (Ok Absent)
  absent_fetched found is a none =
      let f : AddsEntry old (event.Fetch path) answer.Absent new =
      subst (λ f. AsksFetch path old (Ok f) new) is a in (
        record {
          absent = f;
          content = λ opens. absent_is_nothing opens old.opening (old.seen ++ f.others) f.entry path
              (legal_now old new (event.Fetch path) answer.Absent f) f.records.did_is
              f.records.gave_is;
        },
        none,
      )

-- what was fetched isn't too long, and stands at its path
abbrev pub IsAt : (path : List ℕ) → Row → Type 0
IsAt path row = (row.path ≡ path) × (length row.stored ≤ value_limit)

-- ---- the content before a Fetch

module _ (old : Caller) (k : IsCaller old) (number : ℕ) (p : Publication)
    (held : holding old.mine ≡ Some (number, p)) (path : List ℕ) where
  module _ (new : Caller) (given : Answer) (f : AddsEntry old (event.Fetch path) given new) where
    abbrev before : List Entry
    before = old.seen ++ f.others

    held_before : holding (of_seat seat_of old.seat before) ≡ Some (number, p)
    held_before = ap holding (front_own old new (event.Fetch path) given f k) ∙ held

    lives : IsLive (state_of old.opening before) p.rows
    lives = holding_is_live old.opening before old.seat number p f.legal k.seat_in held_before

    -- the caller as it was when the event was made
    abbrev at_front : Caller
    at_front = record old { seen = before }

    at_front_is : IsCaller at_front
    at_front_is = record {
      legal = f.legal;
      own = front_own old new (event.Fetch path) given f k;
      seat_in = k.seat_in;
    }

    pub seeds_open : (opens : Opens) → IsHonest opens old.opening before → SeedsOpen opens p
    seeds_open opens honest = held_opens opens at_front number p at_front_is honest held

  module _ (new : Caller) where
    pub found_content : (opens : Opens) (row : Row)
        (f : AddsEntry old (event.Fetch path) (answer.Found row) new) (reading : Reading)
        → IsHonestAt opens path (old.seen ++ f.others)
        → HasReading opens (list_at p row.resource) path row.stored reading
        → IsContent opens old.opening (old.seen ++ f.others) path (Some reading)
    found_content opens row f reading honest reads =
        let given = answer.Found row in
        let h = old.seen ++ f.others in
        let r = found_row old new path row k f in
        subst (λ q. IsContent opens old.opening h q (Some reading)) r.path_is
        ((found_reads opens old.opening h f.entry row.revision row p.rows reading
        (legal_now old new (event.Fetch path) given f)
        (subst (λ q. IsHonestAt opens q h) (sym r.path_is) honest) f.records.gave_is f.records.shows
        (lives new given f)).0
        (subst (λ q. HasReading opens (list_of p.rows row.resource) q row.stored reading)
        (sym r.path_is) reads))

  module _ {L : Type 0} (link : L → Link) (new : Caller) (olds news : List L) where
    known_content : (row : Row) (f : AddsEntry old (event.Fetch path) (answer.Found row) new)
        (reading : Reading)
        → HasSomeReading (list_at p row.resource) path row.stored reading
        → IsKnownContent old.opening (old.seen ++ f.others) path reading
    known_content row f reading some =
        let h = old.seen ++ f.others in
        λ opens none. found_content new opens row f reading
        (honest_at_each opens old.opening h path f.legal
        (honest_without_plugin opens old.opening h f.legal none))
        (reads_bare opens old.opening h p.rows row.resource path row.stored reading
        (lives new (answer.Found row) f) none some)

    value_refused : (row : Row) (f : AddsEntry old (event.Fetch path) (answer.Found row) new)
        (why : ValueNo)
        → UnsealsBy link p.seeds (list_at p row.resource) path row.stored olds
        (Err (unsealing.Refused why)) news
        → IsOfValue why
    value_refused row f why u =
        let r = found_row old new path row k f in
        let l = live_is_readable old.opening (old.seen ++ f.others) path row p.rows
        f.legal r.live_is (lives new (answer.Found row) f) in
        refused_allowed u.envelope (list_at p row.resource) path row.stored l.0 why l.2 u.is

    pub content_found : (row : Row) (f : AddsEntry old (event.Fetch path) (answer.Found row) new)
        (opened : Result Opened UnsealNo)
        → UnsealsBy link p.seeds (list_at p row.resource) path row.stored olds opened news
        → IsContentOf opened (IsKnownContent old.opening (old.seen ++ f.others) path)
    content_found row f (Ok opened) u = known_content row f (data_of opened.plain)
        (u.envelope, u.object, u.is.0)
    content_found row f (Err (unsealing.Refused why)) u = (
      value_refused row f why u,
      known_content row f (refused why) (u.envelope, u.object, u.is),
    )
    content_found row f (Err (unsealing.PluginFailed name)) u = tt
    content_found row f (Err unsealing.NoMemory) u = tt

    pub content_by_any : (row : Row) (f : AddsEntry old (event.Fetch path) (answer.Found row) new)
        (opened : Result Opened UnsealNo)
        → (u : UnsealsBy link p.seeds (list_at p row.resource) path row.stored olds opened
        news)
        → IsReadByAny link path old.opening (old.seen ++ f.others) p row olds news opened u
    content_by_any row f (Ok opened) u = λ opens honest same.
        found_content new opens row f (data_of opened.plain) honest (u.envelope, same, u.is.0)
    content_by_any row f (Err (unsealing.Refused why)) u = λ opens honest same.
        found_content new opens row f (refused why) honest (u.envelope, same, u.is)
    content_by_any row f (Err (unsealing.PluginFailed name)) u = tt
    content_by_any row f (Err unsealing.NoMemory) u = tt

-- ---- what is found

module _ {L : Type 0} (link : L → Link) (path : List ℕ) (old new : Caller)
    (olds news : List L) where
  pub fetch_refused : (p : Publication) (why : CallNo) → AsksFetch path old (Err why) new
      → Finds link path p old olds (Err why) new olds
  fetch_refused p why a = none_fetched path old new
      (λ row opened. FindsRow link path p old olds row opened new olds) (olds ≡ olds) why a
      refl

  pub fetch_absent : (p : Publication) (found : Option Row) → found ≡ None
      → AsksFetch path old (Ok found) new → Finds link path p old olds (Ok Absent) new olds
  fetch_absent p found is a = absent_fetched path old new
      (λ row opened. FindsRow link path p old olds row opened new olds) (olds ≡ olds) found is
      a refl

  -- the row as it was lent
  pub find_done : (published : Option Publication) (found : Option Row) (row lent : Row)
      (opened : Result Opened UnsealNo) (result : Result Read CallNo) → IsCaller old
      → HoldsAdopted published old.mine
      → AsksFetch path old (Ok found) new → found ≡ Some row → IsAt path row → lent ≡ row
      → IfSome published (λ p. UnsealsBy link p.seeds (list_at p lent.resource) lent.path
      lent.stored olds opened news)
      → result ≡ row_value lent.revision opened
      → IfSome published (λ p. Finds link path p old olds result new news)
  find_done published found row lent opened result k h fetched is at same unsealed e =
      let p = h.p in
      let f : AddsEntry old (event.Fetch path) (answer.Found row) new =
      subst (λ f. AsksFetch path old (Ok f) new) is fetched in
      let u : UnsealsBy link p.seeds (list_at p row.resource) path row.stored olds opened
      news =
      subst (λ q. UnsealsBy link p.seeds (list_at p row.resource) q row.stored olds opened
      news) at.0
      (subst (λ (r : Row). UnsealsBy link p.seeds (list_at p r.resource) r.path r.stored olds
      opened news) same
      (subst (λ o. IfSome o (λ p. UnsealsBy link p.seeds (list_at p lent.resource) lent.path
      lent.stored olds opened news)) h.adopted unsealed)) in
      subst (λ o. IfSome o (λ p. Finds link path p old olds result new news)) (sym h.adopted)
      (subst (λ r. Finds link path p old olds r new news)
      (sym (e ∙ ap (λ (r : Row). row_value r.revision opened) same))
      (value_found path old new
      (λ row opened. FindsRow link path p old olds row opened new news)
      (news ≡ olds) row opened (record {
        found = f;
        named = (held_is_named old new (event.Fetch path) (answer.Found row) h.number p k f
            h.held).published;
        unseals = u;
        content = content_found old k h.number p h.held path link new olds news row f opened
            u;
        by_any = content_by_any old k h.number p h.held path link new olds news row f opened
            u;
      })))

-- the stages of a call, one behind another
pub reads_held : {L D : Type 0} {replica : ℕ} {old adopted : Caller} {before taken : BenchState L D}
    (t : HasTakenUp replica old before adopted taken) (link : L → Link) (path copy : List ℕ)
    (acted new : Caller) (news : List L) (done result : Result Read CallNo) → copy ≡ path
    → IfSome taken.published (λ p. Finds link copy p adopted taken.links done acted news)
    → LetsGo acted done result new
    → IsRead link path replica old taken.links result new news
reads_held {L} {D} {replica} {old} {adopted} {before} {taken} t link path copy acted new news done
    result own f g =
    inr (held_meanwhile (λ number p from done to. Finds link path p from taken.links done to news)
    replica (t.number, t.p) old adopted acted new done result t.adopts
    (subst (λ q. Finds link q t.p adopted taken.links done acted news) own
    (of_taken t (λ p. Finds link copy p adopted taken.links done acted news) f)) g)
