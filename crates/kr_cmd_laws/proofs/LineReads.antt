-- A line that reads unwraps sources of values that its own entries found.
use Rattle.std.specs.Prelude.{All, true, false, ⊤}
use Rattle.std.proofs.Common.{◌≡◌, ℕ, Bool, List, [], ◌∷◌, ◌++◌, Option, Result, Ok, Err, inl, inr, refl, sym, ap, subst, ◌∙◌, append-nil, Contains}
use Rattle.std.proofs.lemmas.List.{append_assoc}
use Rattle.std.proofs.lemmas.List.Elements.{All-append, All-cons, All-nil, All-weaker, Contains-append_left, Contains-append_right, Contains-push}
use Rattle.kr_config.specs.declared.who.Who.{Who}
use Rattle.kr_envelope.specs.declared.object.EncryptedObject.{EncryptedObject}
use Rattle.kr_kms.specs.Cache.{CacheState, FetchesBy, kept, no_memory as fetches_nothing, unwrapped}
use Rattle.kr_kms.specs.Exchanges.{Exchange, StatusCall, UnwrapCall, WrapCall}
use Rattle.kr_kms.specs.declared.plugin.KmsNo.{KmsNo}
use Rattle.kr_kms.specs.declared.seeds.SeedRow.{SeedRow}
use Rattle.kr_provider.specs.Envelopes.{IsObjectOf, seed_key}
use Rattle.kr_provider.specs.Exchanges.{ReadsBy, fetched, no_memory as reads_nothing, unasked}
use Rattle.kr_provider.specs.Publication.{Publication, list_at}
use Rattle.kr_provider.specs.declared.refusal.Opened.{Opened}
use Rattle.kr_provider.specs.declared.refusal.SealNo.{SealNo}
use Rattle.kr_provider.specs.declared.refusal.UnsealNo.{UnsealNo}
use Rattle.kr_provider.specs.declared.refusal.UnsealNo.TheVariants as unsealing
use Rattle.kr_store.specs.declared.rows.Row.{Row}
use Rattle.kr_rollout.specs.Callers.{found_by}
use Rattle.kr_rollout.specs.declared.answer.Answer.{Answer}
use Rattle.kr_rollout.specs.declared.answer.Answer.TheVariants as answer
use Rattle.kr_rollout.specs.declared.event.Event.{Event}
use Rattle.kr_rollout.specs.declared.event.Event.TheVariants as event
use Rattle.kr_rollout.specs.declared.opening.Entry.{Entry}
use Rattle.kr_history.specs.Acting.{AddsEntry, Caller}
use Rattle.kr_history.specs.Calls.{AdoptsNothing, EndsEarly, LetsGo}
use Rattle.kr_history.specs.declared.call.CallNo.{CallNo}
use Rattle.kr_history.specs.declared.call.CallNo.TheVariants as refusal
use Rattle.kr_fleet.specs.CallExchanges.{FindsBy, IsReadBy}
use Rattle.kr_fleet.specs.declared.outcome.Read.{Read}
use Rattle.kr_fleet.specs.declared.outcome.Read.TheVariants as read
use Rattle.kr_rewrite.specs.DriveExchanges.{Ahead, IsDriveBy, ReadsRow, before, behind}
use Rattle.kr_rewrite.specs.Drives.{EndsByOver, WalksOver, last_of, path_of}
use Rattle.kr_rewrite.specs.Rewrites.{FindsNone, IsStepOver, ResealsBy, RewritesBy, RewritesData, RewritesOver, StepsOver}
use Rattle.kr_rewrite.specs.declared.outcome.Report.{Report}
use Rattle.kr_rewrite.specs.declared.outcome.Step.{Step}
use Rattle.kr_rewrite.specs.declared.outcome.Step.TheVariants as step_variants
use Rattle.kr_cmd_laws.specs.LineQuestions.{IsFoundIn, wrapped_in}
use Rattle.kr_cmd_laws.specs.PluginLaws.{IsQuestion}
use Rattle.kr_cmd_laws.proofs.LineLoads.{wrapped_append}

-- ---- questions

pub question_more : (P Q : List ℕ → Type 0) → ((value : List ℕ) → P value → Q value)
    → (exchange : Exchange) → IsQuestion P exchange → IsQuestion Q exchange
question_more P Q more (StatusCall plugin given) q = tt
question_more P Q more (WrapCall plugin plain given) q = q
question_more P Q more (UnwrapCall key given) q = (q.0, q.1, q.2, more q.0 q.3, q.4, q.5)

-- what is found in a part is found in the whole
found_so : (part whole : List Entry)
    → ((entry : Entry) → Contains part entry → Contains whole entry) → (value : List ℕ)
    → IsFoundIn part value → IsFoundIn whole value
found_so part whole within value f = record {
  entry = f.entry;
  row = f.row;
  among = within f.entry f.among;
  found = f.found;
  is = f.is;
}

found_before : (part more : List Entry) (value : List ℕ) → IsFoundIn part value
    → IsFoundIn (part ++ more) value
found_before part more = found_so part (part ++ more) (Contains-append_left part more)

found_behind : (part more : List Entry) (value : List ℕ) → IsFoundIn more value
    → IsFoundIn (part ++ more) value
found_behind part more = found_so more (part ++ more) (Contains-append_right part more)

-- ---- a value is read: at most the source that stands in it is unwrapped

pub record AsksOf (IsHeld : List ℕ → Type 0) (es : List Exchange) : Type 0 where
  pub asks : All (IsQuestion IsHeld) es
  pub wraps : wrapped_in es ≡ []

asks_none : (IsHeld : List ℕ → Type 0) → AsksOf IsHeld []
asks_none IsHeld = record { asks = All-nil (IsQuestion IsHeld); wraps = refl }

asks_more : (P Q : List ℕ → Type 0) → ((value : List ℕ) → P value → Q value)
    → (es : List Exchange) → AsksOf P es → AsksOf Q es
asks_more P Q more es a = record {
  asks = All-weaker (IsQuestion P) (IsQuestion Q) (question_more P Q more) es a.asks;
  wraps = a.wraps;
}

asks_both : (P : List ℕ → Type 0) (es fs : List Exchange) → AsksOf P es → AsksOf P fs
    → AsksOf P (es ++ fs)
asks_both P es fs a b = record {
  asks = All-append (IsQuestion P) es fs a.asks b.asks;
  wraps = wrapped_append es fs ∙ ap (λ bytes. bytes ++ wrapped_in fs) a.wraps ∙ b.wraps;
}

module _ (bytes : List ℕ) where
  -- it is this one
  abbrev IsIt : List ℕ → Type 0
  IsIt value = value ≡ bytes

  fetch_asks : (name : List ℕ) (object : EncryptedObject) → IsObjectOf name bytes (Ok object)
      → (cache after : CacheState) (result : Result (List ℕ) KmsNo) (es : List Exchange)
      → FetchesBy (seed_key name object) cache result after es → AsksOf IsIt es
  fetch_asks name object is cache after result _ (kept seed there gives same) = asks_none IsIt
  fetch_asks name object is cache after result _ (fetches_nothing none same) = asks_none IsIt
  fetch_asks name object is cache after result _ (unwrapped none keeps) = record {
    asks = All-cons (IsQuestion IsIt) (UnwrapCall (seed_key name object) result) []
        (bytes, name, object, refl, is, refl) (All-nil (IsQuestion IsIt));
    wraps = refl;
  }

  reads_ask : (seeds : List SeedRow) (list : List Who) (path : List ℕ)
      (cache after : CacheState) (opened : Result Opened UnsealNo) (es : List Exchange)
      → ReadsBy seeds list path bytes cache opened after es → AsksOf IsIt es
  reads_ask seeds list path cache after opened _ (reads_nothing is same) = asks_none IsIt
  reads_ask seeds list path cache after opened _ (unasked v has takes none may unseals same) =
      asks_none IsIt
  reads_ask seeds list path cache after opened es
      (fetched name object source reader is may fetches answers) =
      fetch_asks name object is cache after source es fetches

-- ---- what a caller added, and asked by that

pub record Went (old new : Caller) (es : List Exchange) : Type 0 where
  pub part : List Entry
  pub adds : new.mine ≡ old.mine ++ part
  pub asks : AsksOf (IsFoundIn part) es

went_same : (old new : Caller) → new ≡ old → Went old new []
went_same old new same = record {
  part = [];
  adds = ap (λ (c : Caller). c.mine) same ∙ sym (append-nil old.mine);
  asks = asks_none (IsFoundIn []);
}

went_one : (old new : Caller) (asked : Event) (given : Answer) → AddsEntry old asked given new
    → Went old new []
went_one old new asked given a = record {
  part = a.entry ∷ [];
  adds = ap (λ (c : Caller). c.mine) a.new_is;
  asks = asks_none (IsFoundIn (a.entry ∷ []));
}

-- the entry found a row, and its value was read
went_found : (old new : Caller) (asked : Event) (row : Row) (es : List Exchange)
    → AddsEntry old asked (answer.Found row) new → AsksOf (λ value. value ≡ row.stored) es
    → Went old new es
went_found old new asked row es a asks = record {
  part = a.entry ∷ [];
  adds = ap (λ (c : Caller). c.mine) a.new_is;
  asks = asks_more (λ value. value ≡ row.stored) (IsFoundIn (a.entry ∷ [])) (λ value is. record {
    entry = a.entry;
    row = row;
    among = Contains-push [] a.entry;
    found = ap (λ gave. found_by gave a.entry.row) a.records.gave_is ∙ a.records.shows;
    is = is;
  }) es asks;
}

went_then : (old between new : Caller) (es fs : List Exchange) → Went old between es
    → Went between new fs → Went old new (es ++ fs)
went_then old between new es fs a b = record {
  part = a.part ++ b.part;
  adds = b.adds ∙ ap (λ mine. mine ++ b.part) a.adds ∙ append_assoc old.mine a.part b.part;
  asks = asks_both (IsFoundIn (a.part ++ b.part)) es fs
      (asks_more (IsFoundIn a.part) (IsFoundIn (a.part ++ b.part)) (found_before a.part b.part) es
      a.asks)
      (asks_more (IsFoundIn b.part) (IsFoundIn (a.part ++ b.part)) (found_behind a.part b.part) fs
      b.asks);
}

went_by : (old new : Caller) (es : List Exchange) → es ≡ [] → Went old new [] → Went old new es
went_by old new es none w = subst (Went old new) (sym none) w

-- something was adopted before, and is let go behind
went_around : (old adopted acted new : Caller) (es : List Exchange) → Went old adopted []
    → Went adopted acted es → Went acted new [] → Went old new es
went_around old adopted acted new es a b c = subst (Went old new) (append-nil es)
    (went_then old acted new es [] (went_then old adopted acted [] es a b) c)

went_early : (replica : ℕ) (old new : Caller) (why : CallNo) → AdoptsNothing replica old why new
    → Went old new []
went_early replica old new refusal.Gone a =
    went_one old new (event.Adopt replica) (answer.Gone replica) a
went_early replica old new refusal.Spent a = went_same old new a.same
went_early replica old new refusal.NoMemory (inl same) = went_same old new same
went_early replica old new refusal.NoMemory (inr a) =
    went_one old new (event.Adopt replica) answer.NoMemory a
went_early replica old new other a = absurd a

went_let_go : {T : Type 0} (old new : Caller) (done result : Result T CallNo)
    → LetsGo old done result new → Went old new []
went_let_go old new done result (inl a) = went_one old new event.LetGo answer.Released a.0
went_let_go old new done result (inr a) = went_same old new a.0.same

-- ---- a `get`

module _ (path : List ℕ) (cache after : CacheState) (es : List Exchange) where
  row_went : (p : Publication) (old new : Caller) (row : Row) (opened : Result Opened UnsealNo)
      → AddsEntry old (event.Fetch path) (answer.Found row) new
      → ReadsBy p.seeds (list_at p row.resource) path row.stored cache opened after es
      → Went old new es
  row_went p old new row opened a r = went_found old new (event.Fetch path) row es a
      (reads_ask row.stored p.seeds (list_at p row.resource) path cache after opened es r)

  found_went : (p : Publication) (old new : Caller) (result : Result Read CallNo)
      → FindsBy path p old cache result new after es → Went old new es
  found_went p old new (Ok read.Absent) f =
      went_by old new es f.1.1 (went_one old new (event.Fetch path) answer.Absent f.0.absent)
  found_went p old new (Ok (read.Value revision plain stale)) f = row_went p old new f.0
      (Ok (record { plain = plain; stale = stale })) f.1.found f.1.reads
  found_went p old new (Err (refusal.Value why)) f =
      row_went p old new f.0 (Err (unsealing.Refused why)) f.1.found f.1.reads
  found_went p old new (Err (refusal.PluginFailed name)) f =
      row_went p old new f.0 (Err (unsealing.PluginFailed name)) f.1.found f.1.reads
  found_went p old new (Err refusal.Spent) f =
      went_by old new es f.1.1 (went_same old new f.0.same)
  found_went p old new (Err refusal.NoMemory) (inl f) =
      row_went p old new f.0 (Err unsealing.NoMemory) f.1.found f.1.reads
  found_went p old new (Err refusal.NoMemory) (inr f) =
      went_by old new es f.1.1 (went_one old new (event.Fetch path) answer.NoMemory f.0)
  found_went p old new (Err other) f = absurd f

  pub get_went : (replica : ℕ) (old new : Caller) (result : Result Read CallNo)
      → IsReadBy path replica old cache result new after es → Went old new es
  get_went replica old new (Ok done) (inl e) = absurd e
  get_went replica old new (Err why) (inl e) =
      went_by old new es e.1.1 (went_early replica old new why e.0)
  get_went replica old new result (inr h) = went_around old h.adopted h.acted new es
      (went_one old h.adopted (event.Adopt replica) (answer.Adopted h.number h.p) h.adopts)
      (found_went h.p h.adopted h.acted h.done h.does)
      (went_let_go h.acted new h.done result h.lets_go)

-- ---- a rewrite

-- by the first of the exchanges that were to come
record TakesFirst (old : Caller) (from : Ahead) (new : Caller) (to : Ahead) : Type 0 where
  first : List Exchange
  are : from.exchanges ≡ first ++ to.exchanges
  went : Went old new first

goes_still : (old new : Caller) (from to : Ahead) → to ≡ from → Went old new []
    → TakesFirst old from new to
goes_still old new from to same w = record {
  first = [];
  are = ap (λ (at : Ahead). at.exchanges) (sym same);
  went = w;
}

goes_then : (old between new : Caller) (from mids to : Ahead) → TakesFirst old from between mids
    → TakesFirst between mids new to → TakesFirst old from new to
goes_then old between new from mids to a b = record {
  first = a.first ++ b.first;
  are = a.are ∙ ap (λ more. a.first ++ more) b.are
      ∙ sym (append_assoc a.first b.first to.exchanges);
  went = went_then old between new a.first b.first a.went b.went;
}

-- no exchange comes with these entries
goes_quiet : (old between new : Caller) (from to : Ahead) → TakesFirst old from between to
    → Went between new [] → TakesFirst old from new to
goes_quiet old between new from to a w =
    goes_then old between new from to to a (goes_still between new to to refl w)

resealed_went : (p : Publication) (row : Row) (plain : List ℕ) (sealed : Result (List ℕ) SealNo)
    (old new : Caller) (result : Result Step CallNo)
    → ResealsBy p row plain sealed old result new → Went old new []
resealed_went p row plain (Ok stored) old new result (inl r) =
    went_one old new (event.Replace row.path row.revision stored) r.given r.replaces
resealed_went p row plain (Ok stored) old new result (inr n) = went_same old new n.0.same
resealed_went p row plain (Err why) old new result r = went_same old new r.1

none_went : (above : List ℕ) (old new : Caller) (result : Result Step CallNo)
    → FindsNone above old result new → Went old new []
none_went above old new (Ok step_variants.End) a =
    went_one old new (event.After above) answer.Absent a
none_went above old new (Err refusal.NoMemory) a =
    went_one old new (event.After above) answer.NoMemory a
none_went above old new (Err refusal.Spent) a = went_same old new a.same
none_went above old new other a = absurd a

module _ {D : Type 0} (left : D → Option (List ℕ)) (count : D → ℕ) (replica : ℕ) where
  data_went : (p : Publication) (row : Row) (plain : List ℕ) (stale : Bool) (old new : Caller)
      (dice after : D) (result : Result Step CallNo)
      → RewritesData left count p row plain stale old dice result new after → Went old new []
  data_went p row plain false old new dice after result r = went_same old new r.1
  data_went p row plain true old new dice after result (inl r) =
      resealed_went p row plain r.sealed old new result r.reseals
  data_went p row plain true old new dice after result (inr r) = went_same old new r.1

  opened_went : (p : Publication) (row : Row) (opened : Result Opened UnsealNo)
      (old new : Caller) (dice after : D) (result : Result Step CallNo)
      → RewritesBy left count p row opened old dice result new after → Went old new []
  opened_went p row (Ok opened) old new dice after result r =
      data_went p row opened.plain opened.stale old new dice after result r
  opened_went p row (Err why) old new dice after result r = went_same old new r.1

  -- the row that an entry found
  row_goes : (p : Publication) (above : List ℕ) (row : Row) (old found new : Caller)
      (from to : Ahead) (dice after : D) (result : Result Step CallNo)
      → AddsEntry old (event.After above) (answer.Found row) found
      → RewritesOver ReadsRow left count p row found from dice result new to after
      → TakesFirst old from new to
  row_goes p above row old found new from to dice after result a (inl o) =
      goes_quiet old found new from to (record {
        first = o.unseals.first;
        are = o.unseals.are;
        went = went_found old found (event.After above) row o.unseals.first a
            (reads_ask row.stored p.seeds (list_at p row.resource) row.path from.cache to.cache
            o.opened o.unseals.first o.unseals.reads);
      }) (opened_went p row o.opened found new dice after result o.rewrites)
  row_goes p above row old found new from to dice after result a (inr n) =
      goes_quiet old found new from to (goes_still old found from to n.1
      (went_one old found (event.After above) (answer.Found row) a)) (went_same found new n.0.1)

  steps_go : (p : Publication) (above : List ℕ) (old new : Caller) (from to : Ahead)
      (dice after : D) (result : Result Step CallNo)
      → StepsOver ReadsRow left count p above old from dice result new to after
      → TakesFirst old from new to
  steps_go p above old new from to dice after result (inl n) =
      goes_still old new from to n.1 (none_went above old new result n.0)
  steps_go p above old new from to dice after result (inr f) =
      row_goes p above f.row old f.found new from to dice after result f.finds f.rewrites

  early_goes : (old new : Caller) (from to : Ahead) (dice after : D) (result : Result Step CallNo)
      → EndsEarly replica ((to ≡ from) × (after ≡ dice)) old result new → TakesFirst old from new to
  early_goes old new from to dice after (Ok done) e = absurd e
  early_goes old new from to dice after (Err why) e =
      goes_still old new from to e.1.0 (went_early replica old new why e.0)

  step_goes : (above : List ℕ) (old new : Caller) (from to : Ahead) (dice after : D)
      (result : Result Step CallNo)
      → IsStepOver ReadsRow left count replica above old from dice result new to after
      → TakesFirst old from new to
  step_goes above old new from to dice after result (inl e) =
      early_goes old new from to dice after result e
  step_goes above old new from to dice after result (inr h) =
      goes_then old h.adopted new from from to (goes_still old h.adopted from from refl
      (went_one old h.adopted (event.Adopt replica) (answer.Adopted h.number h.p) h.adopts))
      (goes_quiet h.adopted h.acted new from to
      (steps_go h.p above h.adopted h.acted from to dice after h.done h.does)
      (went_let_go h.acted new h.done result h.lets_go))

  walks_go : (above : List ℕ) (steps : List Step) (old new : Caller) (from to : Ahead)
      (dice after : D)
      → WalksOver ReadsRow left count replica above steps old from dice new to after
      → TakesFirst old from new to
  walks_go above [] old new from to dice after w =
      goes_still old new from to w.1 (went_same old new w.0)
  walks_go above (taken ∷ steps) old new from to dice after w =
      goes_then old w.middle new from w.mids to
      (step_goes above old w.middle from w.mids dice w.between (Ok taken) w.goes)
      (walks_go (path_of above taken) steps w.middle new w.mids to w.between after w.behind)

  ends_go : (above : List ℕ) (steps : List Step) (old new : Caller) (from to : Ahead)
      (dice after : D) (ended : Result Step CallNo) (report : Report)
      → EndsByOver ReadsRow (λ a b. ⊤) left count replica above steps old from dice ended report
      new to after → TakesFirst old from new to
  ends_go above steps old new from to dice after ended report e =
      goes_then old e.middle new from e.mids to
      (walks_go above steps old e.middle from e.mids dice e.between e.walks)
      (step_goes (last_of above steps) e.middle new e.mids to e.between after ended e.ends)

  -- all that were to come
  all_went : (old new : Caller) (cache stays : CacheState) (es : List Exchange)
      → TakesFirst old (before cache es) new (behind stays) → Went old new es
  all_went old new cache stays es g =
      subst (Went old new) (sym (g.are ∙ append-nil g.first)) g.went

  pub drive_went : (above : List ℕ) (old new : Caller) (cache stays : CacheState)
      (dice after : D) (result : Result Report (Report × CallNo)) (es : List Exchange)
      → IsDriveBy left count replica above old cache dice result new stays after es
      → Went old new es
  drive_went above old new cache stays dice after (Ok report) es d =
      all_went old new cache stays es (ends_go above d.steps old new (before cache es)
      (behind stays) dice after (Ok step_variants.End) report d.ends)
  drive_went above old new cache stays dice after (Err cut) es (inl d) =
      all_went old new cache stays es (ends_go above d.steps old new (before cache es)
      (behind stays) dice after (Err cut.1) cut.0 d.ends)
  drive_went above old new cache stays dice after (Err cut) es (inr n) =
      all_went old new cache stays es (goes_still old new (before cache es) (behind stays) n.links
      (went_same old new n.same))
