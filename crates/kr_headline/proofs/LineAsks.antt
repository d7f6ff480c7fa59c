-- A line asks of plugins only what lines of its kind ask.
use Rattle.std.specs.Prelude.{All, true, false}
use Rattle.std.proofs.Common.{◌≡◌, ℕ, ◌≤◌, Bool, List, [], ◌∷◌, length, Option, Some, Result, Ok, Err, inl, inr, sym, subst, arith}
use Rattle.std.proofs.lemmas.List.Elements.{All-append, All-cons, All-nil}
use Rattle.kr_config.specs.Kept.{ConfigEntry as setting, plugins_in}
use Rattle.kr_config.specs.declared.who.Who.{Who}
use Rattle.kr_kms.specs.Cache.{CacheState, FetchesBy, kept, no_memory as fetches_nothing, unwrapped}
use Rattle.kr_kms.specs.Exchanges.{Exchange, StatusCall, UnwrapCall, WrapCall}
use Rattle.kr_kms.specs.Health.{TellsKeyIdBy, judged, no_status as tells_none}
use Rattle.kr_kms.specs.Seeds.{MakesSeedBy, made, not_wrapped}
use Rattle.kr_kms.specs.declared.health.SeedNo.{SeedNo}
use Rattle.kr_kms.specs.declared.plugin.KmsNo.{KmsNo}
use Rattle.kr_kms.specs.declared.seeds.SeedKey.{SeedKey}
use Rattle.kr_kms.specs.declared.seeds.SeedRow.{SeedRow}
use Rattle.kr_provider.specs.Envelopes.{seed_key}
use Rattle.kr_provider.specs.Exchanges.{MakesSeedsBy, PublishesBy, ReadsBy, all_made, fetched, no_memory as reads_nothing, no_name, no_room, refused, unasked, went_on}
use Rattle.kr_provider.specs.Publication.{Publication, list_at}
use Rattle.kr_provider.specs.declared.refusal.Opened.{Opened}
use Rattle.kr_provider.specs.declared.refusal.PublishNo.{PublishNo}
use Rattle.kr_provider.specs.declared.refusal.UnsealNo.{UnsealNo}
use Rattle.kr_provider.specs.declared.refusal.UnsealNo.TheVariants as unsealing
use Rattle.kr_store.specs.declared.rows.Row.{Row}
use Rattle.kr_history.specs.Acting.{Caller}
use Rattle.kr_history.specs.declared.call.CallNo.{CallNo}
use Rattle.kr_history.specs.declared.call.CallNo.TheVariants as refusal
use Rattle.kr_fleet.specs.CallExchanges.{AsksNone, ComparesKeysBy, FindsBy, IsReadBy, IsRefreshBy, RefreshesBy, RenewsAfter, StopsBy, all_same, changed, told_none, went_on as compared_on}
use Rattle.kr_fleet.specs.CallForms.{reload_of}
use Rattle.kr_fleet.specs.declared.outcome.Loaded.{Loaded}
use Rattle.kr_fleet.specs.declared.outcome.Loaded.TheVariants as loaded
use Rattle.kr_fleet.specs.declared.outcome.Read.{Read}
use Rattle.kr_fleet.specs.declared.outcome.Read.TheVariants as read
use Rattle.kr_rewrite.specs.DriveExchanges.{Ahead, IsDriveBy, ReadsRow}
use Rattle.kr_rewrite.specs.declared.outcome.Report.{Report}
use Rattle.kr_script.specs.declared.script.ScriptLine.{ScriptLine}
use Rattle.kr_script.specs.declared.script.ScriptLine.TheVariants as line
use Rattle.kr_workers.specs.declared.files.SettingsFile.{SettingsFile}
use Rattle.kr_workers.specs.LineExchanges.{DoesBy}
use Rattle.kr_workers.specs.Replies.{Reply}
use Rattle.kr_workers.specs.ScriptLines.{Workplace}
use Rattle.kr_headline.specs.Outside.{AsksOf, IsLoad, IsUnwrap}
use Rattle.kr_headline.proofs.Published.{cut_gives, join_gives, reload_gives}
use Rattle.kr_headline.proofs.RowByRow.{drive_keeps}

-- ---- a value is read: its source is unwrapped once, or not at all

abbrev AsksOnce : List Exchange → Type 0
AsksOnce es = (length es ≤ 1) × All IsUnwrap es

asks_none : AsksOnce []
asks_none = (omega arith, All-nil IsUnwrap)

none_asks_once : (es : List Exchange) → es ≡ [] → AsksOnce es
none_asks_once es none = subst AsksOnce (sym none) asks_none

fetch_asks : (key : SeedKey) (cache after : CacheState) (result : Result (List ℕ) KmsNo)
    (es : List Exchange) → FetchesBy key cache result after es → AsksOnce es
fetch_asks key cache after result _ (kept seed there gives same) = asks_none
fetch_asks key cache after result _ (fetches_nothing is same) = asks_none
fetch_asks key cache after result _ (unwrapped none keeps) =
    (omega arith, All-cons IsUnwrap (UnwrapCall key result) [] tt (All-nil IsUnwrap))

reads_ask : (seeds : List SeedRow) (list : List Who) (path bytes : List ℕ)
    (cache after : CacheState) (opened : Result Opened UnsealNo) (es : List Exchange)
    → ReadsBy seeds list path bytes cache opened after es → AsksOnce es
reads_ask seeds list path bytes cache after opened _ (reads_nothing is same) = asks_none
reads_ask seeds list path bytes cache after opened _ (unasked v has takes none may unseals same) =
    asks_none
reads_ask seeds list path bytes cache after opened es
    (fetched name object source reader is may fetches answers) =
    fetch_asks (seed_key name object) cache after source es fetches

module _ (path : List ℕ) (cache after : CacheState) (es : List Exchange) where
  none_found : AsksNone cache after es → AsksOnce es
  none_found none = none_asks_once es none.1

  row_asks : (p : Publication) (row : Row) (opened : Result Opened UnsealNo)
      → ReadsBy p.seeds (list_at p row.resource) path row.stored cache opened after es
      → AsksOnce es
  row_asks p row opened r =
      reads_ask p.seeds (list_at p row.resource) path row.stored cache after opened es r

  found_asks : (p : Publication) (old new : Caller) (result : Result Read CallNo)
      → FindsBy path p old cache result new after es → AsksOnce es
  found_asks p old new (Ok read.Absent) f = none_found f.1
  found_asks p old new (Ok (read.Value revision plain stale)) f =
      row_asks p f.0 (Ok (record { plain = plain; stale = stale })) f.1.reads
  found_asks p old new (Err (refusal.Value why)) f =
      row_asks p f.0 (Err (unsealing.Refused why)) f.1.reads
  found_asks p old new (Err (refusal.PluginFailed name)) f =
      row_asks p f.0 (Err (unsealing.PluginFailed name)) f.1.reads
  found_asks p old new (Err refusal.Spent) f = none_found f.1
  found_asks p old new (Err refusal.NoMemory) (inl f) =
      row_asks p f.0 (Err unsealing.NoMemory) f.1.reads
  found_asks p old new (Err refusal.NoMemory) (inr f) = none_found f.1
  found_asks p old new (Err other) f = absurd f

  get_asks : (replica : ℕ) (old new : Caller) (result : Result Read CallNo)
      → IsReadBy path replica old cache result new after es → AsksOnce es
  get_asks replica old new (Ok done) (inl e) = absurd e
  get_asks replica old new (Err why) (inl e) = none_found e.1
  get_asks replica old new result (inr h) = found_asks h.p h.adopted h.acted h.done h.does

-- ---- settings are published: statuses are asked, and seeds are wrapped

abbrev AreLoads : List Exchange → Type 0
AreLoads es = All IsLoad es

none_loads : (es : List Exchange) → es ≡ [] → AreLoads es
none_loads es none = subst AreLoads (sym none) (All-nil IsLoad)

status_alone : (name : List ℕ) (exchange : Exchange) → IsLoad exchange
    → AreLoads (exchange ∷ [])
status_alone name exchange is = All-cons IsLoad exchange [] is (All-nil IsLoad)

module _ {D : Type 0} (left : D → Option (List ℕ)) (count : D → ℕ) where
  seed_asks : (name : List ℕ) (dice : D) (result : Result SeedRow SeedNo) (after : D)
      (es : List Exchange) → MakesSeedBy left count name dice result after es → AreLoads es
  seed_asks name dice result after _ (not_wrapped status plain why none draws is) =
      All-cons IsLoad (StatusCall name (Ok status)) (WrapCall name plain (Err why) ∷ []) tt
      (status_alone name (WrapCall name plain (Err why)) tt)
  seed_asks name dice result after _ (made status plain wrapped none draws is) =
      All-cons IsLoad (StatusCall name (Ok status)) (WrapCall name plain (Ok wrapped) ∷ []) tt
      (status_alone name (WrapCall name plain (Ok wrapped)) tt)
  seed_asks name dice result after _ other = status_alone name _ tt

  module _ (names : List (List ℕ)) where
    seeds_ask : (passed : List ℕ) (dice : D) (result : Result (List SeedRow) PublishNo) (after : D)
        (es : List Exchange) → MakesSeedsBy left count names passed dice result after es
        → AreLoads es
    seeds_ask passed dice _ _ _ (all_made none) = All-nil IsLoad
    seeds_ask passed dice _ _ _ (refused {after = after} {exchanges = es} name why cause next
        makes told) = seed_asks name dice (Err why) after es makes
    seeds_ask passed dice _ _ _ (no_name name next) = All-nil IsLoad
    seeds_ask passed dice _ _ _ (no_room {after = after} {exchanges = es} name row next makes) =
        seed_asks name dice (Ok row) after es makes
    seeds_ask passed dice _ _ _ (went_on {between = between} {after = after} {exchanges = es}
        {others = fs} {result = result} name row next makes rest) = All-append IsLoad es fs
        (seed_asks name dice (Ok row) between es makes)
        (seeds_ask name between result after fs rest)

  module _ (rows : List setting) (dice after : D) (es : List Exchange) where
    publish_asks : (published : Result Publication PublishNo)
        → PublishesBy left count rows dice published after es → AreLoads es
    publish_asks (Ok p) by = seeds_ask (plugins_in rows) [] dice (Ok p.seeds) after es by.1
    publish_asks (Err why) by = seeds_ask (plugins_in rows) [] dice (Err why) after es by

  -- ---- a refresh

  key_asks : (name : List ℕ) (result : Result (List ℕ) SeedNo) (es : List Exchange)
      → TellsKeyIdBy name result es → AreLoads es
  key_asks name result _ (tells_none why is) = status_alone name _ tt
  key_asks name result _ (judged status j) = status_alone name _ tt

  keys_ask : (seeds : List SeedRow) (result : Result Bool CallNo) (es : List Exchange)
      → ComparesKeysBy seeds result es → AreLoads es
  keys_ask _ _ _ all_same = All-nil IsLoad
  keys_ask _ _ _ (changed {exchanges = es} row rest key_id tells other) =
      key_asks row.name tells.0 es tells.1
  keys_ask _ _ _ (told_none {exchanges = es} row rest cause why (inl tells) is) =
      key_asks row.name tells.0 es tells.1
  keys_ask _ _ _ (told_none row rest cause why (inr lacks) is) =
      subst (All IsLoad) (sym lacks.1) (All-nil IsLoad)
  keys_ask _ _ _ (compared_on {exchanges = es} {others = fs} {result = result} row rest tells
      more) = All-append IsLoad es fs (key_asks row.name tells.0 es tells.1)
      (keys_ask rest result fs more)

  module _ (replica : ℕ) (dice after : D) (es : List Exchange) where
    renews_ask : (seeds : List SeedRow) (Brings : List Exchange → Type 0)
        → ((others : List Exchange) → Brings others → AreLoads others)
        → RenewsAfter seeds es Brings → AreLoads es
    renews_ask seeds Brings all r = subst AreLoads (sym r.exchanges_are)
        (All-append IsLoad r.asked r.others (keys_ask seeds (Ok true) r.asked r.compares)
        (all r.others r.brings))

    stops_ask : (number : ℕ) (p : Publication) (old new : Caller) (why : CallNo)
        → StopsBy left count replica number p old dice why new after es → AreLoads es
    stops_ask number p old new why (inl c) = keys_ask p.seeds (Err why) es c.0
    stops_ask number p old new why (inr (inl c)) = keys_ask p.seeds (Ok true) es c.0
    stops_ask number p old new why (inr (inr r)) = renews_ask p.seeds _ (λ others c.
        cut_gives (λ made. PublishesBy left count p.rows dice made after others) (AreLoads others)
        (publish_asks p.rows dice after others) (reload_of replica (Some number)) replica old new
        why c) r

    refreshes_ask : (number : ℕ) (p : Publication) (old new : Caller)
        (result : Result Loaded CallNo)
        → RefreshesBy left count replica number p old dice result new after es → AreLoads es
    refreshes_ask number p old new (Ok (loaded.Unchanged same)) r =
        keys_ask p.seeds (Ok false) es r.1
    refreshes_ask number p old new (Ok (loaded.Refused verdict)) r = absurd r
    refreshes_ask number p old new (Ok other) r = renews_ask p.seeds _
        (λ others b. publish_asks p.rows dice after others (Ok b.p) b.publishes) r
    refreshes_ask number p old new (Err why) r = stops_ask number p old new why r

    refresh_asks : (old new : Caller) (result : Result Loaded CallNo)
        → IsRefreshBy left count replica old dice result new after es → AreLoads es
    refresh_asks old new (Ok done) (inl e) = absurd e
    refresh_asks old new (Err why) (inl e) = none_loads es e.1.1
    refresh_asks old new result (inr h) =
        refreshes_ask h.number h.p h.adopted h.acted h.done h.does

  -- ---- a rewrite: sources are unwrapped

  abbrev Unwraps : Ahead → Type 0
  Unwraps at = All IsUnwrap at.exchanges

  same_unwraps : (from to : Ahead) → to ≡ from → Unwraps to → Unwraps from
  same_unwraps from to same all = subst Unwraps same all

  row_unwraps : (p : Publication) (row : Row) (from : Ahead) (opened : Result Opened UnsealNo)
      (to : Ahead) → ReadsRow p row from opened to → Unwraps to → Unwraps from
  row_unwraps p row from opened to r all = subst (All IsUnwrap) (sym r.are)
      (All-append IsUnwrap r.first to.exchanges
      (reads_ask p.seeds (list_at p row.resource) row.path row.stored from.cache to.cache opened
      r.first r.reads).1 all)

  drive_asks : (replica : ℕ) (above : List ℕ) (old new : Caller) (cache stays : CacheState)
      (dice after : D) (result : Result Report (Report × CallNo)) (es : List Exchange)
      → IsDriveBy left count replica above old cache dice result new stays after es
      → All IsUnwrap es
  drive_asks replica above old new cache stays dice after result es d =
      drive_keeps (λ from to. Unwraps to → Unwraps from) same_unwraps
      (λ from mid to first second all. first (second all)) row_unwraps left count replica above old
      new cache stays dice after result es d (All-nil IsUnwrap)

-- ---- a line

module _ {L D : Type 0} (left : D → Option (List ℕ)) (count : D → ℕ) (files : List SettingsFile)
    (replica : ℕ) (old new : Workplace L D) (reply : Reply) (es : List Exchange) where
  pub line_asks : (asked : ScriptLine)
      → DoesBy left count files replica asked old reply new es → AsksOf asked es
  line_asks (line.Get path) d =
      get_asks path old.cache new.cache es replica old.caller new.caller d.0 d.2
  line_asks line.Rewrite d = drive_asks left count replica [] old.caller new.caller old.cache
      new.cache old.dice new.dice d.0 es d.2
  line_asks (line.Reload named file) (rows, read, inl d) = none_loads es d.1
  line_asks (line.Reload named file) (rows, read, inr d) =
      reload_gives (λ made. PublishesBy left count rows old.dice made new.dice es) (AreLoads es)
      (publish_asks left count rows old.dice new.dice es) named old.caller new.caller d.0 d.2
  line_asks line.Refresh d = refresh_asks left count replica old.dice new.dice es old.caller
      new.caller d.0 d.2
  line_asks (line.Join named file) (rows, read, inl d) = none_loads es d.1
  line_asks (line.Join named file) (rows, read, inr d) =
      join_gives (λ made. PublishesBy left count rows old.dice made new.dice es) (AreLoads es)
      (publish_asks left count rows old.dice new.dice es) named old.caller new.caller d.0 d.2
  line_asks other d = d.0
