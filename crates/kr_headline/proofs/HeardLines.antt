-- What a worker's line tells of plugins is borne out by the line's own exchanges: whom it blames,
-- and what a refresh says of keys.
use Rattle.std.specs.Prelude.{true, false, ⊤}
use Rattle.std.proofs.Common.{◌≡◌, ℕ, Bool, List, [], ◌++◌, Option, None, Some, Result, Ok, Err, inl, inr, refl, ap, sym, subst, ◌∙◌}
use Rattle.std.proofs.lemmas.List.{append_assoc}
use Rattle.std.proofs.lemmas.List.Elements.{Contains-append_left}
use Rattle.kr_config.specs.Kept.{ConfigEntry as setting, plugins_in}
use Rattle.kr_kms.specs.Cache.{CacheState}
use Rattle.kr_kms.specs.Exchanges.{Exchange}
use Rattle.kr_provider.specs.Exchanges.{PublishesBy}
use Rattle.kr_provider.specs.Publication.{Publication, list_at}
use Rattle.kr_provider.specs.declared.refusal.Opened.{Opened}
use Rattle.kr_provider.specs.declared.refusal.PublishNo.TheVariants as publishing
use Rattle.kr_provider.specs.declared.refusal.SealNo.{SealNo}
use Rattle.kr_provider.specs.declared.refusal.SealNo.TheVariants as sealing
use Rattle.kr_provider.specs.declared.refusal.UnsealNo.{UnsealNo}
use Rattle.kr_provider.specs.declared.refusal.UnsealNo.TheVariants as unsealing
use Rattle.kr_store.specs.declared.rows.Row.{Row}
use Rattle.kr_rollout.specs.declared.answer.Answer.{Answer}
use Rattle.kr_rollout.specs.declared.answer.Answer.TheVariants as answer
use Rattle.kr_rollout.specs.declared.event.Event.{Event}
use Rattle.kr_rollout.specs.declared.event.Event.TheVariants as event
use Rattle.kr_history.specs.Acting.{Caller}
use Rattle.kr_history.specs.Calls.{AdoptsNothing, EndsEarly, LetsGo}
use Rattle.kr_history.specs.declared.call.CallNo.{CallNo}
use Rattle.kr_history.specs.declared.call.CallNo.TheVariants as refusal
use Rattle.kr_fleet.specs.CallExchanges.{FindsBy, IsReadBy, IsRefreshBy, RefreshesBy, StopsBy}
use Rattle.kr_fleet.specs.CallForms.{CutShortWhere, JoinsWhere, ReloadsWhere}
use Rattle.kr_history.specs.declared.outcome.Joining.{Joining}
use Rattle.kr_history.specs.declared.outcome.Joining.TheVariants as joining
use Rattle.kr_fleet.specs.declared.outcome.Loaded.{Loaded}
use Rattle.kr_fleet.specs.declared.outcome.Loaded.TheVariants as loaded
use Rattle.kr_fleet.specs.declared.outcome.Read.{Read}
use Rattle.kr_fleet.specs.declared.outcome.Read.TheVariants as read
use Rattle.kr_rewrite.specs.DriveExchanges.{Ahead, IsDriveBy, ReadsRow, before, behind}
use Rattle.kr_rewrite.specs.Drives.{EndsByOver, last_of}
use Rattle.kr_rewrite.specs.Rewrites.{FindsNone, IsStepOver, ReplacesBy, ResealsBy, RewritesBy, RewritesData, RewritesOver, StepsOver, unread_step, unsealed_step}
use Rattle.kr_rewrite.specs.declared.outcome.Report.{Report}
use Rattle.kr_rewrite.specs.declared.outcome.Step.{Step}
use Rattle.kr_script.specs.declared.script.ScriptLine.{ScriptLine}
use Rattle.kr_script.specs.declared.script.ScriptLine.TheVariants as line
use Rattle.kr_script.specs.declared.told.Told.TheVariants as told
use Rattle.kr_workers.specs.declared.files.SettingsFile.{SettingsFile}
use Rattle.kr_workers.specs.LineExchanges.{DoesBy}
use Rattle.kr_workers.specs.Replies.{Reply, told_of_drive, told_of_join, told_of_read, told_of_refresh, told_of_refusal, told_of_reload}
use Rattle.kr_workers.specs.ScriptLines.{Workplace, seat_at}
use Rattle.kr_headline.proofs.HeardFaults.{Bears, Blame, Breaks, Fails, bears_in, bears_right, blame_of, keys_compared, reads_bear, seeds_bear, unseal_blame}
use Rattle.kr_headline.proofs.RowByRow.{walks_keep}

abbrev result_blame : {T : Type 0} → Result T CallNo → Option Blame
result_blame (Ok x) = None
result_blame (Err why) = blame_of why

-- of a drive that was cut short
abbrev drive_blame : Result Report (Report × CallNo) → Option Blame
drive_blame (Ok report) = None
drive_blame (Err cut) = blame_of cut.1

-- ---- a call that holds a generation meanwhile

none_adopted : (es : List Exchange) (replica : ℕ) (old new : Caller) (why : CallNo)
    → AdoptsNothing replica old why new → Bears es (blame_of why)
none_adopted es replica old new (refusal.PluginFailed name) a = absurd a
none_adopted es replica old new (refusal.Unhealthy name field text) a = absurd a
none_adopted es replica old new why a = tt

early_bears : {T : Type 0} (es : List Exchange) (replica : ℕ) (Stays : Type 0) (old new : Caller)
    (result : Result T CallNo) → EndsEarly replica Stays old result new
    → Bears es (result_blame result)
early_bears es replica Stays old new (Ok done) e = absurd e
early_bears es replica Stays old new (Err why) e = none_adopted es replica old new why e.0

lets_go_bears : {T : Type 0} (es : List Exchange) (acted new : Caller)
    (done result : Result T CallNo) → LetsGo acted done result new
    → Bears es (result_blame done) → Bears es (result_blame result)
lets_go_bears {T} es acted new done result (inl g) b =
    subst (λ (r : Result T CallNo). Bears es (result_blame r)) (sym g.1) b
lets_go_bears {T} es acted new done result (inr n) b =
    subst (λ (r : Result T CallNo). Bears es (result_blame r)) (sym n.1) tt

-- ---- a `get`

module _ (path : List ℕ) (cache after : CacheState) (es : List Exchange) where
  found_bears : (p : Publication) (old new : Caller) (result : Result Read CallNo)
      → FindsBy path p old cache result new after es → Bears es (result_blame result)
  found_bears p old new (Ok found) f = tt
  found_bears p old new (Err (refusal.PluginFailed name)) f =
      reads_bear p.seeds (list_at p f.0.resource) path f.0.stored cache after
      (Err (unsealing.PluginFailed name)) es f.1.reads
  found_bears p old new (Err (refusal.Unhealthy name field text)) f = absurd f
  found_bears p old new (Err why) f = tt

  get_bears : (replica : ℕ) (old new : Caller) (result : Result Read CallNo)
      → IsReadBy path replica old cache result new after es → Bears es (result_blame result)
  get_bears replica old new result (inl e) = early_bears es replica _ old new result e
  get_bears replica old new result (inr h) = lets_go_bears es h.acted new h.done result h.lets_go
      (found_bears h.p h.adopted h.acted h.done h.does)

-- ---- a reload, a join and a refresh

module _ {D : Type 0} (left : D → Option (List ℕ)) (count : D → ℕ) (rows : List setting)
    (dice after : D) (es : List Exchange) (replica : ℕ) (old new : Caller) where
  cut_bears : (brings : Publication → Event) (why : CallNo)
      → CutShortWhere (λ made. PublishesBy left count rows dice made after es) brings replica old
      why new → Bears es (blame_of why)
  cut_bears brings (refusal.PluginFailed name) c = seeds_bear left count (plugins_in rows) [] dice
      (Err (publishing.PluginFailed name)) after es c.0
  cut_bears brings (refusal.Unhealthy name field text) c = seeds_bear left count
      (plugins_in rows) [] dice (Err (publishing.Unhealthy name field text)) after es c.0
  cut_bears brings why c = tt

  reload_bears : (result : Result Loaded CallNo)
      → ReloadsWhere (λ made. PublishesBy left count rows dice made after es) replica old result
      new → Bears es (result_blame result)
  reload_bears (Ok found) w = tt
  reload_bears (Err why) w = cut_bears (λ p. event.Reload replica p None) why w

  join_bears : (result : Result Joining CallNo)
      → JoinsWhere (λ made. PublishesBy left count rows dice made after es) replica old result new
      → Bears es (result_blame result)
  join_bears (Ok found) w = tt
  join_bears (Err (refusal.PluginFailed name)) w =
      cut_bears (event.Join replica) (refusal.PluginFailed name) w
  join_bears (Err (refusal.Unhealthy name field text)) w =
      cut_bears (event.Join replica) (refusal.Unhealthy name field text) w
  join_bears (Err why) w = tt

module _ {D : Type 0} (left : D → Option (List ℕ)) (count : D → ℕ) (replica : ℕ) (dice after : D)
    (es : List Exchange) where
  stops_bear : (number : ℕ) (p : Publication) (old new : Caller) (why : CallNo)
      → StopsBy left count replica number p old dice why new after es → Bears es (blame_of why)
  stops_bear number p old new why (inl c) = (keys_compared p.seeds (Err why) es c.0).1
  stops_bear number p old new why (inr (inl c)) =
      subst (λ (w : CallNo). Bears es (blame_of w)) (sym c.1) tt
  stops_bear number p old new why (inr (inr r)) =
      subst (λ (l : List Exchange). Bears l (blame_of why)) (sym r.exchanges_are)
      (bears_right r.asked r.others (blame_of why) (cut_bears left count p.rows dice after r.others
      replica old new (λ q. event.Reload replica q (Some number)) why r.brings))

  refreshes_bear : (number : ℕ) (p : Publication) (old new : Caller)
      (result : Result Loaded CallNo)
      → RefreshesBy left count replica number p old dice result new after es
      → Bears es (result_blame result)
  refreshes_bear number p old new (Ok found) r = tt
  refreshes_bear number p old new (Err why) r = stops_bear number p old new why r

  refresh_bears : (old new : Caller) (result : Result Loaded CallNo)
      → IsRefreshBy left count replica old dice result new after es
      → Bears es (result_blame result)
  refresh_bears old new result (inl e) = early_bears es replica _ old new result e
  refresh_bears old new result (inr h) = lets_go_bears es h.acted new h.done result h.lets_go
      (refreshes_bear h.number h.p h.adopted h.acted h.done h.does)

-- ---- a rewrite

-- what a step came to is blamed only where its row was read
module _ (es : List Exchange) where
  abbrev Borne : Result Step CallNo → Type 0
  Borne result = Bears es (result_blame result)

  unblamed : (result other : Result Step CallNo) → result ≡ other → Borne other → Borne result
  unblamed result other is b = subst Borne (sym is) b

  replaced_bears : (path : List ℕ) (given : Answer) (result : Result Step CallNo)
      → ReplacesBy path given result → Borne result
  replaced_bears path (answer.Written revision) result is = unblamed result _ is tt
  replaced_bears path (answer.Changed revision) result is = unblamed result _ is tt
  replaced_bears path answer.StoreFailed result is = unblamed result _ is tt
  replaced_bears path (answer.StoreFull needed) result is = unblamed result _ is tt
  replaced_bears path answer.NoMemory result is = unblamed result _ is tt
  replaced_bears path given result is = absurd is

  unsealed_bears : (path : List ℕ) (why : SealNo) → Borne (unsealed_step path why)
  unsealed_bears path sealing.LooksEncrypted = tt
  unsealed_bears path other = tt

  resealed_bears : (p : Publication) (row : Row) (plain : List ℕ)
      (sealed : Result (List ℕ) SealNo) (old new : Caller) (result : Result Step CallNo)
      → ResealsBy p row plain sealed old result new → Borne result
  resealed_bears p row plain (Ok stored) old new result (inl o) =
      replaced_bears row.path o.given result o.answers
  resealed_bears p row plain (Ok stored) old new result (inr n) = unblamed result _ n.1 tt
  resealed_bears p row plain (Err why) old new result r =
      unblamed result _ r.0 (unsealed_bears row.path why)

  unread_bears : (path : List ℕ) (why : UnsealNo) → Bears es (unseal_blame (Err why))
      → Borne (unread_step path why)
  unread_bears path (unsealing.Refused cause) b = tt
  unread_bears path (unsealing.PluginFailed name) b = b
  unread_bears path unsealing.NoMemory b = tt

  module _ {D : Type 0} (left : D → Option (List ℕ)) (count : D → ℕ) (p : Publication) (row : Row)
      (old new : Caller) (dice after : D) where
    data_bear : (plain : List ℕ) (stale : Bool) (result : Result Step CallNo)
        → RewritesData left count p row plain stale old dice result new after → Borne result
    data_bear plain false result r = unblamed result _ r.0 tt
    data_bear plain true result (inl s) =
        resealed_bears p row plain s.sealed old new result s.reseals
    data_bear plain true result (inr c) = unblamed result _ c.0 tt

    row_bears : (opened : Result Opened UnsealNo) (result : Result Step CallNo)
        → RewritesBy left count p row opened old dice result new after
        → Bears es (unseal_blame opened) → Borne result
    row_bears (Ok opened) result r b = data_bear opened.plain opened.stale result r
    row_bears (Err why) result r b = unblamed result _ r.0 (unread_bears row.path why b)

-- the exchanges to come are the last of these
abbrev IsBehind : (from to : Ahead) → Type 0
IsBehind from to = (more : List Exchange) × (from.exchanges ≡ more ++ to.exchanges)

same_behind : (from to : Ahead) → to ≡ from → IsBehind from to
same_behind from to same = ([], ap (λ (a : Ahead). a.exchanges) (sym same))

both_behind : (from mid to : Ahead) → IsBehind from mid → IsBehind mid to → IsBehind from to
both_behind from mid to s r = (
  s.0 ++ r.0,
  s.1 ∙ ap (λ (l : List Exchange). s.0 ++ l) r.1 ∙ sym (append_assoc s.0 r.0 to.exchanges),
)

read_behind : (p : Publication) (row : Row) (from : Ahead) (opened : Result Opened UnsealNo)
    (to : Ahead) → ReadsRow p row from opened to → IsBehind from to
read_behind p row from opened to r = (r.first, r.are)

module _ {D : Type 0} (left : D → Option (List ℕ)) (count : D → ℕ) where
  rewrites_bear : (p : Publication) (row : Row) (old new : Caller) (from to : Ahead)
      (dice after : D) (result : Result Step CallNo)
      → RewritesOver ReadsRow left count p row old from dice result new to after
      → Bears from.exchanges (result_blame result)
  rewrites_bear p row old new from to dice after result (inl o) =
      row_bears from.exchanges left count p row old new dice after o.opened result o.rewrites
      (subst (λ (l : List Exchange). Bears l (unseal_blame o.opened)) (sym o.unseals.are)
      (bears_in o.unseals.first (o.unseals.first ++ to.exchanges)
      (Contains-append_left o.unseals.first to.exchanges) (unseal_blame o.opened)
      (reads_bear p.seeds (list_at p row.resource) row.path row.stored from.cache to.cache
      o.opened o.unseals.first o.unseals.reads)))
  rewrites_bear p row old new from to dice after result (inr n) =
      unblamed from.exchanges result _ n.0.0 tt

  none_found : (es : List Exchange) (above : List ℕ) (old new : Caller)
      (result : Result Step CallNo) → FindsNone above old result new
      → Bears es (result_blame result)
  none_found es above old new (Ok taken) n = tt
  none_found es above old new (Err (refusal.PluginFailed name)) n = absurd n
  none_found es above old new (Err (refusal.Unhealthy name field text)) n = absurd n
  none_found es above old new (Err why) n = tt

  steps_bear : (p : Publication) (above : List ℕ) (old new : Caller) (from to : Ahead)
      (dice after : D) (result : Result Step CallNo)
      → StepsOver ReadsRow left count p above old from dice result new to after
      → Bears from.exchanges (result_blame result)
  steps_bear p above old new from to dice after result (inl n) =
      none_found from.exchanges above old new result n.0
  steps_bear p above old new from to dice after result (inr f) =
      rewrites_bear p f.row f.found new from to dice after result f.rewrites

  step_bears : (replica : ℕ) (above : List ℕ) (old new : Caller) (from to : Ahead)
      (dice after : D) (result : Result Step CallNo)
      → IsStepOver ReadsRow left count replica above old from dice result new to after
      → Bears from.exchanges (result_blame result)
  step_bears replica above old new from to dice after result (inl e) =
      early_bears from.exchanges replica _ old new result e
  step_bears replica above old new from to dice after result (inr h) =
      lets_go_bears from.exchanges h.acted new h.done result h.lets_go
      (steps_bear h.p above h.adopted h.acted from to dice after h.done h.does)

  ends_bear : (replica : ℕ) (above : List ℕ) (steps : List Step) (old new : Caller)
      (from to : Ahead) (dice after : D) (ended : Result Step CallNo) (report : Report)
      → EndsByOver ReadsRow (λ a b. ⊤) left count replica above steps old from dice ended report
      new to after → Bears from.exchanges (result_blame ended)
  ends_bear replica above steps old new from to dice after ended report e =
      let w = walks_keep IsBehind same_behind both_behind read_behind left count replica above
      steps old e.middle from e.mids dice e.between e.walks in
      subst (λ (l : List Exchange). Bears l (result_blame ended)) (sym w.1)
      (bears_right w.0 e.mids.exchanges (result_blame ended)
      (step_bears replica (last_of above steps) e.middle new e.mids to e.between after ended
      e.ends))

  drive_bears : (replica : ℕ) (above : List ℕ) (old new : Caller) (cache stays : CacheState)
      (dice after : D) (result : Result Report (Report × CallNo)) (es : List Exchange)
      → IsDriveBy left count replica above old cache dice result new stays after es
      → Bears es (drive_blame result)
  drive_bears replica above old new cache stays dice after (Ok report) es d = tt
  drive_bears replica above old new cache stays dice after (Err cut) es (inl d) =
      ends_bear replica above d.steps old new (before cache es) (behind stays) dice after
      (Err cut.1) cut.0 d.ends
  drive_bears replica above old new cache stays dice after (Err cut) es (inr n) =
      subst (λ (w : CallNo). Bears es (blame_of w)) (sym n.why_is) tt

-- ---- whom a reply blames

abbrev pub blame_in : Reply → Option Blame
blame_in (Ok (told.FaultPlugin name)) = Some (Fails name)
blame_in (Ok (told.Unhealthy name field text)) = Some (Breaks name field text)
blame_in reply = None

module _ (seat : ℕ) where
  refusal_told : (why : CallNo) → blame_in (told_of_refusal seat why) ≡ blame_of why
  refusal_told (refusal.Value cause) = refl
  refusal_told other = refl

  read_told : (result : Result Read CallNo)
      → blame_in (told_of_read seat result) ≡ result_blame result
  read_told (Ok read.Absent) = refl
  read_told (Ok (read.Value revision plain stale)) = refl
  read_told (Err why) = refusal_told why

  reload_told : (result : Result Loaded CallNo)
      → blame_in (told_of_reload seat result) ≡ result_blame result
  reload_told (Ok (loaded.Generation number)) = refl
  reload_told (Err why) = refusal_told why
  reload_told (Ok other) = refl

  refresh_told : (result : Result Loaded CallNo)
      → blame_in (told_of_refresh seat result) ≡ result_blame result
  refresh_told (Ok (loaded.Generation number)) = refl
  refresh_told (Err why) = refusal_told why
  refresh_told (Ok other) = refl

  join_told : (result : Result Joining CallNo)
      → blame_in (told_of_join seat result) ≡ result_blame result
  join_told (Ok (joining.Generation number)) = refl
  join_told (Err why) = refusal_told why
  join_told (Ok other) = refl

  drive_told : (result : Result Report (Report × CallNo))
      → blame_in (told_of_drive seat result) ≡ drive_blame result
  drive_told (Ok report) = refl
  drive_told (Err cut) = refusal_told cut.1

-- a line of this kind may ask plugins
abbrev pub AsksPlugins : ScriptLine → Type 0
AsksPlugins (line.Put resource path plain) = ⊥
AsksPlugins (line.Delete path) = ⊥
AsksPlugins (line.Leave replica) = ⊥
AsksPlugins asked = ⊤

as_told : (es : List Exchange) (reply other : Reply) (blame : Option Blame) → reply ≡ other
    → blame_in other ≡ blame → Bears es blame → Bears es (blame_in reply)
as_told es reply other blame is same b =
    subst (λ (r : Reply). Bears es (blame_in r)) (sym is) (subst (Bears es) (sym same) b)

module _ {L D : Type 0} (left : D → Option (List ℕ)) (count : D → ℕ) (files : List SettingsFile)
    (replica : ℕ) (old new : Workplace L D) (reply : Reply) (es : List Exchange) where
  abbrev Told_so : Type 0
  Told_so = Bears es (blame_in reply)

  pub line_bears : (asked : ScriptLine) → AsksPlugins asked
      → DoesBy left count files replica asked old reply new es → Told_so
  line_bears (line.Get path) asks d = as_told es reply _ (result_blame d.0) d.1
      (read_told (seat_at old) d.0)
      (get_bears path old.cache new.cache es replica old.caller new.caller d.0 d.2)
  line_bears line.Rewrite asks d = as_told es reply _ (drive_blame d.0) d.1
      (drive_told (seat_at old) d.0)
      (drive_bears left count replica [] old.caller new.caller old.cache new.cache old.dice
      new.dice d.0 es d.2)
  line_bears (line.Reload named file) asks (rows, read, inl d) =
      as_told es reply _ None d.0.0 refl tt
  line_bears (line.Reload named file) asks (rows, read, inr d) =
      as_told es reply _ (result_blame d.0) d.1 (reload_told (seat_at old) d.0)
      (reload_bears left count rows old.dice new.dice es named old.caller new.caller d.0 d.2)
  line_bears line.Refresh asks d = as_told es reply _ (result_blame d.0) d.1
      (refresh_told (seat_at old) d.0)
      (refresh_bears left count replica old.dice new.dice es old.caller new.caller d.0 d.2)
  line_bears (line.Join named file) asks (rows, read, inl d) =
      as_told es reply _ None d.0.0 refl tt
  line_bears (line.Join named file) asks (rows, read, inr d) =
      as_told es reply _ (result_blame d.0) d.1 (join_told (seat_at old) d.0)
      (join_bears left count rows old.dice new.dice es named old.caller new.caller d.0 d.2)
  line_bears other asks d = absurd asks
