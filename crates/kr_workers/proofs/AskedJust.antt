-- What a line asks of plugins fails once at most, where its reply names the plugin.
use Rattle.std.specs.Prelude.{◌⊎◌, ⊤}
use Rattle.std.proofs.Common.{◌≡◌, ℕ, Bool, true, false, List, [], ◌∷◌, ◌++◌, Option, None, Some, Result, Ok, Err, inl, inr, refl, ap, sym, subst, ◌∙◌, append-nil, append_assoc}
use Rattle.kr_config.specs.Kept.{ConfigEntry}
use Rattle.kr_kms.specs.Cache.{CacheState}
use Rattle.kr_kms.specs.Calls.{Link}
use Rattle.kr_kms.specs.Exchanges.{Exchange}
use Rattle.kr_kms.specs.declared.seeds.SeedRow.{SeedRow}
use Rattle.kr_provider.specs.Exchanges.{PublishesBy}
use Rattle.kr_provider.specs.Publication.{Publication, list_at}
use Rattle.kr_provider.specs.declared.refusal.Opened.{Opened}
use Rattle.kr_provider.specs.declared.refusal.PublishNo.{PublishNo}
use Rattle.kr_provider.specs.declared.refusal.PublishNo.TheVariants as publishing
use Rattle.kr_provider.specs.declared.refusal.SealNo.{SealNo}
use Rattle.kr_provider.specs.declared.refusal.SealNo.TheVariants as sealing
use Rattle.kr_provider.specs.declared.refusal.UnsealNo.{UnsealNo}
use Rattle.kr_provider.specs.declared.refusal.UnsealNo.TheVariants as unsealing
use Rattle.kr_store.specs.declared.rows.Row.{Row}
use Rattle.kr_rollout.specs.declared.answer.Answer.{Answer}
use Rattle.kr_rollout.specs.declared.answer.Answer.TheVariants as answer
use Rattle.kr_rollout.specs.declared.event.Event.{Event}
use Rattle.kr_rollout.specs.declared.event.Event.TheVariants as event
use Rattle.kr_history.specs.Acting.{Caller}
use Rattle.kr_history.specs.Calls.{AdoptsNothing, EndsEarly, HoldsMeanwhile, LetsGo}
use Rattle.kr_history.specs.declared.call.CallNo.{CallNo}
use Rattle.kr_history.specs.declared.call.CallNo.TheVariants as refusal
use Rattle.kr_history.specs.declared.outcome.Joining.{Joining}
use Rattle.kr_history.specs.declared.outcome.Joining.TheVariants as joining
use Rattle.kr_fleet.specs.CallExchanges.{ComparesKeysBy, FindsBy, IsReadBy, IsRefreshBy, RefreshesBy, all_same, changed, told_none, went_on}
use Rattle.kr_fleet.specs.CallForms.{CutShortWhere, JoinsWhere, NotJoinedWhere, ReloadsWhere, publish_refusal, reload_of}
use Rattle.kr_fleet.specs.declared.outcome.Loaded.{Loaded}
use Rattle.kr_fleet.specs.declared.outcome.Loaded.TheVariants as loaded
use Rattle.kr_fleet.specs.declared.outcome.Read.{Read}
use Rattle.kr_fleet.specs.declared.outcome.Read.TheVariants as found
use Rattle.kr_rewrite.specs.DriveExchanges.{Ahead, IsDriveBy, ReadsRow, before, behind}
use Rattle.kr_rewrite.specs.Drives.{WalksOver}
use Rattle.kr_rewrite.specs.Rewrites.{FindsNone, IsStepOver, ReplacesBy, ResealsBy, RewritesBy, RewritesData, RewritesOver, StepsOver, unread_step, unsealed_step}
use Rattle.kr_rewrite.specs.declared.outcome.Report.{Report}
use Rattle.kr_rewrite.specs.declared.outcome.Step.{Step}
use Rattle.kr_rewrite.specs.declared.outcome.Step.TheVariants as step
use Rattle.kr_script.specs.declared.script.ScriptLine.{ScriptLine}
use Rattle.kr_script.specs.declared.script.ScriptLine.TheVariants as line
use Rattle.kr_script.specs.declared.told.Told.{Told}
use Rattle.kr_script.specs.declared.told.Told.TheVariants as told
use Rattle.kr_workers.specs.declared.files.SettingsFile.{SettingsFile}
use Rattle.kr_workers.specs.Causes.{AsksPlugins}
use Rattle.kr_workers.specs.LineExchanges.{DoesBy}
use Rattle.kr_workers.specs.Replies.{Reply, told_of_drive, told_of_join, told_of_read, told_of_refresh, told_of_refusal, told_of_reload}
use Rattle.kr_workers.specs.ScriptLines.{Does, Workplace}
use Rattle.kr_workers.specs.ToldFaults.{AreCalm, EndInFault, LinesTellFaults, TellsPlugins}
use Rattle.kr_workers.proofs.Causing.{HasCauseAt}
use Rattle.kr_workers.proofs.CausingRewrites.{line_caused}
use Rattle.kr_workers.proofs.DrawnJust.{line_drawn}
use Rattle.kr_workers.proofs.ToldOnce.{MadeTells, PublishTells, calm_both, calm_none, key_id_tells, publishing_tells}
use Rattle.kr_workers.proofs.ToldReads.{UnsealTells, unsealing_tells}

-- ---- what a call's exchanges were, by its answer, and as it is told

abbrev WhyTells : CallNo → List Exchange → Type 0
WhyTells (refusal.PluginFailed name) es = EndInFault name es
WhyTells why es = AreCalm es

abbrev CallTells : {T : Type 0} → Result T CallNo → List Exchange → Type 0
CallTells (Ok done) es = AreCalm es
CallTells (Err why) es = WhyTells why es

abbrev ReplyTells : Reply → List Exchange → Type 0
ReplyTells (Ok reply) es = TellsPlugins reply es
ReplyTells (Err spent) es = ⊤

module _ (seat : ℕ) (es : List Exchange) where
  refusal_says : (why : CallNo) → WhyTells why es → ReplyTells (told_of_refusal seat why) es
  refusal_says (refusal.Value why) t = t
  refusal_says (refusal.PluginFailed name) t = t
  refusal_says refusal.DiceFailed t = t
  refusal_says refusal.StoreFailed t = t
  refusal_says (refusal.StoreFull needed) t = t
  refusal_says (refusal.Unhealthy name field text) t = t
  refusal_says refusal.Gone t = t
  refusal_says refusal.Spent t = tt
  refusal_says refusal.NoMemory t = t

  read_says : (result : Result Read CallNo) → CallTells result es
      → ReplyTells (told_of_read seat result) es
  read_says (Ok found.Absent) t = t
  read_says (Ok (found.Value revision plain stale)) t = t
  read_says (Err why) t = refusal_says why t

  reload_says : (result : Result Loaded CallNo) → CallTells result es
      → ReplyTells (told_of_reload seat result) es
  reload_says (Ok (loaded.Generation generation)) t = t
  reload_says (Ok (loaded.Refused verdict)) t = t
  reload_says (Ok (loaded.Moved generation)) t = t
  reload_says (Ok (loaded.Unchanged generation)) t = t
  reload_says (Err why) t = refusal_says why t

  refresh_says : (result : Result Loaded CallNo) → CallTells result es
      → ReplyTells (told_of_refresh seat result) es
  refresh_says (Ok (loaded.Generation generation)) t = t
  refresh_says (Ok (loaded.Refused verdict)) t = t
  refresh_says (Ok (loaded.Moved generation)) t = t
  refresh_says (Ok (loaded.Unchanged generation)) t = t
  refresh_says (Err why) t = refusal_says why t

  join_says : (result : Result Joining CallNo) → CallTells result es
      → ReplyTells (told_of_join seat result) es
  join_says (Ok (joining.Generation generation)) t = t
  join_says (Ok (joining.Refused verdict)) t = t
  join_says (Ok (joining.Present generation)) t = t
  join_says (Err why) t = refusal_says why t

-- ---- exchanges, one behind another

calm_at : (es : List Exchange) → es ≡ [] → AreCalm es
calm_at es none = subst AreCalm (sym none) calm_none

why_then : (why : CallNo) (es fs : List Exchange) → AreCalm es → WhyTells why fs
    → WhyTells why (es ++ fs)
why_then (refusal.PluginFailed name) es fs calm (front, last, is, calms, named, fault) = (
  es ++ front,
  last,
  ap (λ l. es ++ l) is ∙ sym (append_assoc es front (last ∷ [])),
  calm_both es front calm calms,
  named,
  fault,
)
why_then other es fs calm t = calm_both es fs calm t

call_then : {T : Type 0} (result : Result T CallNo) (es fs : List Exchange) → AreCalm es
    → CallTells result fs → CallTells result (es ++ fs)
call_then (Ok done) es fs calm t = calm_both es fs calm t
call_then (Err why) es fs calm t = why_then why es fs calm t

-- ---- calls that hold a generation

adopts_tells : (replica : ℕ) (old new : Caller) (why : CallNo) (es : List Exchange)
    → AdoptsNothing replica old why new → AreCalm es → WhyTells why es
adopts_tells replica old new (refusal.PluginFailed name) es a calm = absurd a
adopts_tells replica old new other es a calm = calm

early_tells : {T : Type 0} (Unchanged : Type 0) (replica : ℕ) (old new : Caller)
    (result : Result T CallNo) (es : List Exchange) → (Unchanged → es ≡ [])
    → EndsEarly replica Unchanged old result new → CallTells result es
early_tells Unchanged replica old new (Ok done) es by e = absurd e
early_tells Unchanged replica old new (Err why) es by e =
    adopts_tells replica old new why es e.0 (calm_at es (by e.1))

held_says : {T : Type 0} (told_of : Result T CallNo → Reply) (es : List Exchange)
    → ((result : Result T CallNo) → CallTells result es → ReplyTells (told_of result) es)
    → ReplyTells (told_of (Err refusal.Spent)) es
    → (DoesSo : (number : ℕ) → Publication → Caller → Result T CallNo → Caller → Type 0)
    (replica : ℕ) (old new : Caller) (result : Result T CallNo)
    → ((number : ℕ) (p : Publication) (from to : Caller) (done : Result T CallNo)
    → DoesSo number p from done to → CallTells done es)
    → HoldsMeanwhile DoesSo replica old result new → ReplyTells (told_of result) es
held_says {T} told_of es says spent DoesSo replica old new result by h = go h.lets_go
  where
    go : LetsGo h.acted h.done result new → ReplyTells (told_of result) es
    go (inl g) = subst (λ (r : Result T CallNo). ReplyTells (told_of r) es) (sym g.1)
        (says h.done (by h.number h.p h.adopted h.acted h.done h.does))
    go (inr n) = subst (λ (r : Result T CallNo). ReplyTells (told_of r) es) (sym n.1) spent

-- ---- a get

finds_tell : (path : List ℕ) (p : Publication) (old new : Caller) (cache after : CacheState)
    (done : Result Read CallNo) (es : List Exchange) → FindsBy path p old cache done new after es
    → CallTells done es
finds_tell path p old new cache after (Ok found.Absent) es d = calm_at es d.1.1
finds_tell path p old new cache after (Ok (found.Value revision plain stale)) es d =
    unsealing_tells p.seeds (list_at p d.0.resource) path d.0.stored cache
    (Ok (record { plain = plain; stale = stale })) after es d.1.reads
finds_tell path p old new cache after (Err (refusal.Value why)) es d = unsealing_tells p.seeds
    (list_at p d.0.resource) path d.0.stored cache (Err (unsealing.Refused why)) after es d.1.reads
finds_tell path p old new cache after (Err (refusal.PluginFailed name)) es d = unsealing_tells
    p.seeds (list_at p d.0.resource) path d.0.stored cache (Err (unsealing.PluginFailed name)) after
    es d.1.reads
finds_tell path p old new cache after (Err refusal.NoMemory) es (inl d) = unsealing_tells p.seeds
    (list_at p d.0.resource) path d.0.stored cache (Err unsealing.NoMemory) after es d.1.reads
finds_tell path p old new cache after (Err refusal.NoMemory) es (inr d) = calm_at es d.1.1
finds_tell path p old new cache after (Err refusal.Spent) es d = calm_at es d.1.1
finds_tell path p old new cache after (Err other) es d = absurd d

read_tells : (seat replica : ℕ) (path : List ℕ) (old new : Caller) (cache after : CacheState)
    (result : Result Read CallNo) (es : List Exchange)
    → IsReadBy path replica old cache result new after es
    → ReplyTells (told_of_read seat result) es
read_tells seat replica path old new cache after result es (inl e) = read_says seat es result
    (early_tells ((after ≡ cache) × (es ≡ [])) replica old new result es (λ same. same.1) e)
read_tells seat replica path old new cache after result es (inr h) =
    held_says (told_of_read seat) es (read_says seat es) tt
    (λ number p from done to. FindsBy path p from cache done to after es) replica old new result
    (λ number p from to done d. finds_tell path p from to cache after done es d) h

-- ---- calls that publish

module _ (Publishes : Result Publication PublishNo → Type 0) (es : List Exchange)
    (tells : (made : Result Publication PublishNo) → Publishes made → MadeTells made es) where
  cut_tells : (brings : Publication → Event) (replica : ℕ) (old new : Caller) (why : CallNo)
      → CutShortWhere Publishes brings replica old why new → WhyTells why es
  cut_tells brings replica old new (refusal.PluginFailed name) b =
      tells (Err (publishing.PluginFailed name)) b.0
  cut_tells brings replica old new refusal.DiceFailed b = tells (Err publishing.DiceFailed) b.0
  cut_tells brings replica old new (refusal.Unhealthy name field text) b =
      tells (Err (publishing.Unhealthy name field text)) b.0
  cut_tells brings replica old new refusal.NoMemory (inl b) = tells (Err publishing.NoMemory) b.0
  cut_tells brings replica old new refusal.NoMemory (inr (inl b)) = tells (Ok b.0.0) b.0.1
  cut_tells brings replica old new refusal.NoMemory (inr (inr b)) = tells (Ok b.p) b.publishes
  cut_tells brings replica old new refusal.Gone b = tells (Ok b.p) b.publishes
  cut_tells brings replica old new refusal.Spent b = tells (Ok b.0.0) b.0.1
  cut_tells brings replica old new other b = absurd b

  reload_tells : (replica : ℕ) (old new : Caller) (result : Result Loaded CallNo)
      → ReloadsWhere Publishes replica old result new → CallTells result es
  reload_tells replica old new (Ok (loaded.Generation number)) b = tells (Ok b.p) b.publishes
  reload_tells replica old new (Ok (loaded.Refused verdict)) b = tells (Ok b.p) b.publishes
  reload_tells replica old new (Ok other) b = absurd b
  reload_tells replica old new (Err why) b =
      cut_tells (reload_of replica None) replica old new why b

  not_joined_tells : (replica : ℕ) (old new : Caller) (why : CallNo)
      → NotJoinedWhere Publishes replica old why new → WhyTells why es
  not_joined_tells replica old new refusal.Gone b = absurd b
  not_joined_tells replica old new other b =
      cut_tells (event.Join replica) replica old new other b

  join_tells : (replica : ℕ) (old new : Caller) (result : Result Joining CallNo)
      → JoinsWhere Publishes replica old result new → CallTells result es
  join_tells replica old new (Ok (joining.Generation number)) b = tells (Ok b.p) b.publishes
  join_tells replica old new (Ok (joining.Refused verdict)) b = tells (Ok b.p) b.publishes
  join_tells replica old new (Ok (joining.Present number)) b = tells (Ok b.p) b.publishes
  join_tells replica old new (Err why) b = not_joined_tells replica old new why b

-- ---- a refresh

refusal_tells : (why : PublishNo) (es : List Exchange) → PublishTells why es
    → WhyTells (publish_refusal why) es
refusal_tells (publishing.PluginFailed name) es t = t
refusal_tells publishing.DiceFailed es t = t
refusal_tells (publishing.Unhealthy name field text) es t = t
refusal_tells publishing.NoMemory es t = t

compares_tell : (seeds : List SeedRow) (result : Result Bool CallNo) (es : List Exchange)
    → ComparesKeysBy seeds result es → CallTells result es
compares_tell _ _ _ all_same = calm_none
compares_tell _ _ _ (changed {exchanges = es} row rest key_id tells other) =
    key_id_tells row.name (Ok key_id) es tells
compares_tell _ _ _ (told_none {exchanges = es} row rest cause why tells is) =
    subst (λ (w : CallNo). WhyTells w es) (sym is)
    (refusal_tells cause es (key_id_tells row.name (Err cause) es tells))
compares_tell _ _ _ (went_on {exchanges = es} {others = fs} {result = result} row rest tells more) =
    call_then result es fs (key_id_tells row.name (Ok row.key_id) es tells)
    (compares_tell rest result fs more)

module _ {D : Type 0} (left : D → Option (List ℕ)) (count : D → ℕ) where
  made_tells : (rows : List ConfigEntry) (dice after : D) (es : List Exchange)
      (made : Result Publication PublishNo) → PublishesBy left count rows dice made after es
      → MadeTells made es
  made_tells rows dice after es made m = (publishing_tells left count rows dice made after es m).1

  -- a key has changed, and then the settings were published
  renewed : {T : Type 0} (result : Result T CallNo) (seeds : List SeedRow)
      (es asked others : List Exchange) → es ≡ asked ++ others
      → ComparesKeysBy seeds (Ok true) asked → CallTells result others → CallTells result es
  renewed result seeds es asked others are compares t =
      subst (λ (l : List Exchange). CallTells result l) (sym are)
      (call_then result asked others (compares_tell seeds (Ok true) asked compares) t)

  refreshes_tell : (replica number : ℕ) (p : Publication) (old new : Caller) (dice after : D)
      (result : Result Loaded CallNo) (es : List Exchange)
      → RefreshesBy left count replica number p old dice result new after es
      → CallTells result es
  refreshes_tell replica number p old new dice after (Ok (loaded.Unchanged same)) es r =
      compares_tell p.seeds (Ok false) es r.1
  refreshes_tell replica number p old new dice after (Ok (loaded.Generation made)) es r =
      renewed (Ok (loaded.Generation made)) p.seeds es r.asked r.others r.exchanges_are r.compares
      (made_tells p.rows dice after r.others (Ok r.brings.p) r.brings.publishes)
  refreshes_tell replica number p old new dice after (Ok (loaded.Moved current)) es r =
      renewed (Ok (loaded.Moved current)) p.seeds es r.asked r.others r.exchanges_are r.compares
      (made_tells p.rows dice after r.others (Ok r.brings.p) r.brings.publishes)
  refreshes_tell replica number p old new dice after (Ok (loaded.Refused verdict)) es r = absurd r
  refreshes_tell replica number p old new dice after (Err why) es (inl r) =
      compares_tell p.seeds (Err why) es r.0
  refreshes_tell replica number p old new dice after (Err why) es (inr (inl r)) =
      subst (λ (w : CallNo). WhyTells w es) (sym r.1) (compares_tell p.seeds (Ok true) es r.0)
  refreshes_tell replica number p old new dice after (Err why) es (inr (inr r)) =
      renewed {T = Loaded} (Err why) p.seeds es r.asked r.others r.exchanges_are r.compares
      (cut_tells (λ made. PublishesBy left count p.rows dice made after r.others) r.others
      (made_tells p.rows dice after r.others) (reload_of replica (Some number)) replica old new why
      r.brings)

  refresh_tells : (seat replica : ℕ) (old new : Caller) (dice after : D)
      (result : Result Loaded CallNo) (es : List Exchange)
      → IsRefreshBy left count replica old dice result new after es
      → ReplyTells (told_of_refresh seat result) es
  refresh_tells seat replica old new dice after result es (inl e) = refresh_says seat es result
      (early_tells ((after ≡ dice) × (es ≡ [])) replica old new result es (λ same. same.1) e)
  refresh_tells seat replica old new dice after result es (inr h) =
      held_says (told_of_refresh seat) es (refresh_says seat es) tt
      (λ number p from done to. RefreshesBy left count replica number p from dice done to after es)
      replica old new result (λ number p from to done r.
      refreshes_tell replica number p from to dice after done es r) h

  -- ---- a rewrite

  -- of the exchanges that are still to come these were made
  record Takes (Tells : List Exchange → Type 0) (from to : Ahead) : Type 0 where
    first : List Exchange
    are : from.exchanges ≡ first ++ to.exchanges
    tells : Tells first

  abbrev StepTells : Result Step CallNo → Ahead → Ahead → Type 0
  StepTells result from to = Takes (λ first. CallTells result first) from to

  takes_none : (result : Result Step CallNo) (from to : Ahead) → to ≡ from → CallTells result []
      → StepTells result from to
  takes_none result from to same t =
      record { first = []; are = ap (λ (a : Ahead). a.exchanges) (sym same); tells = t }

  -- the seat may add no more lines
  abbrev IsSpent : Result Step CallNo → Type 0
  IsSpent result = result ≡ Err refusal.Spent

  -- a step that names no plugin
  abbrev names_plugin : CallNo → Bool
  names_plugin (refusal.PluginFailed name) = true
  names_plugin why = false

  abbrev says_plugin : Result Step CallNo → Bool
  says_plugin (Ok taken) = false
  says_plugin (Err why) = names_plugin why

  why_calm : (why : CallNo) (es : List Exchange) → names_plugin why ≡ false → AreCalm es
      → WhyTells why es
  why_calm (refusal.PluginFailed name) es e calm = absurd (cc)
  why_calm other es e calm = calm

  step_calm : (result : Result Step CallNo) (es : List Exchange) → says_plugin result ≡ false
      → AreCalm es → CallTells result es
  step_calm (Ok taken) es e calm = calm
  step_calm (Err why) es e calm = why_calm why es e calm

  replaces_calm : (path : List ℕ) (given : Answer) (result : Result Step CallNo)
      → ReplacesBy path given result → says_plugin result ≡ false
  replaces_calm path (answer.Written revision) result r = ap says_plugin r
  replaces_calm path (answer.Changed revision) result r = ap says_plugin r
  replaces_calm path answer.StoreFailed result r = ap says_plugin r
  replaces_calm path (answer.StoreFull needed) result r = ap says_plugin r
  replaces_calm path answer.NoMemory result r = ap says_plugin r
  replaces_calm path other result r = absurd r

  unsealed_calm : (path : List ℕ) (why : SealNo) → says_plugin (unsealed_step path why) ≡ false
  unsealed_calm path sealing.LooksEncrypted = refl
  unsealed_calm path (sealing.TooLarge size) = refl
  unsealed_calm path sealing.DiceFailed = refl
  unsealed_calm path sealing.NoMemory = refl

  reseals_calm : (p : Publication) (row : Row) (plain : List ℕ) (old new : Caller)
      (sealed : Result (List ℕ) SealNo) (result : Result Step CallNo)
      → ResealsBy p row plain sealed old result new → says_plugin result ≡ false
  reseals_calm p row plain old new (Ok stored) result (inl o) =
      replaces_calm row.path o.given result o.answers
  reseals_calm p row plain old new (Ok stored) result (inr n) = ap says_plugin n.1
  reseals_calm p row plain old new (Err why) result r =
      ap says_plugin r.0 ∙ unsealed_calm row.path why

  data_calm : (p : Publication) (row : Row) (plain : List ℕ) (stale : Bool) (old new : Caller)
      (dice after : D) (result : Result Step CallNo)
      → RewritesData left count p row plain stale old dice result new after
      → says_plugin result ≡ false
  data_calm p row plain false old new dice after result r = ap says_plugin r.0
  data_calm p row plain true old new dice after result (inl r) =
      reseals_calm p row plain old new r.sealed result r.reseals
  data_calm p row plain true old new dice after result (inr c) = ap says_plugin c.0

  unread_tells : (path : List ℕ) (why : UnsealNo) (es : List Exchange) → UnsealTells (Err why) es
      → CallTells (unread_step path why) es
  unread_tells path (unsealing.Refused why) es t = t
  unread_tells path (unsealing.PluginFailed name) es t = t
  unread_tells path unsealing.NoMemory es t = t

  opened_tells : (p : Publication) (row : Row) (opened : Result Opened UnsealNo)
      (old new : Caller) (dice after : D) (result : Result Step CallNo) (es : List Exchange)
      → RewritesBy left count p row opened old dice result new after → UnsealTells opened es
      → CallTells result es
  opened_tells p row (Ok opened) old new dice after result es r t = step_calm result es
      (data_calm p row opened.plain opened.stale old new dice after result r) t
  opened_tells p row (Err why) old new dice after result es r t =
      subst (λ (s : Result Step CallNo). CallTells s es) (sym r.0) (unread_tells row.path why es t)

  row_tells : (p : Publication) (row : Row) (old new : Caller) (from to : Ahead) (dice after : D)
      (result : Result Step CallNo)
      → RewritesOver ReadsRow left count p row old from dice result new to after
      → StepTells result from to
  row_tells p row old new from to dice after result (inl o) = record {
    first = o.unseals.first;
    are = o.unseals.are;
    tells = opened_tells p row o.opened old new dice after result o.unseals.first o.rewrites
        (unsealing_tells p.seeds (list_at p row.resource) row.path row.stored from.cache o.opened
        to.cache o.unseals.first o.unseals.reads);
  }
  row_tells p row old new from to dice after result (inr c) = takes_none result from to c.1
      (step_calm result [] (ap says_plugin c.0.0) calm_none)

  finds_calm : (above : List ℕ) (old new : Caller) (result : Result Step CallNo)
      → FindsNone above old result new → says_plugin result ≡ false
  finds_calm above old new (Ok step.End) f = refl
  finds_calm above old new (Err refusal.NoMemory) f = refl
  finds_calm above old new (Err refusal.Spent) f = refl
  finds_calm above old new other f = absurd f

  steps_tell : (p : Publication) (above : List ℕ) (old new : Caller) (from to : Ahead)
      (dice after : D) (result : Result Step CallNo)
      → StepsOver ReadsRow left count p above old from dice result new to after
      → StepTells result from to
  steps_tell p above old new from to dice after result (inl none) = takes_none result from to
      none.1 (step_calm result [] (finds_calm above old new result none.0) calm_none)
  steps_tell p above old new from to dice after result (inr f) =
      row_tells p f.row f.found new from to dice after result f.rewrites

  module _ (replica : ℕ) where
    -- or the seat may add no more lines
    step_tells : (above : List ℕ) (old new : Caller) (from to : Ahead) (dice after : D)
        (result : Result Step CallNo)
        → IsStepOver ReadsRow left count replica above old from dice result new to after
        → StepTells result from to ⊎ IsSpent result
    step_tells above old new from to dice after result (inl e) = inl (go result e)
      where
        go : (r : Result Step CallNo)
            → EndsEarly replica ((to ≡ from) × (after ≡ dice)) old r new → StepTells r from to
        go (Ok done) e = absurd e
        go (Err why) e = takes_none (Err why) from to e.1.0
            (adopts_tells replica old new why [] e.0 calm_none)
    step_tells above old new from to dice after result (inr h) = go h.lets_go
      where
        go : LetsGo h.acted h.done result new
            → StepTells result from to ⊎ IsSpent result
        go (inl g) = inl (subst (λ (r : Result Step CallNo). StepTells r from to) (sym g.1)
            (steps_tell h.p above h.adopted h.acted from to dice after h.done h.does))
        go (inr n) = inr n.1

    done_tells : (taken : Step) (from to : Ahead)
        → StepTells (Ok taken) from to ⊎ IsSpent (Ok taken) → Takes AreCalm from to
    done_tells taken from to (inl t) =
        record { first = t.first; are = t.are; tells = t.tells }
    done_tells taken from to (inr spent) = absurd (cc)

    takes_then : (result : Result Step CallNo) (from mid to : Ahead) → Takes AreCalm from mid
        → StepTells result mid to → StepTells result from to
    takes_then result from mid to a b = record {
      first = a.first ++ b.first;
      are = a.are ∙ ap (λ l. a.first ++ l) b.are
          ∙ sym (append_assoc a.first b.first to.exchanges);
      tells = call_then result a.first b.first a.tells b.tells;
    }

    walks_calm : (above : List ℕ) (steps : List Step) (old new : Caller) (from to : Ahead)
        (dice after : D)
        → WalksOver ReadsRow left count replica above steps old from dice new to after
        → Takes AreCalm from to
    walks_calm above [] old new from to dice after w =
        let none = takes_none (Ok step.End) from to w.1 calm_none in
        record { first = none.first; are = none.are; tells = none.tells }
    walks_calm above (taken ∷ steps) old new from to dice after w =
        let front = done_tells taken from w.mids
        (step_tells above old w.middle from w.mids dice w.between (Ok taken) w.goes) in
        let rest = walks_calm _ steps w.middle new w.mids to w.between after w.behind in
        let both = takes_then (Ok step.End) from w.mids to front
        (record { first = rest.first; are = rest.are; tells = rest.tells }) in
        record { first = both.first; are = both.are; tells = both.tells }

    -- nothing is left to come
    all_taken : (result : Result Step CallNo) (from to : Ahead) → to.exchanges ≡ []
        → StepTells result from to → CallTells result from.exchanges
    all_taken result from to none t = subst (λ (l : List Exchange). CallTells result l)
        (sym (t.are ∙ ap (λ l. t.first ++ l) none ∙ append-nil t.first)) t.tells

    cut_says : (seat : ℕ) (why : CallNo) (from mid to : Ahead) → to.exchanges ≡ []
        → Takes AreCalm from mid
        → StepTells (Err why) mid to ⊎ IsSpent (Err why)
        → ReplyTells (told_of_refusal seat why) from.exchanges
    cut_says seat why from mid to none front (inl t) = refusal_says seat from.exchanges why
        (all_taken (Err why) from to none (takes_then (Err why) from mid to front t))
    cut_says seat why from mid to none front (inr spent) =
        let is : why ≡ refusal.Spent = cc in
        subst (λ (w : CallNo). ReplyTells (told_of_refusal seat w) from.exchanges) (sym is) tt

    drive_tells : (seat : ℕ) (above : List ℕ) (old new : Caller) (cache kept : CacheState)
        (dice after : D) (result : Result Report (Report × CallNo)) (es : List Exchange)
        → IsDriveBy left count replica above old cache dice result new kept after es
        → ReplyTells (told_of_drive seat result) es
    drive_tells seat above old new cache kept dice after (Ok report) es d =
        let from = before cache es in
        let e = d.ends in
        let front = walks_calm above d.steps old e.middle from e.mids dice e.between e.walks in
        let end = done_tells step.End e.mids (behind kept)
        (step_tells _ e.middle new e.mids (behind kept) e.between after (Ok step.End) e.ends) in
        all_taken (Ok step.End) from (behind kept) refl
        (takes_then (Ok step.End) from e.mids (behind kept) front
        (record { first = end.first; are = end.are; tells = end.tells }))
    drive_tells seat above old new cache kept dice after (Err cut) es (inl d) =
        let e = d.ends in
        cut_says seat cut.1 (before cache es) e.mids (behind kept) refl
        (walks_calm above d.steps old e.middle (before cache es) e.mids dice e.between e.walks)
        (step_tells _ e.middle new e.mids (behind kept) e.between after (Err cut.1) e.ends)
    drive_tells seat above old new cache kept dice after (Err cut) es (inr n) =
        let none : es ≡ [] = ap (λ (a : Ahead). a.exchanges) (sym n.links) in
        subst (λ (w : CallNo). ReplyTells (told_of_refusal seat w) es) (sym n.why_is)
        (calm_at es none)

module _ {L D : Type 0} (link : L → Link) (left : D → Option (List ℕ)) (count : D → ℕ)
    (files : List SettingsFile) (replica : ℕ) where
  -- ---- each line

  unasked : (asked : ScriptLine) (old new : Workplace L D) (reply : Told) (es : List Exchange)
      → (AsksPlugins asked → ⊥) → es ≡ [] → HasCauseAt link count asked old reply new
      → TellsPlugins reply es
  unasked asked old new (told.FaultPlugin name) es none is h = absurd (none h.0)
  unasked asked old new other es none is h = calm_at es is

  replied : (reply : Told) (other : Reply) (es : List Exchange) → Ok reply ≡ other
      → ReplyTells other es → TellsPlugins reply es
  replied reply other es is t = subst (λ (r : Reply). ReplyTells r es) (sym is) t

  line_tells : (asked : ScriptLine) (old new : Workplace L D) (reply : Told) (es : List Exchange)
      → Does link left count files replica asked old (Ok reply) new
      → DoesBy left count files replica asked old (Ok reply) new es → TellsPlugins reply es
  line_tells (line.Put resource path plain) old new reply es d b =
      unasked (line.Put resource path plain) old new reply es (λ x. x) b.0
      (line_caused link left count files replica (line.Put resource path plain) old new reply d)
  line_tells (line.Get path) old new reply es d b =
      replied reply (told_of_read old.caller.seat b.0) es b.1 (read_tells old.caller.seat replica
      path old.caller new.caller old.cache new.cache b.0 es b.2)
  line_tells (line.Delete path) old new reply es d b =
      unasked (line.Delete path) old new reply es (λ x. x) b.0
      (line_caused link left count files replica (line.Delete path) old new reply d)
  line_tells line.Rewrite old new reply es d b =
      replied reply (told_of_drive old.caller.seat b.0) es b.1
      (drive_tells left count replica old.caller.seat [] old.caller new.caller old.cache new.cache
      old.dice new.dice b.0 es b.2)
  line_tells (line.Reload named file) old new reply es d (rows, read, inl none) =
      replied reply (Ok told.Memory) es none.0.0 (calm_at es none.1)
  line_tells (line.Reload named file) old new reply es d (rows, read, inr b) =
      replied reply (told_of_reload old.caller.seat b.0) es b.1
      (reload_says old.caller.seat es b.0
      (reload_tells (λ made. PublishesBy left count rows old.dice made new.dice es) es
      (made_tells left count rows old.dice new.dice es) named old.caller new.caller b.0 b.2))
  line_tells line.Refresh old new reply es d b =
      replied reply (told_of_refresh old.caller.seat b.0) es b.1 (refresh_tells left count
      old.caller.seat replica old.caller new.caller old.dice new.dice b.0 es b.2)
  line_tells (line.Join named file) old new reply es d (rows, read, inl none) =
      replied reply (Ok told.Memory) es none.0.0 (calm_at es none.1)
  line_tells (line.Join named file) old new reply es d (rows, read, inr b) =
      replied reply (told_of_join old.caller.seat b.0) es b.1
      (join_says old.caller.seat es b.0
      (join_tells (λ made. PublishesBy left count rows old.dice made new.dice es) es
      (made_tells left count rows old.dice new.dice es) named old.caller new.caller b.0 b.2))
  line_tells (line.Leave named) old new reply es d b =
      unasked (line.Leave named) old new reply es (λ x. x) b.0
      (line_caused link left count files replica (line.Leave named) old new reply d)

pub lines_tell_faults : {L D : Type 0} (link : L → Link) (step : L → Exchange → L → Type 0)
    (left : D → Option (List ℕ)) (count : D → ℕ) (files : List SettingsFile)
    → LinesTellFaults link step left count files
lines_tell_faults link step left count files replica old new done one = (
  line_drawn link left count files replica done.line old new done.reply done.exchanges one.does
      one.asks,
  line_tells link left count files replica done.line old new done.reply done.exchanges one.does
      one.asks,
)
