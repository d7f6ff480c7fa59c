-- The count of a worker's random source rises at each line whose reply names it, by one, and at no
-- other.
use Rattle.std.specs.Prelude.{◌⊎◌, length}
use Rattle.std.proofs.Common.{◌≡◌, ℕ, Bool, true, false, List, [], ◌∷◌, Option, None, Some, Result, Ok, Err, inl, inr, refl, ap, sym, subst, ◌∙◌}
use Rattle.std.proofs.lemmas.Bool.{false≢true}
use Rattle.kr_base.specs.Faults.{counted, tells_fault}
use Rattle.kr_config.specs.Kept.{ConfigEntry}
use Rattle.kr_config.specs.declared.who.Who.{Who}
use Rattle.kr_kms.specs.Calls.{Link}
use Rattle.kr_kms.specs.Exchanges.{Exchange}
use Rattle.kr_kms.specs.declared.seeds.SeedRow.{SeedRow}
use Rattle.kr_provider.specs.Exchanges.{PublishesBy}
use Rattle.kr_provider.specs.Publication.{Publication, writer_at}
use Rattle.kr_provider.specs.Sealing.{Seals}
use Rattle.kr_provider.specs.declared.refusal.Opened.{Opened}
use Rattle.kr_provider.specs.declared.refusal.PublishNo.{PublishNo}
use Rattle.kr_provider.specs.declared.refusal.PublishNo.TheVariants as publishing
use Rattle.kr_provider.specs.declared.refusal.SealNo.{SealNo}
use Rattle.kr_provider.specs.declared.refusal.SealNo.TheVariants as sealing
use Rattle.kr_provider.specs.declared.refusal.UnsealNo.{UnsealNo}
use Rattle.kr_provider.specs.declared.refusal.UnsealNo.TheVariants as unsealing
use Rattle.kr_provider.specs.declared.refusal.ValueNo.TheVariants as value
use Rattle.kr_store.specs.declared.rows.Row.{Row}
use Rattle.kr_rollout.specs.declared.answer.Answer.{Answer}
use Rattle.kr_rollout.specs.declared.answer.Answer.TheVariants as answer
use Rattle.kr_rollout.specs.declared.event.Event.{Event}
use Rattle.kr_rollout.specs.declared.event.Event.TheVariants as event
use Rattle.kr_history.specs.Acting.{Caller}
use Rattle.kr_history.specs.Calls.{AdoptsNothing, EndsEarly, HoldsMeanwhile, LetsGo}
use Rattle.kr_history.specs.declared.call.CallNo.{CallNo}
use Rattle.kr_history.specs.declared.call.CallNo.TheVariants as refusal
use Rattle.kr_history.specs.declared.outcome.Joining.{Joining}
use Rattle.kr_history.specs.declared.outcome.Joining.TheVariants as joining
use Rattle.kr_fleet.specs.CallExchanges.{ComparesKeysBy, IsRefreshBy, RefreshesBy, all_same, changed, told_none, went_on}
use Rattle.kr_fleet.specs.CallForms.{CutShortWhere, JoinsWhere, NotJoinedWhere, ReloadsWhere, publish_refusal, reload_of}
use Rattle.kr_fleet.specs.WriteCalls.{IsWrite, Puts}
use Rattle.kr_fleet.specs.declared.outcome.Loaded.{Loaded}
use Rattle.kr_fleet.specs.declared.outcome.Loaded.TheVariants as loaded
use Rattle.kr_rewrite.specs.Drives.{IsDriveOver, StayLinks, WalksOver}
use Rattle.kr_rewrite.specs.Rewrites.{FindsNone, IsStepOver, ReadsFoundRow, ReplacesBy, ResealsBy, RewritesBy, RewritesData, RewritesOver, StepsOver, UnsealsRow, unread_step, unsealed_step}
use Rattle.kr_rewrite.specs.declared.outcome.Report.{Report}
use Rattle.kr_rewrite.specs.declared.outcome.Step.{Step}
use Rattle.kr_rewrite.specs.declared.outcome.Step.TheVariants as step
use Rattle.kr_script.specs.declared.script.ScriptLine.{ScriptLine}
use Rattle.kr_script.specs.declared.script.ScriptLine.TheVariants as line
use Rattle.kr_script.specs.declared.told.Told.{Told}
use Rattle.kr_script.specs.declared.told.Told.TheVariants as told
use Rattle.kr_workers.specs.declared.files.SettingsFile.{SettingsFile}
use Rattle.kr_workers.specs.Causes.{DrawsBytes, counted_by, names_dice}
use Rattle.kr_workers.specs.LineExchanges.{DoesBy}
use Rattle.kr_workers.specs.Replies.{Reply, told_of_drive, told_of_join, told_of_refresh, told_of_refusal, told_of_reload, told_of_write}
use Rattle.kr_workers.specs.Runs.{DoesAll, LineDone, replies_in}
use Rattle.kr_workers.specs.ScriptLines.{Does, Workplace}
use Rattle.kr_workers.proofs.Causing.{HasCauseAt}
use Rattle.kr_workers.proofs.CausingRewrites.{line_caused}
use Rattle.kr_workers.proofs.ToldOnce.{key_id_undrawn, publishing_tells, tells_dice}

-- ---- what names the random source

abbrev is_dice : CallNo → Bool
is_dice refusal.DiceFailed = true
is_dice why = false

abbrev seal_dice : SealNo → Bool
seal_dice sealing.DiceFailed = true
seal_dice why = false

abbrev names : Reply → Bool
names (Ok reply) = names_dice reply
names (Err spent) = false

abbrev is_reply : Reply → Bool
is_reply (Ok reply) = true
is_reply (Err spent) = false

-- a call's answer that says so is told so
module _ (seat : ℕ) where
  refusal_names : (why : CallNo) → names (told_of_refusal seat why) ≡ is_dice why
  refusal_names (refusal.Value why) = refl
  refusal_names (refusal.PluginFailed name) = refl
  refusal_names refusal.DiceFailed = refl
  refusal_names refusal.StoreFailed = refl
  refusal_names (refusal.StoreFull needed) = refl
  refusal_names (refusal.Unhealthy name field text) = refl
  refusal_names refusal.Gone = refl
  refusal_names refusal.Spent = refl
  refusal_names refusal.NoMemory = refl

  write_names : (result : Result ℕ CallNo)
      → names (told_of_write seat result) ≡ tells_fault is_dice result
  write_names (Ok revision) = refl
  write_names (Err why) = refusal_names why

  reload_names : (result : Result Loaded CallNo)
      → names (told_of_reload seat result) ≡ tells_fault is_dice result
  reload_names (Ok (loaded.Generation generation)) = refl
  reload_names (Ok (loaded.Refused verdict)) = refl
  reload_names (Ok (loaded.Moved generation)) = refl
  reload_names (Ok (loaded.Unchanged generation)) = refl
  reload_names (Err why) = refusal_names why

  refresh_names : (result : Result Loaded CallNo)
      → names (told_of_refresh seat result) ≡ tells_fault is_dice result
  refresh_names (Ok (loaded.Generation generation)) = refl
  refresh_names (Ok (loaded.Refused verdict)) = refl
  refresh_names (Ok (loaded.Moved generation)) = refl
  refresh_names (Ok (loaded.Unchanged generation)) = refl
  refresh_names (Err why) = refusal_names why

  join_names : (result : Result Joining CallNo)
      → names (told_of_join seat result) ≡ tells_fault is_dice result
  join_names (Ok (joining.Generation generation)) = refl
  join_names (Ok (joining.Refused verdict)) = refl
  join_names (Ok (joining.Present generation)) = refl
  join_names (Err why) = refusal_names why

-- ---- calls in which nothing is drawn

adopts_calm : (replica : ℕ) (old new : Caller) (why : CallNo) → AdoptsNothing replica old why new
    → is_dice why ≡ false
adopts_calm replica old new refusal.DiceFailed a = absurd a
adopts_calm replica old new other a = refl

refusal_calm : (why : PublishNo) → tells_dice why ≡ false → is_dice (publish_refusal why) ≡ false
refusal_calm (publishing.PluginFailed name) e = refl
refusal_calm publishing.DiceFailed e = e
refusal_calm (publishing.Unhealthy name field text) e = refl
refusal_calm publishing.NoMemory e = refl

compares_calm : (seeds : List SeedRow) (result : Result Bool CallNo) (es : List Exchange)
    → ComparesKeysBy seeds result es → tells_fault is_dice result ≡ false
compares_calm _ _ _ all_same = refl
compares_calm _ _ _ (changed row rest key_id tells other) = refl
compares_calm _ _ _ (told_none {exchanges = es} row rest cause why tells is) =
    ap is_dice is ∙ refusal_calm cause (key_id_undrawn row.name cause es tells)
compares_calm _ _ _ (went_on {others = fs} {result = result} row rest tells more) =
    compares_calm rest result fs more

replaces_calm : (path : List ℕ) (given : Answer) (result : Result Step CallNo)
    → ReplacesBy path given result → tells_fault is_dice result ≡ false
replaces_calm path (answer.Written revision) result r = ap (tells_fault is_dice) r
replaces_calm path (answer.Changed revision) result r = ap (tells_fault is_dice) r
replaces_calm path answer.StoreFailed result r = ap (tells_fault is_dice) r
replaces_calm path (answer.StoreFull needed) result r = ap (tells_fault is_dice) r
replaces_calm path answer.NoMemory result r = ap (tells_fault is_dice) r
replaces_calm path other result r = absurd r

unread_calm : (path : List ℕ) (why : UnsealNo)
    → tells_fault is_dice (unread_step path why) ≡ false
unread_calm path (unsealing.Refused why) = refl
unread_calm path (unsealing.PluginFailed name) = refl
unread_calm path unsealing.NoMemory = refl

unsealed_names : (path : List ℕ) (why : SealNo)
    → tells_fault is_dice (unsealed_step path why) ≡ seal_dice why
unsealed_names path sealing.LooksEncrypted = refl
unsealed_names path (sealing.TooLarge size) = refl
unsealed_names path sealing.DiceFailed = refl
unsealed_names path sealing.NoMemory = refl

finds_calm : (above : List ℕ) (old new : Caller) (result : Result Step CallNo)
    → FindsNone above old result new → tells_fault is_dice result ≡ false
finds_calm above old new (Ok step.End) f = refl
finds_calm above old new (Err refusal.NoMemory) f = refl
finds_calm above old new (Err refusal.Spent) f = refl
finds_calm above old new other f = absurd f

module _ {D : Type 0} (left : D → Option (List ℕ)) (count : D → ℕ) where
  -- ---- the answer of a call

  -- the count rose by one where the answer is that a draw failed, and else not at all
  abbrev Just : {T : Type 0} → Result T CallNo → D → D → Type 0
  Just result dice after = count after ≡ counted (tells_fault is_dice result) (count dice)

  -- or the seat may add no more lines
  abbrev Once : {T : Type 0} → Result T CallNo → D → D → Type 0
  Once result dice after = Just result dice after ⊎ (result ≡ Err refusal.Spent)

  -- so it is told
  abbrev IsTold : Reply → D → D → Type 0
  IsTold reply dice after = (count after ≡ counted (names reply) (count dice))
      ⊎ (reply ≡ Err (record {}))

  by_names : (first second : Bool) (dice after : D) → first ≡ second
      → count after ≡ counted first (count dice) → count after ≡ counted second (count dice)
  by_names first second dice after same j = j ∙ ap (λ b. counted b (count dice)) same

  undrawn : {T : Type 0} (result : Result T CallNo) (dice after : D)
      → tells_fault is_dice result ≡ false → after ≡ dice → Just result dice after
  undrawn result dice after calm same =
      by_names false (tells_fault is_dice result) dice after (sym calm) (ap count same)

  once_told : {T : Type 0} (told_of : Result T CallNo → Reply)
      → ((result : Result T CallNo) → names (told_of result) ≡ tells_fault is_dice result)
      → told_of (Err refusal.Spent) ≡ Err (record {}) → (result : Result T CallNo) (dice after : D)
      → Once result dice after → IsTold (told_of result) dice after
  once_told told_of same ends result dice after (inl j) = inl (by_names
      (tells_fault is_dice result) (names (told_of result)) dice after (sym (same result)) j)
  once_told told_of same ends result dice after (inr spent) = inr (ap told_of spent ∙ ends)

  reply_told : (reply : Told) (other : Reply) (dice after : D) → Ok reply ≡ other
      → IsTold other dice after → count after ≡ counted (names_dice reply) (count dice)
  reply_told reply other dice after is (inl j) =
      by_names (names other) (names_dice reply) dice after (sym (ap names is)) j
  reply_told reply other dice after is (inr none) =
      absurd (false≢true (sym (ap is_reply (is ∙ none))))

  early : {T : Type 0} (Unchanged : Type 0) (replica : ℕ) (old new : Caller)
      (result : Result T CallNo) (dice after : D) → (Unchanged → after ≡ dice)
      → EndsEarly replica Unchanged old result new → Just result dice after
  early Unchanged replica old new (Ok done) dice after by e = absurd e
  early {T} Unchanged replica old new (Err why) dice after by e = undrawn {T = T} (Err why) dice
      after (adopts_calm replica old new why e.0) (by e.1)

  held : {T : Type 0}
      (DoesSo : (number : ℕ) → Publication → Caller → Result T CallNo → Caller → Type 0)
      (replica : ℕ) (old new : Caller) (result : Result T CallNo) (dice after : D)
      → ((number : ℕ) (p : Publication) (from to : Caller) (done : Result T CallNo)
      → DoesSo number p from done to → Just done dice after)
      → HoldsMeanwhile DoesSo replica old result new → Once result dice after
  held {T} DoesSo replica old new result dice after by h = go h.lets_go
    where
      go : LetsGo h.acted h.done result new → Once result dice after
      go (inl g) = inl (subst (λ (r : Result T CallNo). Just r dice after) (sym g.1)
          (by h.number h.p h.adopted h.acted h.done h.does))
      go (inr n) = inr n.1

  -- ---- sealing

  sealed_just : (seeds : List SeedRow) (who : Who) (path plain : List ℕ) (dice after : D)
      (sealed : Result (List ℕ) SealNo) → Seals left count seeds who path plain dice after sealed
      → count after ≡ counted (tells_fault seal_dice sealed) (count dice)
  sealed_just seeds who path plain dice after (Ok stored) s = s.5
  sealed_just seeds who path plain dice after (Err (sealing.TooLarge size)) s = ap count s.2
  sealed_just seeds who path plain dice after (Err sealing.LooksEncrypted) s = ap count s.3
  sealed_just seeds who path plain dice after (Err sealing.DiceFailed) s = s.4
  sealed_just seeds who path plain dice after (Err sealing.NoMemory) s = ap count s

  module _ (resource path plain : List ℕ) (dice after : D) where
    puts_just : (p : Publication) (from to : Caller) (done : Result ℕ CallNo)
        → Puts left count resource path plain p from dice done to after → Just done dice after
    puts_just p from to (Ok revision) d = sealed_just p.seeds (writer_at p resource) path plain dice
        after (Ok d.stored) d.seals
    puts_just p from to (Err (refusal.Value value.LooksEncrypted)) d = sealed_just p.seeds
        (writer_at p resource) path plain dice after (Err sealing.LooksEncrypted) d.0
    puts_just p from to (Err (refusal.Value value.TooLarge)) d = sealed_just p.seeds
        (writer_at p resource) path plain dice after (Err (sealing.TooLarge (length plain))) d.0
    puts_just p from to (Err refusal.DiceFailed) d = sealed_just p.seeds (writer_at p resource) path
        plain dice after (Err sealing.DiceFailed) d.0
    puts_just p from to (Err refusal.StoreFailed) d = sealed_just p.seeds (writer_at p resource)
        path plain dice after (Ok d.stored) d.seals
    puts_just p from to (Err (refusal.StoreFull needed)) d = sealed_just p.seeds
        (writer_at p resource) path plain dice after (Ok d.stored) d.seals
    puts_just p from to (Err refusal.Spent) d = sealed_just p.seeds (writer_at p resource) path
        plain dice after (Ok d.stored) d.seals
    puts_just p from to (Err refusal.NoMemory) (inl d) = sealed_just p.seeds (writer_at p resource)
        path plain dice after (Err sealing.NoMemory) d.0
    puts_just p from to (Err refusal.NoMemory) (inr d) = sealed_just p.seeds (writer_at p resource)
        path plain dice after (Ok d.stored) d.seals
    puts_just p from to (Err other) d = absurd d

    write_once : (replica : ℕ) (old new : Caller) (result : Result ℕ CallNo)
        → IsWrite left count resource path plain replica old dice result new after
        → Once result dice after
    write_once replica old new result (inl e) =
        inl (early (after ≡ dice) replica old new result dice after (λ same. same) e)
    write_once replica old new result (inr h) = held
        (λ number p from done to. Puts left count resource path plain p from dice done to after)
        replica old new result dice after
        (λ number p from to done d. puts_just p from to done d) h

  -- ---- publishing

  module _ (Publishes : Result Publication PublishNo → Type 0) (dice after : D)
      (just : (made : Result Publication PublishNo) → Publishes made
      → count after ≡ counted (tells_fault tells_dice made) (count dice)) where
    cut_just : (T : Type 0) (brings : Publication → Event) (replica : ℕ) (old new : Caller)
        (why : CallNo) → CutShortWhere Publishes brings replica old why new
        → Just {T = T} (Err why) dice after
    cut_just T brings replica old new (refusal.PluginFailed name) b =
        just (Err (publishing.PluginFailed name)) b.0
    cut_just T brings replica old new refusal.DiceFailed b = just (Err publishing.DiceFailed) b.0
    cut_just T brings replica old new (refusal.Unhealthy name field text) b =
        just (Err (publishing.Unhealthy name field text)) b.0
    cut_just T brings replica old new refusal.NoMemory (inl b) =
        just (Err publishing.NoMemory) b.0
    cut_just T brings replica old new refusal.NoMemory (inr (inl b)) = just (Ok b.0.0) b.0.1
    cut_just T brings replica old new refusal.NoMemory (inr (inr b)) = just (Ok b.p) b.publishes
    cut_just T brings replica old new refusal.Gone b = just (Ok b.p) b.publishes
    cut_just T brings replica old new refusal.Spent b = just (Ok b.0.0) b.0.1
    cut_just T brings replica old new other b = absurd b

    reload_just : (replica : ℕ) (old new : Caller) (result : Result Loaded CallNo)
        → ReloadsWhere Publishes replica old result new → Just result dice after
    reload_just replica old new (Ok (loaded.Generation number)) b = just (Ok b.p) b.publishes
    reload_just replica old new (Ok (loaded.Refused verdict)) b = just (Ok b.p) b.publishes
    reload_just replica old new (Ok other) b = absurd b
    reload_just replica old new (Err why) b =
        cut_just Loaded (reload_of replica None) replica old new why b

    not_joined_just : (replica : ℕ) (old new : Caller) (why : CallNo)
        → NotJoinedWhere Publishes replica old why new → Just {T = Joining} (Err why) dice after
    not_joined_just replica old new refusal.Gone b = absurd b
    not_joined_just replica old new other b =
        cut_just Joining (event.Join replica) replica old new other b

    join_just : (replica : ℕ) (old new : Caller) (result : Result Joining CallNo)
        → JoinsWhere Publishes replica old result new → Just result dice after
    join_just replica old new (Ok (joining.Generation number)) b = just (Ok b.p) b.publishes
    join_just replica old new (Ok (joining.Refused verdict)) b = just (Ok b.p) b.publishes
    join_just replica old new (Ok (joining.Present number)) b = just (Ok b.p) b.publishes
    join_just replica old new (Err why) b = not_joined_just replica old new why b

  published_just : (rows : List ConfigEntry) (dice after : D) (es : List Exchange)
      (made : Result Publication PublishNo) → PublishesBy left count rows dice made after es
      → count after ≡ counted (tells_fault tells_dice made) (count dice)
  published_just rows dice after es made m =
      (publishing_tells left count rows dice made after es m).0

  refreshes_just : (replica number : ℕ) (p : Publication) (old new : Caller) (dice after : D)
      (result : Result Loaded CallNo) (es : List Exchange)
      → RefreshesBy left count replica number p old dice result new after es
      → Just result dice after
  refreshes_just replica number p old new dice after (Ok (loaded.Unchanged same)) es r =
      ap count r.3
  refreshes_just replica number p old new dice after (Ok (loaded.Generation made)) es r =
      published_just p.rows dice after r.others (Ok r.brings.p) r.brings.publishes
  refreshes_just replica number p old new dice after (Ok (loaded.Moved current)) es r =
      published_just p.rows dice after r.others (Ok r.brings.p) r.brings.publishes
  refreshes_just replica number p old new dice after (Ok (loaded.Refused verdict)) es r = absurd r
  refreshes_just replica number p old new dice after (Err why) es (inl r) = undrawn {T = Loaded}
      (Err why) dice after (compares_calm p.seeds (Err why) es r.0) r.2
  refreshes_just replica number p old new dice after (Err why) es (inr (inl r)) =
      undrawn {T = Loaded} (Err why) dice after (ap is_dice r.1) r.3
  refreshes_just replica number p old new dice after (Err why) es (inr (inr r)) =
      cut_just (λ made. PublishesBy left count p.rows dice made after r.others) dice after
      (published_just p.rows dice after r.others) Loaded (reload_of replica (Some number)) replica
      old new why r.brings

  refresh_once : (replica : ℕ) (old new : Caller) (dice after : D) (result : Result Loaded CallNo)
      (es : List Exchange) → IsRefreshBy left count replica old dice result new after es
      → Once result dice after
  refresh_once replica old new dice after result es (inl e) = inl (early
      ((after ≡ dice) × (es ≡ [])) replica old new result dice after (λ same. same.0) e)
  refresh_once replica old new dice after result es (inr h) = held
      (λ number p from done to. RefreshesBy left count replica number p from dice done to after es)
      replica old new result dice after (λ number p from to done r.
      refreshes_just replica number p from to dice after done es r) h

  -- ---- rewriting

  reseals_just : (p : Publication) (row : Row) (plain : List ℕ) (old new : Caller)
      (dice after : D) (sealed : Result (List ℕ) SealNo) (result : Result Step CallNo)
      → count after ≡ counted (tells_fault seal_dice sealed) (count dice)
      → ResealsBy p row plain sealed old result new → Just result dice after
  reseals_just p row plain old new dice after (Ok stored) result s (inl o) = by_names false
      (tells_fault is_dice result) dice after
      (sym (replaces_calm row.path o.given result o.answers)) s
  reseals_just p row plain old new dice after (Ok stored) result s (inr n) =
      by_names false (tells_fault is_dice result) dice after (sym (ap (tells_fault is_dice) n.1)) s
  reseals_just p row plain old new dice after (Err why) result s r = by_names (seal_dice why)
      (tells_fault is_dice result) dice after
      (sym (ap (tells_fault is_dice) r.0 ∙ unsealed_names row.path why)) s

  data_just : (p : Publication) (row : Row) (plain : List ℕ) (stale : Bool) (old new : Caller)
      (dice after : D) (result : Result Step CallNo)
      → RewritesData left count p row plain stale old dice result new after
      → Just result dice after
  data_just p row plain false old new dice after result r =
      undrawn result dice after (ap (tells_fault is_dice) r.0) r.2
  data_just p row plain true old new dice after result (inl r) = reseals_just p row plain old new
      dice after r.sealed result (sealed_just p.seeds (writer_at p row.resource) row.path plain dice
      after r.sealed r.seals) r.reseals
  data_just p row plain true old new dice after result (inr c) =
      undrawn result dice after (ap (tells_fault is_dice) c.0) c.2

  opened_just : (p : Publication) (row : Row) (opened : Result Opened UnsealNo)
      (old new : Caller) (dice after : D) (result : Result Step CallNo)
      → RewritesBy left count p row opened old dice result new after → Just result dice after
  opened_just p row (Ok opened) old new dice after result r =
      data_just p row opened.plain opened.stale old new dice after result r
  opened_just p row (Err why) old new dice after result r =
      undrawn result dice after (ap (tells_fault is_dice) r.0 ∙ unread_calm row.path why) r.2

  module _ {S : Type 0} (Reads : ReadsFoundRow S) (replica : ℕ) where
    row_just : (p : Publication) (row : Row) (old new : Caller) (from to : S) (dice after : D)
        (result : Result Step CallNo)
        → RewritesOver Reads left count p row old from dice result new to after
        → Just result dice after
    row_just p row old new from to dice after result (inl o) =
        opened_just p row o.opened old new dice after result o.rewrites
    row_just p row old new from to dice after result (inr c) =
        undrawn result dice after (ap (tells_fault is_dice) c.0.0) c.0.2

    steps_just : (p : Publication) (above : List ℕ) (old new : Caller) (from to : S)
        (dice after : D) (result : Result Step CallNo)
        → StepsOver Reads left count p above old from dice result new to after
        → Just result dice after
    steps_just p above old new from to dice after result (inl none) =
        undrawn result dice after (finds_calm above old new result none.0) none.2
    steps_just p above old new from to dice after result (inr f) =
        row_just p f.row f.found new from to dice after result f.rewrites

    step_once : (above : List ℕ) (old new : Caller) (from to : S) (dice after : D)
        (result : Result Step CallNo)
        → IsStepOver Reads left count replica above old from dice result new to after
        → Once result dice after
    step_once above old new from to dice after result (inl e) = inl (early
        ((to ≡ from) × (after ≡ dice)) replica old new result dice after (λ same. same.1) e)
    step_once above old new from to dice after result (inr h) = held
        (λ number p start done end. StepsOver Reads left count p above start from dice done end to
        after) replica old new result dice after (λ number p start end done s.
        steps_just p above start end from to dice after done s) h

    -- a step that was done
    done_just : (taken : Step) (dice after : D) → Once (Ok taken) dice after
        → count after ≡ count dice
    done_just taken dice after (inl j) = j
    done_just taken dice after (inr spent) = absurd (cc)

    walks_just : (above : List ℕ) (steps : List Step) (old new : Caller) (from to : S)
        (dice after : D)
        → WalksOver Reads left count replica above steps old from dice new to after
        → count after ≡ count dice
    walks_just above [] old new from to dice after w = ap count w.2
    walks_just above (taken ∷ steps) old new from to dice after w =
        walks_just _ steps w.middle new w.mids to w.between after w.behind
        ∙ done_just taken dice w.between
        (step_once above old w.middle from w.mids dice w.between (Ok taken) w.goes)

    -- one that ended a drive
    ends_told : (seat : ℕ) (why : CallNo) (dice between after : D) → count between ≡ count dice
        → Once {T = Step} (Err why) between after → IsTold (told_of_refusal seat why) dice after
    ends_told seat why dice between after walked (inl j) = inl (by_names (is_dice why)
        (names (told_of_refusal seat why)) dice after (sym (refusal_names seat why))
        (j ∙ ap (counted (is_dice why)) walked))
    ends_told seat why dice between after walked (inr spent) =
        let is : why ≡ refusal.Spent = cc in inr (ap (told_of_refusal seat) is)

    drive_told : (Meanwhile : S → S → Type 0) (seat : ℕ) (above : List ℕ) (old new : Caller)
        (from to : S) (dice after : D) (result : Result Report (Report × CallNo))
        → IsDriveOver Reads Meanwhile left count replica above old from dice result new to after
        → IsTold (told_of_drive seat result) dice after
    drive_told Meanwhile seat above old new from to dice after (Ok report) d =
        let e = d.ends in
        inl (done_just step.End e.between after
        (step_once _ e.middle new e.mids to e.between after (Ok step.End) e.ends)
        ∙ walks_just above d.steps old e.middle from e.mids dice e.between e.walks)
    drive_told Meanwhile seat above old new from to dice after (Err cut) (inl d) =
        let e = d.ends in
        ends_told seat cut.1 dice e.between after
        (walks_just above d.steps old e.middle from e.mids dice e.between e.walks)
        (step_once _ e.middle new e.mids to e.between after (Err cut.1) e.ends)
    drive_told Meanwhile seat above old new from to dice after (Err cut) (inr n) =
        ends_told seat cut.1 dice dice after refl
        (inl (undrawn {T = Step} (Err cut.1) dice after (ap is_dice n.why_is) n.dice_is))

module _ {L D : Type 0} (link : L → Link) (left : D → Option (List ℕ)) (count : D → ℕ)
    (files : List SettingsFile) (replica : ℕ) where
  -- ---- each line

  unused : (asked : ScriptLine) (old new : Workplace L D) (reply : Told) → (DrawsBytes asked → ⊥)
      → new.dice ≡ old.dice → HasCauseAt link count asked old reply new
      → count new.dice ≡ counted (names_dice reply) (count old.dice)
  unused asked old new (told.FaultDice seat) none same h = absurd (none h.0)
  unused asked old new other none same h = ap count same

  pub line_drawn : (asked : ScriptLine) (old new : Workplace L D) (reply : Told)
      (es : List Exchange) → Does link left count files replica asked old (Ok reply) new
      → DoesBy left count files replica asked old (Ok reply) new es
      → count new.dice ≡ counted (names_dice reply) (count old.dice)
  line_drawn (line.Put resource path plain) old new reply es d b =
      reply_told left count reply (told_of_write old.caller.seat d.0) old.dice new.dice d.1
      (once_told left count (told_of_write old.caller.seat) (write_names old.caller.seat) refl d.0
      old.dice new.dice (write_once left count resource path plain old.dice new.dice replica
      old.caller new.caller d.0 d.2))
  line_drawn (line.Get path) old new reply es d b = unused (line.Get path) old new reply
      (λ x. x) d.3 (line_caused link left count files replica (line.Get path) old new reply d)
  line_drawn (line.Delete path) old new reply es d b = unused (line.Delete path) old new reply
      (λ x. x) d.3.1 (line_caused link left count files replica (line.Delete path) old new reply d)
  line_drawn line.Rewrite old new reply es d b = reply_told left count reply
      (told_of_drive old.caller.seat d.0) old.dice new.dice d.1
      (drive_told left count (UnsealsRow link) replica (StayLinks link) old.caller.seat []
      old.caller new.caller old.links new.links old.dice new.dice d.0 d.2)
  line_drawn (line.Reload named file) old new reply es d (rows, read, inl none) =
      reply_told left count reply (Ok told.Memory) old.dice new.dice none.0.0
      (inl (ap (λ (w : Workplace L D). count w.dice) none.0.1))
  line_drawn (line.Reload named file) old new reply es d (rows, read, inr b) =
      reply_told left count reply (told_of_reload old.caller.seat b.0) old.dice new.dice b.1
      (once_told left count (told_of_reload old.caller.seat) (reload_names old.caller.seat) refl b.0
      old.dice new.dice (inl (reload_just left count
      (λ made. PublishesBy left count rows old.dice made new.dice es) old.dice new.dice
      (published_just left count rows old.dice new.dice es) named old.caller new.caller b.0 b.2)))
  line_drawn line.Refresh old new reply es d b = reply_told left count reply
      (told_of_refresh old.caller.seat b.0) old.dice new.dice b.1
      (once_told left count (told_of_refresh old.caller.seat) (refresh_names old.caller.seat) refl
      b.0 old.dice new.dice
      (refresh_once left count replica old.caller new.caller old.dice new.dice b.0 es b.2))
  line_drawn (line.Join named file) old new reply es d (rows, read, inl none) =
      reply_told left count reply (Ok told.Memory) old.dice new.dice none.0.0
      (inl (ap (λ (w : Workplace L D). count w.dice) none.0.1))
  line_drawn (line.Join named file) old new reply es d (rows, read, inr b) =
      reply_told left count reply (told_of_join old.caller.seat b.0) old.dice new.dice b.1
      (once_told left count (told_of_join old.caller.seat) (join_names old.caller.seat) refl b.0
      old.dice new.dice (inl (join_just left count
      (λ made. PublishesBy left count rows old.dice made new.dice es) old.dice new.dice
      (published_just left count rows old.dice new.dice es) named old.caller new.caller b.0 b.2)))
  line_drawn (line.Leave named) old new reply es d b = unused (line.Leave named) old new reply
      (λ x. x) d.3.1 (line_caused link left count files replica (line.Leave named) old new reply d)

  -- ---- all lines of a run

  pub all_drawn : (step : L → Exchange → L → Type 0) (first : Workplace L D) (run : List LineDone)
      (last : Workplace L D) → DoesAll link step left count files replica first run last
      → count last.dice ≡ counted_by names_dice (replies_in run) (count first.dice)
  all_drawn step first [] last same = ap (λ (w : Workplace L D). count w.dice) same
  all_drawn step first (done ∷ run) last (next, one, rest) =
      all_drawn step next run last rest ∙ ap (counted_by names_dice (replies_in run))
      (line_drawn done.line first next done.reply done.exchanges one.does one.asks)
