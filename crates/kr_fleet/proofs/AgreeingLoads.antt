-- By what agrees with its exchanges, a load keeps honest what its caller sees.
use Rattle.std.proofs.Common.{◌≡◌, inl, inr, ℕ, List, [], Option, None, Some, Result, Ok, Err, subst}
use Rattle.kr_config.specs.Kept.{ConfigEntry, plugins_in}
use Rattle.kr_kms.specs.Exchanges.{AgreeAll, Exchange}
use Rattle.kr_kms.specs.Opens.{Opens}
use Rattle.kr_kms.proofs.Opening.{agree_parts}
use Rattle.kr_provider.specs.Exchanges.{PublishesBy}
use Rattle.kr_provider.specs.Publication.{Publication}
use Rattle.kr_provider.specs.declared.refusal.PublishNo.{PublishNo}
use Rattle.kr_provider.proofs.AgreeTalks.{seeds_open}
use Rattle.kr_rollout.specs.declared.answer.Answer.{Answer}
use Rattle.kr_rollout.specs.declared.answer.Answer.TheVariants as answer
use Rattle.kr_rollout.specs.declared.event.Event.{Event}
use Rattle.kr_rollout.specs.declared.event.Event.TheVariants as event
use Rattle.kr_history.specs.Acting.{Caller, AddsEntry}
use Rattle.kr_history.specs.Calls.{AdoptsNothing, KeepsHonestBy, LetsGo}
use Rattle.kr_history.specs.Honesty.{SeedsOpen}
use Rattle.kr_history.specs.declared.call.CallNo.{CallNo}
use Rattle.kr_history.specs.declared.call.CallNo.TheVariants as refusal
use Rattle.kr_history.proofs.KeptByEvents.{keeps_adopt, keeps_join, keeps_let_go, keeps_reload, keeps_same}
use Rattle.kr_history.proofs.NothingAdopted.{nothing_adopted}
use Rattle.kr_fleet.specs.CallExchanges.{IsJoinBy, IsRefreshBy, IsReloadBy, RefreshesBy, RenewsAfter}
use Rattle.kr_fleet.specs.CallForms.{BringsWhere, CutShortWhere, JoinsWhere, ReloadsWhere, reload_of}
use Rattle.kr_history.specs.declared.outcome.Joining.{Joining}
use Rattle.kr_history.specs.declared.outcome.Joining.TheVariants as joining
use Rattle.kr_fleet.specs.declared.outcome.Loaded.{Loaded}
use Rattle.kr_fleet.specs.declared.outcome.Loaded.TheVariants as loaded

-- ---- what is brought

module _ (opens : Opens) (Publishes : Result Publication PublishNo → Type 0)
    (open_all : (p : Publication) → Publishes (Ok p) → SeedsOpen opens p) (old new : Caller) where
  -- an event that brings them keeps honest what was seen
  abbrev Keeping : (Publication → Event) → Type 0
  Keeping brings = (p : Publication) (given : Answer) → SeedsOpen opens p
      → AddsEntry old (brings p) given new → KeepsHonestBy opens old new

  brought_keeps : (brings : Publication → Event) (given : Answer) → Keeping brings
      → BringsWhere Publishes brings old given new → KeepsHonestBy opens old new
  brought_keeps brings given keeps b = keeps b.p given (open_all b.p b.publishes) b.brought

  same_keeps : new ≡ old → KeepsHonestBy opens old new
  same_keeps same = keeps_same old new same opens

  cut_keeps : (brings : Publication → Event) (replica : ℕ) (why : CallNo) → Keeping brings
      → CutShortWhere Publishes brings replica old why new → KeepsHonestBy opens old new
  cut_keeps brings replica (refusal.PluginFailed name) keeps c = same_keeps c.1
  cut_keeps brings replica refusal.DiceFailed keeps c = same_keeps c.1
  cut_keeps brings replica (refusal.Unhealthy name field text) keeps c = same_keeps c.1
  cut_keeps brings replica refusal.Gone keeps c =
      brought_keeps brings (answer.Gone replica) keeps c
  cut_keeps brings replica refusal.Spent keeps c = same_keeps c.1.same
  cut_keeps brings replica refusal.NoMemory keeps (inl c) = same_keeps c.1
  cut_keeps brings replica refusal.NoMemory keeps (inr (inl c)) = same_keeps c.1
  cut_keeps brings replica refusal.NoMemory keeps (inr (inr c)) =
      brought_keeps brings answer.NoMemory keeps c
  cut_keeps brings replica other keeps c = absurd c

  reload_keeping : (replica : ℕ) (expect : Option ℕ) → Keeping (reload_of replica expect)
  reload_keeping replica expect p given s a = keeps_reload opens old new replica p expect given s a

  join_keeping : (replica : ℕ) → Keeping (event.Join replica)
  join_keeping replica p given s a = keeps_join opens old new replica p given s a

  reload_keeps : (replica : ℕ) (result : Result Loaded CallNo)
      → ReloadsWhere Publishes replica old result new → KeepsHonestBy opens old new
  reload_keeps replica (Ok (loaded.Generation number)) w = brought_keeps (reload_of replica None)
      (answer.Reloaded number) (reload_keeping replica None) w
  reload_keeps replica (Ok (loaded.Refused verdict)) w = brought_keeps (reload_of replica None)
      (answer.Refused verdict) (reload_keeping replica None) w
  reload_keeps replica (Err why) w =
      cut_keeps (reload_of replica None) replica why (reload_keeping replica None) w
  reload_keeps replica (Ok other) w = absurd w

  join_keeps : (replica : ℕ) (result : Result Joining CallNo)
      → JoinsWhere Publishes replica old result new → KeepsHonestBy opens old new
  join_keeps replica (Ok (joining.Generation number)) w = brought_keeps (event.Join replica)
      (answer.Joined number) (join_keeping replica) w
  join_keeps replica (Ok (joining.Refused verdict)) w = brought_keeps (event.Join replica)
      (answer.Refused verdict) (join_keeping replica) w
  join_keeps replica (Ok (joining.Present number)) w = brought_keeps (event.Join replica)
      (answer.Present number) (join_keeping replica) w
  join_keeps replica (Err (refusal.PluginFailed name)) w = same_keeps w.1
  join_keeps replica (Err refusal.DiceFailed) w = same_keeps w.1
  join_keeps replica (Err (refusal.Unhealthy name field text)) w = same_keeps w.1
  join_keeps replica (Err refusal.Spent) w = same_keeps w.1.same
  join_keeps replica (Err refusal.NoMemory) w =
      cut_keeps (event.Join replica) replica refusal.NoMemory (join_keeping replica) w
  join_keeps replica (Err other) w = absurd w

-- ---- by exchanges

module _ (opens : Opens) {D : Type 0} (left : D → Option (List ℕ)) (count : D → ℕ) where
  published_open : (rows : List ConfigEntry) (dice after : D) (es : List Exchange) → AgreeAll opens es
      → (p : Publication) → PublishesBy left count rows dice (Ok p) after es → SeedsOpen opens p
  published_open rows dice after es agree p w =
      seeds_open opens left count (plugins_in rows) [] dice (Ok p.seeds) after es w.1 agree

  pub reloads_agree : (rows : List ConfigEntry) (replica : ℕ) (old : Caller) (dice : D)
      (result : Result Loaded CallNo) (new : Caller) (after : D) (es : List Exchange)
      → IsReloadBy left count rows replica old dice result new after es → AgreeAll opens es
      → KeepsHonestBy opens old new
  reloads_agree rows replica old dice result new after es is agree =
      reload_keeps opens (λ made. PublishesBy left count rows dice made after es)
      (published_open rows dice after es agree) old new replica result is

  pub joins_agree : (rows : List ConfigEntry) (replica : ℕ) (old : Caller) (dice : D)
      (result : Result Joining CallNo) (new : Caller) (after : D) (es : List Exchange)
      → IsJoinBy left count rows replica old dice result new after es → AgreeAll opens es
      → KeepsHonestBy opens old new
  joins_agree rows replica old dice result new after es is agree =
      join_keeps opens (λ made. PublishesBy left count rows dice made after es)
      (published_open rows dice after es agree) old new replica result is

  module _ (replica number : ℕ) (p : Publication) (old : Caller) (dice : D) (new : Caller)
      (after : D) (es : List Exchange) (agree : AgreeAll opens es) where
    -- the settings that are published anew are brought, or aren't
    others_agree : (Brings : List Exchange → Type 0) (r : RenewsAfter p.seeds es Brings)
        → AgreeAll opens r.others
    others_agree Brings r =
        (agree_parts opens r.asked r.others (subst (AgreeAll opens) r.exchanges_are agree)).1

    renews : (given : Answer) → RenewsAfter p.seeds es (λ others. BringsWhere
        (λ made. PublishesBy left count p.rows dice made after others)
        (reload_of replica (Some number)) old given new) → KeepsHonestBy opens old new
    renews given r =
        let Made : Result Publication PublishNo → Type 0 =
        λ made. PublishesBy left count p.rows dice made after r.others in
        brought_keeps opens Made
        (published_open p.rows dice after r.others (others_agree _ r)) old new
        (reload_of replica (Some number)) given
        (reload_keeping opens Made (published_open p.rows dice after r.others (others_agree _ r)) old new
        replica (Some number)) r.brings

    stops : (why : CallNo) → RenewsAfter p.seeds es (λ others. CutShortWhere
        (λ made. PublishesBy left count p.rows dice made after others)
        (reload_of replica (Some number)) replica old why new) → KeepsHonestBy opens old new
    stops why r =
        let Made : Result Publication PublishNo → Type 0 =
        λ made. PublishesBy left count p.rows dice made after r.others in
        cut_keeps opens Made
        (published_open p.rows dice after r.others (others_agree _ r)) old new
        (reload_of replica (Some number)) replica why
        (reload_keeping opens Made (published_open p.rows dice after r.others (others_agree _ r)) old new
        replica (Some number)) r.brings

    held_keeps : (result : Result Loaded CallNo)
        → RefreshesBy left count replica number p old dice result new after es
        → KeepsHonestBy opens old new
    held_keeps (Ok (loaded.Unchanged same)) r = keeps_same old new r.2 opens
    held_keeps (Ok (loaded.Generation made)) r = renews (answer.Reloaded made) r
    held_keeps (Ok (loaded.Moved current)) r = renews (answer.Moved current) r
    held_keeps (Ok (loaded.Refused verdict)) r = absurd r
    held_keeps (Err why) (inl r) = keeps_same old new r.1 opens
    held_keeps (Err why) (inr (inl r)) = keeps_same old new r.2 opens
    held_keeps (Err why) (inr (inr r)) = stops why r

  early_keeps : (replica : ℕ) (old new : Caller) (why : CallNo) → AdoptsNothing replica old why new
      → KeepsHonestBy opens old new
  early_keeps replica old new why a = nothing_adopted replica old new
      (KeepsHonestBy opens old new) (λ e. keeps_same old new e opens)
      (λ given stays e. keeps_adopt old new replica given e opens) why a

  go_keeps : {T : Type 0} (old : Caller) (done result : Result T CallNo) (new : Caller)
      → LetsGo old done result new → KeepsHonestBy opens old new
  go_keeps old done result new (inl g) = keeps_let_go old new answer.Released g.0 opens
  go_keeps old done result new (inr n) = keeps_same old new n.0.same opens

  pub refreshes_agree : (replica : ℕ) (old : Caller) (dice : D) (result : Result Loaded CallNo)
      (new : Caller) (after : D) (es : List Exchange)
      → IsRefreshBy left count replica old dice result new after es → AgreeAll opens es
      → KeepsHonestBy opens old new
  refreshes_agree replica old dice (Ok done) new after es (inl e) agree = absurd e
  refreshes_agree replica old dice (Err why) new after es (inl e) agree =
      early_keeps replica old new why e.0
  refreshes_agree replica old dice result new after es (inr h) agree = λ honest.
      go_keeps h.acted h.done result new h.lets_go
      (held_keeps replica h.number h.p h.adopted dice h.acted after es agree h.done h.does
      (keeps_adopt old h.adopted replica (answer.Adopted h.number h.p) h.adopts opens honest))
